-- What a parser of functions among the tokens of a text answers.
use Rattle.std.specs.Prelude.{◌≡◌, ℕ, List, drop, Result, Ok, Err}
use Rattle.msl_lex.specs.Lexemes.{Lexeme}
use Rattle.msl_fun.specs.declared.funs.Fun.{Fun}
use Rattle.msl_read.specs.declared.fault.ReadFault.{ReadFault}
use Rattle.msl_base.specs.Names.{Text}
use Rattle.msl_fun_read.specs.Grammar.{read_fun}
use Rattle.msl_read.specs.Refusals.{IsRefused}

-- the function that begins at a place among the tokens, and the place behind it; or why there is none
abbrev pub IsFunAt : List Fun → List Text → List Lexeme → ℕ → Result (Fun × ℕ) ReadFault → Type 0
IsFunAt funs others tokens from (Ok r) = read_fun funs others (drop from tokens) ≡ Ok (r.0, drop r.1 tokens)
IsFunAt funs others tokens from (Err e) = IsRefused (read_fun funs others (drop from tokens)) e
