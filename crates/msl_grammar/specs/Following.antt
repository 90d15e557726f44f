-- What a reader of a part of a script answers, by the reading of the tokens.
use Rattle.std.specs.Prelude.{List, Result}
use Rattle.msl_lex.specs.Lexemes.{Lexeme}
use Rattle.msl_read.specs.declared.fault.ReadFault.{ReadFault}
use Rattle.msl_read.specs.Parts as parts
use Rattle.msl_grammar.specs.ScriptGrammar.{State, on}

-- a part was read from these tokens up to the others, or it is refused
abbrev pub IsRead : {A : Type 0} → List Lexeme → ((A → State) → State) → List Lexeme → Result A ReadFault → Type 0
IsRead ts part rest r = parts.IsRead on ts part rest r

-- the same of a part that is nothing but its tokens
abbrev pub IsTaken : List Lexeme → (State → State) → List Lexeme → Result (Unit {0}) ReadFault → Type 0
IsTaken ts part rest r = parts.IsTaken on ts part rest r
