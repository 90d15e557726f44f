-- Texts in their canonical form.
use Rattle.std.specs.Prelude.{ℕ, List, [], Result, Ok, Err}
use Rattle.msl_lex.specs.Printing.{text_of}
use Rattle.msl_read.specs.Reading.{Refusal}
use Rattle.msl_program.specs.declared.script.Script.{Script}
use Rattle.msl_grammar.specs.ScriptGrammar.{script_of_text}
use Rattle.msl_script_print.specs.ScriptText.{script_bits}

abbrev pub printed : Result Script Refusal → List ℕ
printed (Ok s) = text_of (script_bits s)
printed (Err e) = []

-- the canonical text of the script that a text is
abbrev pub canonical : List ℕ → List ℕ
canonical text = printed (script_of_text text)
