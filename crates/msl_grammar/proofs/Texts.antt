-- What a text is read as is what is computed of it.
use Rattle.std.proofs.Common.{◌≡◌, ℕ, List, Result, ap, ◌∙◌}
use Rattle.msl_lex.specs.Computing.{lexemes}
use Rattle.msl_lex.proofs.Layouts.{reads_as_lexemes}
use Rattle.msl_lex.proofs.Readings.{lexemes_from-layout}
use Rattle.msl_read.specs.Reading.{Refusal}
use Rattle.msl_program.specs.Script.{Script}
use Rattle.msl_grammar.specs.ScriptGrammar.{of_tokens, ReadsTo, script_of_text}

pub computed : {text : List ℕ} {r : Result Script Refusal} → ReadsTo text r → script_of_text text ≡ r
computed h = ap of_tokens (lexemes_from-layout h.laid) ∙ h.read

pub of_computed : (text : List ℕ) (r : Result Script Refusal) → script_of_text text ≡ r → ReadsTo text r
of_computed text r e = record { said = lexemes text; laid = reads_as_lexemes text; read = e }
