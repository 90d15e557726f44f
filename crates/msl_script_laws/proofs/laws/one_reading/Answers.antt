use Rattle.std.proofs.Common.{◌≡◌, ℕ, List, Result, Ok, Err, inl, inr, refl, sym, ◌∙◌}
use Rattle.msl_read.specs.Reading.{Refusal}
use Rattle.msl_program.specs.Script.{Script}
use Rattle.msl_grammar.specs.ScriptGrammar.{script_of_text}
use Rattle.msl_grammar.proofs.Texts.{computed, of_computed}
use Rattle.msl_script_read.specs.ScriptReading.{HasReading}
use Rattle.msl_script_laws.proofs.laws.one_reading.Goals as goal

either : (text : List ℕ) (r : Result Script Refusal) → script_of_text text ≡ r → HasReading text
either text (Ok s) is = inl (s, of_computed text (Ok s) is)
either text (Err r) is = inr (r, of_computed text (Err r) is)

pub returns-clause-some : goal.returns-clause-some
returns-clause-some c = either c.args.text.now (script_of_text c.args.text.now) refl

pub returns-clause-apart : goal.returns-clause-apart
returns-clause-apart c = λ s r is refused. let both : ◌≡◌ {A = Result Script Refusal} (Ok s) (Err r) = sym (computed is) ∙ computed refused in cc

pub returns-clause-one : goal.returns-clause-one
returns-clause-one c = λ s t is also. let both : ◌≡◌ {A = Result Script Refusal} (Ok s) (Ok t) = sym (computed is) ∙ computed also in cc

pub returns-clause-computed : goal.returns-clause-computed
returns-clause-computed c = of_computed c.args.text.now (script_of_text c.args.text.now) refl
