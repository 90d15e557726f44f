-- The text is read as the script, and never refused.
use Rattle.std.proofs.Common.{◌≡◌, ℕ, List, ap, subst, Result, Ok, Err}
use Rattle.msl_read.specs.Reading.{Refusal}
use Rattle.msl_program.specs.Script.{Script}
use Rattle.msl_grammar.specs.ScriptGrammar.{ReadsTo}
use Rattle.msl_demo_laws.specs.Demo.{demo_text}
use Rattle.msl_demo_laws.specs.Script.{demo_script}
use Rattle.msl_demo_laws.proofs.OneLine.{is_read_only_so}

abbrev script_else : Script → Result Script Refusal → Script
script_else other (Ok s) = s
script_else other (Err e) = other

not_ok : (e : Refusal) (s : Script) → Err e ≡ Ok s → ⊥
not_ok e s is = cc

module _ (text : List ℕ) (is : text ≡ demo_text) where
  pub read_only_so : (s : Script) → ReadsTo text (Ok s) → s ≡ demo_script
  read_only_so s reads = ap (script_else demo_script) (is_read_only_so (Ok s) (subst (λ (t : List ℕ). ReadsTo t (Ok s)) is reads))

  pub never_refused : (e : Refusal) → ReadsTo text (Err e) → ⊥
  never_refused e refused = not_ok e demo_script (is_read_only_so (Err e) (subst (λ (t : List ℕ). ReadsTo t (Err e)) is refused))
