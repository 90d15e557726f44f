use Rattle.std.proofs.Common.{arith, ◌≡◌, ◌⊎◌, ◌<◌, ◌≤◌, ℕ, inl, inr, refl, subst, ◌∙◌}
use Rattle.msl_program.specs.Need.{need}
use Rattle.msl_stage.specs.Endings.{ends}
use Rattle.msl_run.specs.TopCall.{Checks, check_text}
use Rattle.msl_run.proofs.Scripts.{given, wrote_as}
use Rattle.msl_run.proofs.run.check_given.Goals.{else-have-gt0-via-then-have-gt0+else-needed-from, else-have-gt0-via-else-have-gt0}
use Rattle.msl_run.proofs.run.check_given.Goals as goal

pub returns-in-Ok-clause-checked : goal.returns-in-Ok-clause-checked
returns-in-Ok-clause-checked g c left =
    let s = c.args.script.now in
    let held = g.K.Sink.held c.args.out.now in
    let now = g.K.Sink.held c.put.new.out in
    let served : (c.args.have < 1) ⊎ (need s ≤ c.args.have) = elim c.else-have-gt0.branch [
      | else-have-gt0-via-then-have-gt0+else-needed-from w ↦ inr (omega (arith, w.if-needed-from, w.from.ensures, c.need-needed.ensures))
      | else-have-gt0-via-else-have-gt0 w ↦ inl (omega (arith, w.if-have-gt0))
    ] in
    let text = c.as_slice.ensures.value ∙ c.in-Ok.ensures in
    given c.args.have Checks s (ends left left held now) c.put.result served
    (refl, wrote_as _ (λ t. t ≡ check_text s) (λ t is. is ∙ text) held now c.put.result c.put.ensures.wrote)
