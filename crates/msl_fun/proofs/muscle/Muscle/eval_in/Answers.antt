use Rattle.std.proofs.Common.{List, ℤ, length, refl, ap, ◌∙◌, subst}
use Rattle.msl_fun.specs.Meaning.{Counted, Answers, width_of}
use Rattle.msl_fun.specs.declared.funs.Fun.{Fun}
use Rattle.msl_fun.proofs.Functions.{fits_scope, means}
use Rattle.msl_fun.proofs.muscle.Muscle.eval_in.Goals as goal

pub evaluate-requires-clause-results : goal.evaluate-requires-clause-results
evaluate-requires-clause-results c =
    let m = c.args.self.now in
    fits_scope m.funs.now m.at c.get-f.result.now c.known.result.now c.as_slice.result.now c.known.ensures.list c.as_slice.ensures c.args.scope.now c.args.scope.now
    c.get-f.ensures.rules refl (c.requires.args ∙ ap (width_of (λ (f : Fun). length f.params)) c.get-f.ensures.found)

pub returns-clause-result : goal.returns-clause-result
returns-clause-result c =
    let m = c.args.self.now in
    subst (λ (w : Counted (List ℤ)). Answers w c.evaluate.result c.evaluate.new.out)
    (means m.funs.now m.at c.get-f.result.now c.known.result.now c.as_slice.result.now c.known.ensures.list c.as_slice.ensures c.args.scope.now c.args.scope.now c.get-f.ensures.found refl)
    c.evaluate.ensures.result
