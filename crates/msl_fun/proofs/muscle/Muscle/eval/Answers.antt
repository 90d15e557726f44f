use Rattle.std.proofs.Common.{◌≡◌, ℤ, List, [], ◌++◌, length, ap, ◌∙◌, subst}
use Rattle.msl_fun.specs.Meaning.{Counted, Answers, width_of}
use Rattle.msl_fun.specs.declared.funs.Fun.{Fun}
use Rattle.msl_fun.proofs.Functions.{fits_scope, means}
use Rattle.msl_fun.proofs.muscle.Muscle.eval.Goals as goal

-- the scope is the arguments
filled : (args none all : List ℤ) → none ≡ [] → all ≡ none ++ args → all ≡ args
filled args none all p q = q ∙ ap (λ (xs : List ℤ). xs ++ args) p

pub evaluate-requires-clause-results : goal.evaluate-requires-clause-results
evaluate-requires-clause-results c =
    let m = c.args.self.now in
    let same = filled c.args.args.now c.new-scope.result c.extend.new.self c.new-scope.ensures c.extend.ensures in
    fits_scope m.funs.now m.at c.get-f.result.now c.known.result.now c.as_slice.result.now c.known.ensures.list c.as_slice.ensures c.extend.new.self c.args.args.now
    c.get-f.ensures.rules same (c.requires.args ∙ ap (width_of (λ (f : Fun). length f.params)) c.get-f.ensures.found)

pub returns : goal.returns
returns c =
    let m = c.args.self.now in
    let same = filled c.args.args.now c.new-scope.result c.extend.new.self c.new-scope.ensures c.extend.ensures in
    subst (λ (w : Counted (List ℤ)). Answers w c.evaluate.result c.evaluate.new.out)
    (means m.funs.now m.at c.get-f.result.now c.known.result.now c.as_slice.result.now c.known.ensures.list c.as_slice.ensures c.extend.new.self c.args.args.now c.get-f.ensures.found same)
    c.evaluate.ensures.result
