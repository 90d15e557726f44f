use Rattle.std.proofs.Common.{◌≡◌, ℤ, List, [], ◌++◌, length, subst, ap, ◌∙◌, length-append}
use Rattle.msl_fun.specs.Meaning.{Counted, Answers, width_of}
use Rattle.msl_fun.specs.declared.funs.Fun.{Fun}
use Rattle.msl_fun.proofs.Functions.{fits_scope, means}
use Rattle.msl_fun.proofs.muscle.Use.eval.Goals as goal

-- the scope is the first arguments and then the others
joined : (extra args start none first all : List ℤ) → start ≡ extra → none ≡ [] → first ≡ none ++ start → all ≡ first ++ args → all ≡ extra ++ args
joined extra args start none first all p q r s =
    s ∙ ap (λ (xs : List ℤ). xs ++ args) (r ∙ ap (λ (xs : List ℤ). xs ++ start) q ∙ p)

pub evaluate-requires-clause-results : goal.evaluate-requires-clause-results
evaluate-requires-clause-results c =
    let m = c.args.self.now.f in
    let extra = c.args.self.now.extra in
    let f = c.get-f.result.now in
    let same = joined extra c.args.args.now c.as_slice.result.now c.new-scope.result c.extend.new.self c.extend-2.new.self c.as_slice.ensures.numbers c.new-scope.ensures c.extend.ensures c.extend-2.ensures in
    fits_scope m.funs.now m.at f c.known.result.now c.as_slice-2.result.now c.known.ensures.list c.as_slice-2.ensures c.extend-2.new.self (extra ++ c.args.args.now)
    c.get-f.ensures.rules same (length-append extra c.args.args.now ∙ c.requires.args ∙ ap (width_of (λ (f : Fun). length f.params)) c.get-f.ensures.found)

pub returns : goal.returns
returns c =
    let m = c.args.self.now.f in
    let extra = c.args.self.now.extra in
    let same = joined extra c.args.args.now c.as_slice.result.now c.new-scope.result c.extend.new.self c.extend-2.new.self c.as_slice.ensures.numbers c.new-scope.ensures c.extend.ensures c.extend-2.ensures in
    subst (λ (w : Counted (List ℤ)). Answers w c.evaluate.result c.evaluate.new.out)
    (means m.funs.now m.at c.get-f.result.now c.known.result.now c.as_slice-2.result.now c.known.ensures.list c.as_slice-2.ensures c.extend-2.new.self (extra ++ c.args.args.now) c.get-f.ensures.found same)
    c.evaluate.ensures.result
