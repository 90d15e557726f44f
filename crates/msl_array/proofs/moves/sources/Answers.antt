use Rattle.std.proofs.Common.{◌≡◌, ℕ, ℤ, pos, List, length, Ok, sym, subst, ap, ◌∙◌, arith}
use Rattle.std.specs.Global.{Vec}
use Rattle.msl_lists.specs.Whole.{at, function_of, list_by, targets_of}
use Rattle.msl_lists.proofs.WholeMoves.{long_by, at_by}
use Rattle.msl_local.specs.Outcomes.{Stops}
use Rattle.msl_local.specs.Parts.{flat}
use Rattle.msl_array.specs.Moves.{ArePlaces, IsMoved}
use Rattle.msl_array.proofs.Answered.{target_places, lands_at, bijective}
use Rattle.msl_array.proofs.moves.sources.Goals as goal

many : (b : ℕ) (xs : List ℤ) → xs ≡ list_by b pos → length xs ≡ b
many b xs e = ap length e ∙ long_by b pos

pub targets-requires-clause-few : goal.targets-requires-clause-few
targets-requires-clause-few g c =
    let long = many c.args.blocks (flat c.as_slice-numbers.result.now) (ap flat c.as_slice-numbers.ensures.value ∙ c.in_ok-places.ensures) in
    omega (arith, long, c.requires.few)

pub moved-requires-clause-places : goal.moved-requires-clause-places
moved-requires-clause-places g c =
    let n = length (flat c.as_slice-numbers.result.now) in
    subst (λ (p : List (Vec ℤ)). ArePlaces n (flat p)) (sym c.as_slice.ensures.value) (target_places (function_of c.args.u) c.args.at.now.stage n (flat c.in-Ok.to.items) c.in-Ok.ensures.targets.0)

pub moved-requires-clause-few : goal.moved-requires-clause-few
moved-requires-clause-few g c =
    let long = many c.args.blocks (flat c.as_slice-numbers.result.now) (ap flat c.as_slice-numbers.ensures.value ∙ c.in_ok-places.ensures) in
    omega (arith, long, c.requires.few)

pub returns-in-Ok-clause-sources : goal.returns-in-Ok-clause-sources
returns-in-Ok-clause-sources g c =
    let b = c.args.blocks in
    let f = function_of c.args.u in
    let stage = c.args.at.now.stage in
    let xs = flat c.as_slice-numbers.result.now in
    let ts = flat c.in-Ok.to.items in
    let v = c.in_ok-moved-in-Ok.field-0.items in
    let numbers : xs ≡ list_by b pos = ap flat c.as_slice-numbers.ensures.value ∙ c.in_ok-places.ensures in
    let long : length xs ≡ b = many b xs numbers in
    let given : targets_of f stage b ≡ Ok ts = ap (targets_of f stage) (sym long) ∙ c.in-Ok.ensures.targets.0 in
    let moved : IsMoved ts xs v = subst (λ (p : List (Vec ℤ)). IsMoved (flat p) xs v) c.as_slice.ensures.value c.in_ok-moved-in-Ok.ensures in
    (bijective f stage b ts given, moved.long ∙ long, λ j to lt e. lands_at f stage b ts given xs v long moved j to lt e ∙ ap (λ (ys : List ℤ). at ys j) numbers ∙ at_by b pos j lt)

pub returns-clause-sources : goal.returns-clause-sources
returns-clause-sources g c =
    let long = many c.args.blocks (flat c.as_slice-numbers.result.now) (ap flat c.as_slice-numbers.ensures.value ∙ c.in_ok-places.ensures) in
    subst (λ n. Stops (targets_of (function_of c.args.u) c.args.at.now.stage n) c.in-Err.h) long c.in-Err.ensures.targets
