use Rattle.std.proofs.Common.{◌≡◌, ℤ, List, length, Ok, sym, subst, ap, ◌∙◌}
use Rattle.std.specs.Global.{Vec}
use Rattle.msl_lists.specs.Whole.{function_of, permute}
use Rattle.msl_local.specs.Parts.{flat}
use Rattle.msl_array.specs.Arrays.{Blocked}
use Rattle.msl_array.specs.Moves.{ArePlaces, IsMoved}
use Rattle.msl_array.proofs.Answered.{target_places, moved_elements}
use Rattle.msl_array.proofs.array.DistArray.permute.Goals as goal

pub moved-requires-clause-places : goal.moved-requires-clause-places
moved-requires-clause-places g c =
    let n = length (flat c.parts-xs.result.now) in
    subst (λ (p : List (Vec ℤ)). ArePlaces n (flat p)) (sym c.as_slice.ensures.value) (target_places (function_of c.args.u) c.args.at.now.stage n (flat c.in_ok-to.to.items) c.in_ok-to.ensures.targets.0)

pub returns-clause-array : goal.returns-clause-array
returns-clause-array g c =
    let f = function_of c.args.u in
    let stage = c.args.at.now.stage in
    let xs = flat c.parts-xs.result.now in
    let ts = flat c.in_ok-to.to.items in
    let v = c.in_ok-all.all.items in
    let moved : IsMoved ts xs v = subst (λ (p : List (Vec ℤ)). IsMoved (flat p) xs v) c.as_slice.ensures.value c.in_ok-all.ensures in
    let answer : permute f stage xs ≡ Ok v = moved_elements f stage xs ts v c.in_ok-to.ensures.targets.0 moved in
    let laid : flat c.in_ok-parts.parts.items ≡ v = c.in_ok-parts.ensures.list ∙ c.as_slice-2.ensures.value in
    let elements : c.of_parts.result.elements ≡ v = ap (λ (d : Blocked). d.elements) c.of_parts.ensures ∙ laid in
    (ap (permute f stage) (sym c.parts-xs.ensures.list) ∙ answer ∙ ap Ok (sym elements), ap (λ (d : Blocked). d.blocks) c.of_parts.ensures ∙ c.blocks-blocks.ensures.blocks)
