use Rattle.std.proofs.Common.{rules, ◌≡◌, ◌+◌, List, ℤ, drop, Ok, Err, sym, ap, ◌∙◌, FitsSigned, w64, of_z, to_z}
use Rattle.std.proofs.lemmas.Int.{to_z-of_z}
use Rattle.std.proofs.lemmas.List.{drop_all}
use Rattle.std.specs.Global.{Vec}
use Rattle.msl_lists.specs.Whole.{foldl_all, function_of}
use Rattle.msl_local.specs.Parts.{flat}
use Rattle.msl_array.proofs.Passes.{part_ok, part_err}
use Rattle.msl_array.proofs.array.DistArray.foldl.Goals as goal

pub loop-part-init : goal.loop-part-init
loop-part-init g c = ap (λ (xs : List ℤ). foldl_all (function_of c.args.u) c.args.at.now.stage (to_z w64 (of_z w64 c.args.first)) xs) c.parts-part-items.ensures.list

pub returns-in-Err-clause-number : goal.returns-in-Err-clause-number
returns-in-Err-clause-number g c =
    let f = function_of c.args.u in
    let stage = c.args.at.now.stage in
    let parts = c.parts-part-items.result.now in
    let i = c.loop-part.part-index in
    let s = to_z w64 c.loop-part.value-bits in
    let first : FitsSigned w64 c.args.first = search rules in
    let bad : foldl_all f stage s c.part-item.result.items ≡ Err c.in-Err.fault =
    ap (λ (xs : List ℤ). foldl_all f stage s xs) (sym c.as_slice.ensures.value) ∙ sym c.pass.ensures ∙ c.in-Err.is in
    ap (λ z. foldl_all f stage z c.args.self.now.elements) (sym (to_z-of_z w64 c.args.first first))
    ∙ sym c.loop-part.invariant
    ∙ part_err f stage s parts i c.part-item.result c.loop-part-test.true c.part-item.is c.in-Err.fault bad

pub loop-part-preserved : goal.loop-part-preserved
loop-part-preserved g c =
    let f = function_of c.args.u in
    let stage = c.args.at.now.stage in
    let parts = c.parts-part-items.result.now in
    let i = c.loop-part.part-index in
    let s = to_z w64 c.loop-part.value-bits in
    let next : FitsSigned w64 c.in-Ok.next = search rules in
    let good : foldl_all f stage s c.part-item.result.items ≡ Ok c.in-Ok.next =
    ap (λ (xs : List ℤ). foldl_all f stage s xs) (sym c.as_slice.ensures.value) ∙ sym c.pass.ensures ∙ c.in-Ok.is in
    ap (λ z. foldl_all f stage z (flat (drop (i + 1) parts))) (to_z-of_z w64 c.in-Ok.next next)
    ∙ sym (part_ok f stage s parts i c.part-item.result c.loop-part-test.true c.part-item.is c.in-Ok.next good)
    ∙ c.loop-part.invariant

pub returns-clause-number : goal.returns-clause-number
returns-clause-number g c =
    let f = function_of c.args.u in
    let stage = c.args.at.now.stage in
    let parts = c.parts-part-items.result.now in
    let s = to_z w64 c.loop-part.value-bits in
    let first : FitsSigned w64 c.args.first = search rules in
    ap (λ z. foldl_all f stage z c.args.self.now.elements) (sym (to_z-of_z w64 c.args.first first))
    ∙ sym c.loop-part.invariant
    ∙ ap (λ (rest : List (Vec ℤ)). foldl_all f stage s (flat rest)) (drop_all c.loop-part.part-index parts c.loop-part-test.false)
