use Rattle.std.proofs.Common.{rules, ◌≡◌, ◌+◌, [], ◌∷◌, drop, pos, slice_index_or, Ok, Err, sym, ap, ◌∙◌, FitsSigned, w64, of_z, to_z}
use Rattle.std.proofs.lemmas.Int.{to_z-of_z}
use Rattle.msl_lists.specs.Whole.{at_stage, foldl_all, function_of}
use Rattle.msl_array.proofs.Passes.{step_ok, step_err}
use Rattle.msl_array.proofs.folds.pass.Goals as goal

pub returns-in-Err : goal.returns-in-Err
returns-in-Err c =
    let f = function_of c.args.u.now in
    let stage = c.args.stage in
    let xs = c.args.xs.now in
    let i = c.loop-x.x-index in
    let s = to_z w64 c.loop-x.value-bits in
    let x = to_z w64 (of_z w64 (slice_index_or xs i (pos 0))) in
    let read : FitsSigned w64 (slice_index_or xs i (pos 0)) = search rules in
    let first : FitsSigned w64 c.args.first = search rules in
    let bad : at_stage stage (f (s ∷ x ∷ [])) ≡ Err c.in-Err.fault = sym c.step.ensures ∙ c.in-Err.is in
    sym (step_err f stage s xs i x c.loop-x-test.true (to_z-of_z w64 (slice_index_or xs i (pos 0)) read) c.in-Err.fault bad)
    ∙ c.loop-x.invariant
    ∙ ap (λ z. foldl_all f stage z xs) (to_z-of_z w64 c.args.first first)

pub loop-x-preserved : goal.loop-x-preserved
loop-x-preserved c =
    let f = function_of c.args.u.now in
    let stage = c.args.stage in
    let xs = c.args.xs.now in
    let i = c.loop-x.x-index in
    let s = to_z w64 c.loop-x.value-bits in
    let x = to_z w64 (of_z w64 (slice_index_or xs i (pos 0))) in
    let read : FitsSigned w64 (slice_index_or xs i (pos 0)) = search rules in
    let next : FitsSigned w64 c.in-Ok.next = search rules in
    let good : at_stage stage (f (s ∷ x ∷ [])) ≡ Ok c.in-Ok.next = sym c.step.ensures ∙ c.in-Ok.is in
    ap (λ z. foldl_all f stage z (drop (i + 1) xs)) (to_z-of_z w64 c.in-Ok.next next)
    ∙ sym (step_ok f stage s xs i x c.loop-x-test.true (to_z-of_z w64 (slice_index_or xs i (pos 0)) read) c.in-Ok.next good)
    ∙ c.loop-x.invariant
