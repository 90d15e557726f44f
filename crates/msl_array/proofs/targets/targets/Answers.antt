use Rattle.std.proofs.Common.{◌≡◌, ℤ, pos, [], ◌∷◌, List, true, false, length, Ok, sym, ap, ◌∙◌, arith}
use Rattle.std.specs.Global.{Vec}
use Rattle.msl_fun.specs.declared.muscle.Use.{Use}
use Rattle.msl_lists.specs.Whole.{at_stage, each, function_of, is_bijection}
use Rattle.msl_local.specs.Cells.{whole}
use Rattle.msl_local.specs.Parts.{flat, lengths}
use Rattle.msl_local.specs.Places.{parts_of}
use Rattle.msl_local.proofs.Lists.{flat_alike}
use Rattle.msl_array.proofs.Moved.{accepted, rejected}
use Rattle.msl_array.proofs.targets.targets.Goals as goal

pub is_permutation-requires : goal.is_permutation-requires
is_permutation-requires g c =
    let like : lengths c.in_ok-targets.targets.items ≡ lengths c.args.places.now = c.in_ok-targets.ensures.1 ∙ ap (λ inputs. lengths (parts_of inputs)) c.new-work.ensures.inputs in
    omega (arith, flat_alike c.args.places.now c.in_ok-targets.targets.items like, ap (λ (p : List (Vec ℤ)). length (flat p)) c.as_slice.ensures.value, c.requires.few)

pub returns-then-branch-clause-targets : goal.returns-then-branch-clause-targets
returns-then-branch-clause-targets g c =
    let w = c.new-work.result in
    let f = function_of c.args.u in
    let stage = c.args.at.now.stage in
    let n = length (flat c.args.places.now) in
    let ts = flat c.in_ok-targets.targets.items in
    let like : lengths c.in_ok-targets.targets.items ≡ lengths c.args.places.now = c.in_ok-targets.ensures.1 ∙ ap (λ inputs. lengths (parts_of inputs)) c.new-work.ensures.inputs in
    let many : length ts ≡ n = flat_alike c.args.places.now c.in_ok-targets.targets.items like in
    let read : flat c.as_slice.result.now ≡ ts = ap flat c.as_slice.ensures.value in
    let given : each n (λ i. at_stage stage (f (pos i ∷ []))) ≡ Ok ts =
    sym (ap (λ (u : Use). whole (function_of u) w.stage w.inputs) c.new-work.ensures.u ∙ ap (λ s. whole f s w.inputs) c.new-work.ensures.stage ∙ ap (whole f stage) c.new-work.ensures.inputs) ∙ c.in_ok-targets.ensures.0 in
    let passes : is_bijection n ts ≡ true =
    sym (ap (λ k. is_bijection k ts) (ap length read ∙ many)) ∙ sym (ap (is_bijection (length (flat c.as_slice.result.now))) read) ∙ sym c.in_ok-is_permutation.ensures ∙ c.if-branch.true in
    (accepted f stage n ts given passes, like)

pub returns-else-branch-clause-targets : goal.returns-else-branch-clause-targets
returns-else-branch-clause-targets g c =
    let w = c.new-work.result in
    let f = function_of c.args.u in
    let stage = c.args.at.now.stage in
    let n = length (flat c.args.places.now) in
    let ts = flat c.in_ok-targets.targets.items in
    let like : lengths c.in_ok-targets.targets.items ≡ lengths c.args.places.now = c.in_ok-targets.ensures.1 ∙ ap (λ inputs. lengths (parts_of inputs)) c.new-work.ensures.inputs in
    let many : length ts ≡ n = flat_alike c.args.places.now c.in_ok-targets.targets.items like in
    let read : flat c.as_slice.result.now ≡ ts = ap flat c.as_slice.ensures.value in
    let given : each n (λ i. at_stage stage (f (pos i ∷ []))) ≡ Ok ts =
    sym (ap (λ (u : Use). whole (function_of u) w.stage w.inputs) c.new-work.ensures.u ∙ ap (λ s. whole f s w.inputs) c.new-work.ensures.stage ∙ ap (whole f stage) c.new-work.ensures.inputs) ∙ c.in_ok-targets.ensures.0 in
    let fails : is_bijection n ts ≡ false =
    sym (ap (λ k. is_bijection k ts) (ap length read ∙ many)) ∙ sym (ap (is_bijection (length (flat c.as_slice.result.now))) read) ∙ sym c.in_ok-is_permutation.ensures ∙ c.if-branch.false in
    rejected f stage n ts given fails
