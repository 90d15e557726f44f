-- The outcomes at all places are what the operation on whole lists gives.
use Rattle.std.proofs.Common.{◌≡◌, ◌<◌, ◌+◌, ℕ, ℤ, List, length, slice_index_or, Result, refl, sym, ap, ◌∙◌, arith}
use Rattle.std.specs.Global.{Vec}
use Rattle.std.proofs.lemmas.Bool.Decides.{nat_tests}
use Rattle.msl_base.specs.declared.fault.Fault.{Fault}
use Rattle.msl_lists.specs.Whole.{Function, at, at_stage, each, if_same_length}
use Rattle.msl_local.specs.declared.inputs.Inputs.{Inputs}
use Rattle.msl_local.specs.declared.inputs.Inputs.TheVariants.{Map, MapIndex, Zip, ZipIndex, Place, MapCell, ZipCell}
use Rattle.msl_local.specs.Parts.{flat, lengths, start}
use Rattle.msl_local.specs.Places.{places, taken, parts_of, others}
use Rattle.msl_local.specs.Cells.{whole}
use Rattle.msl_local.proofs.Lists.{size, at_part, flat_alike, start_alike, many_alike, size_alike}

same_length : (stage : ℕ) (a c : List ℤ) (r : Result (List ℤ) Fault) → length c ≡ length a → if_same_length stage a c r ≡ r
same_length stage a c r h = grind (arith, nat_tests)

pub whole_is : (u : Function) (stage : ℕ) (inputs : Inputs) → lengths (others inputs) ≡ lengths (parts_of inputs) → whole u stage inputs ≡ each (places inputs) (λ i. at_stage stage (u (taken inputs i)))
whole_is u stage (Map a) h = refl
whole_is u stage (MapIndex a) h = refl
whole_is u stage (Zip a c) h = same_length stage (flat a.now) (flat c.now) _ (flat_alike a.now c.now h)
whole_is u stage (ZipIndex a c) h = same_length stage (flat a.now) (flat c.now) _ (flat_alike a.now c.now h)
whole_is u stage (Place a) h = refl
whole_is u stage (MapCell a w) h = refl
whole_is u stage (ZipCell a c w) h = refl

-- element k of part m of a second list, which has parts of the same lengths
pub at_other : (a c : List (Vec ℤ)) (m k : ℕ) (d e : Vec ℤ) → lengths c ≡ lengths a → m < length a → k < size (slice_index_or a m d) → at (flat c) (start a m + k) ≡ at ((slice_index_or c m e).items) k
at_other a c m k d e h lt inside =
    let many = many_alike a c h in
    let wide = size_alike a c m e d h lt in
    ap (λ s. at (flat c) (s + k)) (sym (start_alike a c m h)) ∙ at_part c m k e (omega (arith, many, lt)) (omega (arith, wide, inside))
