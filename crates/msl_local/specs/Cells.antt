-- What a function in use gives, place by place and as a whole.
use Rattle.std.specs.Prelude.{ℕ, ℤ, pos, List, [], ◌∷◌, length, Result}
use Rattle.msl_base.specs.declared.fault.Fault.{Fault}
use Rattle.msl_lists.specs.Whole.{Function, at_stage, each, function_of, map_all, map_index, zip_all, zip_index}
use Rattle.msl_local.specs.declared.elements.Elements.{Elements}
use Rattle.msl_local.specs.declared.inputs.Inputs.{Inputs}
use Rattle.msl_local.specs.declared.inputs.Inputs.TheVariants.{Map, MapIndex, Zip, ZipIndex, Place, MapCell, ZipCell}
use Rattle.msl_local.specs.Parts.{flat}
use Rattle.msl_local.specs.Places.{taken}

-- the outcome at place i
abbrev pub cells : Elements → ℕ → Result ℤ Fault
cells w i = at_stage w.stage (function_of w.u (taken w.inputs i))

-- the operation on whole lists
abbrev pub whole : Function → ℕ → Inputs → Result (List ℤ) Fault
whole u stage (Map a) = map_all u stage (flat a.now)
whole u stage (MapIndex a) = map_index u stage (flat a.now)
whole u stage (Zip a c) = zip_all u stage (flat a.now) (flat c.now)
whole u stage (ZipIndex a c) = zip_index u stage (flat a.now) (flat c.now)
whole u stage (Place a) = each (length (flat a.now)) (λ i. at_stage stage (u (pos i ∷ [])))
whole u stage (MapCell a w) = each (length (flat a.now)) (λ i. at_stage stage (u (taken (MapCell a w) i)))
whole u stage (ZipCell a c w) = each (length (flat a.now)) (λ i. at_stage stage (u (taken (ZipCell a c w) i)))
