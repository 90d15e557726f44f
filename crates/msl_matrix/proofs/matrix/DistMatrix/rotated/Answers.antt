use Rattle.std.proofs.Common.{ℕ, ℤ, pos, List, [], ◌∷◌, length, Ok, refl, sym, subst, ap, ap₂, ◌∙◌}
use Rattle.msl_lists.specs.Whole.{Extent, at_stage, each, function_of}
use Rattle.msl_local.specs.Outcomes.{Stops}
use Rattle.msl_matrix.specs.Grids.{extent_of}
use Rattle.msl_matrix.specs.Matrices.{AreBlocks, Matrix, seen}
use Rattle.msl_matrix.specs.Rotations.{rotate}
use Rattle.msl_matrix.proofs.Rotated.{moved_blocks, rotated, stops}
use Rattle.msl_matrix.proofs.Taken.{each_long}
use Rattle.msl_matrix.proofs.matrix.DistMatrix.rotated.Goals as goal

pub moved-requires-clause-long : goal.moved-requires-clause-long
moved-requires-clause-long g c =
    let f = λ (s : ℕ). at_stage c.args.at.now.stage (function_of c.args.u.now (pos s ∷ [])) in
    ap length c.as_slice.ensures.value ∙ each_long c.lines.result f c.in-Ok.by.items c.in-Ok.ensures ∙ c.lines.ensures

pub of_blocks-requires : goal.of_blocks-requires
of_blocks-requires g c =
    let m = extent_of c.shape-shape.result in
    let blocks = c.blocks-in-Ok.result.now in
    let known = subst (λ (e : Extent). AreBlocks e blocks) (sym c.shape-shape.ensures.extent) c.blocks-in-Ok.ensures.blocks in
    moved_blocks m blocks known c.as_slice.result.now c.in_ok-blocks-in-Ok.blocks.items c.args.axis (c.if-not-is_even.ensures.0 refl) c.in_ok-blocks-in-Ok.ensures.blocks

pub returns-in_ok-blocks-in-Ok-clause-matrix : goal.returns-in_ok-blocks-in-Ok-clause-matrix
returns-in_ok-blocks-in-Ok-clause-matrix g c =
    let f = function_of c.args.u.now in
    let stage = c.args.at.now.stage in
    let axis = c.args.axis in
    let m = extent_of c.shape-shape.result in
    let blocks = c.blocks-in-Ok.result.now in
    let out = c.in_ok-blocks-in-Ok.blocks.items in
    let extent = c.shape-shape.ensures.extent in
    let known = subst (λ (e : Extent). AreBlocks e blocks) (sym extent) c.blocks-in-Ok.ensures.blocks in
    let by = ap (λ n. each n (λ (s : ℕ). at_stage stage (f (pos s ∷ [])))) (sym c.lines.ensures) ∙ c.in-Ok.ensures ∙ ap (λ (xs : List ℤ). Ok xs) (sym c.as_slice.ensures.value) in
    let elements = ap (λ (e : Extent). seen e blocks) extent ∙ c.blocks-in-Ok.ensures.seen in (
      ap₂ (λ (e : Extent) (xs : List ℤ). rotate axis f stage e xs) (sym extent) (sym elements)
          ∙ rotated m blocks known c.as_slice.result.now out axis (c.if-not-is_even.ensures.0 refl) c.in_ok-blocks-in-Ok.ensures.blocks f stage by
          ∙ ap (λ (xs : List ℤ). Ok xs) (sym (ap (λ (d : Matrix). d.elements) c.of_blocks.ensures)),
      ap (λ (d : Matrix). d.extent) c.of_blocks.ensures ∙ extent,
    )

pub returns-in-Err-clause-matrix : goal.returns-in-Err-clause-matrix
returns-in-Err-clause-matrix g c =
    let f = function_of c.args.u.now in
    let stage = c.args.at.now.stage in
    let m = extent_of c.shape-shape.result in
    let is = subst (λ n. Stops (each n (λ (s : ℕ). at_stage stage (f (pos s ∷ [])))) c.in-Err.h) c.lines.ensures c.in-Err.ensures in
    subst (λ (e : Extent). Stops (rotate c.args.axis f stage e c.args.self.now.elements) c.in-Err.h) c.shape-shape.ensures.extent
    (stops c.args.axis f stage m c.args.self.now.elements c.in-Err.h (c.if-not-is_even.ensures.0 refl) is)
