use Rattle.std.proofs.Common.{◌*◌, length, sym, subst, ap, ◌∙◌}
use Rattle.msl_lists.specs.Whole.{Extent}
use Rattle.msl_matrix.specs.Grids.{extent_of}
use Rattle.msl_matrix.specs.Matrices.{AreBlocks, seen}
use Rattle.msl_matrix.proofs.Reading.{read_all}
use Rattle.msl_matrix.proofs.Seen.{long_seen}
use Rattle.msl_matrix.proofs.matrix.DistMatrix.in_rows.Goals as goal

pub returns-clause-list : goal.returns-clause-list
returns-clause-list c =
    let m = extent_of c.shape-shape.result in
    let blocks = c.blocks-2.result.now in
    let known = subst (λ (e : Extent). AreBlocks e blocks) (sym c.shape-shape.ensures.extent) c.blocks-2.ensures.blocks in
    read_all m blocks known c.put_rows.new.all c.put_rows.ensures
    ∙ ap (λ (e : Extent). seen e blocks) c.shape-shape.ensures.extent
    ∙ c.blocks-2.ensures.seen

pub returns-clause-long : goal.returns-clause-long
returns-clause-long c =
    let m = extent_of c.shape-shape.result in
    let blocks = c.blocks-2.result.now in
    let known = subst (λ (e : Extent). AreBlocks e blocks) (sym c.shape-shape.ensures.extent) c.blocks-2.ensures.blocks in
    ap length (read_all m blocks known c.put_rows.new.all c.put_rows.ensures)
    ∙ long_seen m c.shape-shape.ensures.limits blocks
    ∙ ap (λ (e : Extent). e.rows * e.cols) c.shape-shape.ensures.extent
