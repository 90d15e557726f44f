use Rattle.std.proofs.Common.{rules, ap, ◌∙◌}
use Rattle.msl_lists.specs.Whole.{zip_all}
use Rattle.msl_program.specs.declared.shape.Need.TheVariants as need
use Rattle.msl_program.specs.Data.{elements, value_of}
use Rattle.msl_data.specs.Tables.{held, values_of}
use Rattle.msl_data.proofs.Moved.{zipped_array, zipped_matrix}
use Rattle.msl_data.proofs.Values.{array_like, blocks_like, container_at, extent_like, matrix_like, used_is}
use Rattle.msl_data.proofs.context.Context.zip.Goals as goal

pub container-requires : goal.container-requires
container-requires g c = container_at c.requires.program c.args.self.now.table.now c.requires.shaped c.args.k c.requires.fits.1

pub array-other-requires : goal.array-other-requires
array-other-requires g c = array_like c.requires.program c.args.self.now.table.now c.requires.shaped need.Container c.args.k c.in-Array.array.now.blocks c.in-Array.array.now.elements c.requires.fits.1 (c.container.ensures ∙ ap held c.in-Array.is) c.args.l c.requires.fits.2

pub zip_with-requires-clause-blocks : goal.zip_with-requires-clause-blocks
zip_with-requires-clause-blocks g c =
    blocks_like c.requires.program c.args.self.now.table.now c.requires.shaped need.Container c.args.k c.in-Array.array.now.blocks c.in-Array.array.now.elements c.requires.fits.1 (c.container.ensures ∙ ap held c.in-Array.is) c.args.l c.requires.fits.2
    c.array-other.result.now.blocks c.array-other.result.now.elements c.array-other.ensures

pub returns-in-Array-clause-value : goal.returns-in-Array-clause-value
returns-in-Array-clause-value g c =
    let d = c.in-Array.array.now in
    let t = values_of c.args.self.now.table.now in
    let stage = c.args.at.now.stage in
    let same = used_is c.args.self.now.funs.now t c.args.u.now c.used.result c.used.ensures.funs c.used.ensures.at c.used.ensures.extra in
    zipped_array _ _ (value_of t c.args.k) c.map.result same (λ u v w. zip_all u stage (elements v) (elements w)) (value_of t c.args.l) _ c.array-other.ensures d.blocks d.elements c.zip_with.result (c.container.ensures ∙ ap held c.in-Array.is) c.zip_with.ensures.array (search rules)

pub matrix-other-requires : goal.matrix-other-requires
matrix-other-requires g c = matrix_like c.requires.program c.args.self.now.table.now c.requires.shaped c.args.k c.in-Matrix.matrix.now.extent c.in-Matrix.matrix.now.elements c.requires.fits.1 (c.container.ensures ∙ ap held c.in-Matrix.is) c.args.l c.requires.fits.2

pub zip_with-requires-in-Matrix-clause-extent : goal.zip_with-requires-in-Matrix-clause-extent
zip_with-requires-in-Matrix-clause-extent g c =
    extent_like c.requires.program c.args.self.now.table.now c.requires.shaped c.args.k c.in-Matrix.matrix.now.extent c.in-Matrix.matrix.now.elements c.requires.fits.1 (c.container.ensures ∙ ap held c.in-Matrix.is) c.args.l c.requires.fits.2
    c.matrix-other.result.now.extent c.matrix-other.result.now.elements c.matrix-other.ensures

pub returns-in-Matrix-clause-value : goal.returns-in-Matrix-clause-value
returns-in-Matrix-clause-value g c =
    let d = c.in-Matrix.matrix.now in
    let t = values_of c.args.self.now.table.now in
    let stage = c.args.at.now.stage in
    let same = used_is c.args.self.now.funs.now t c.args.u.now c.used-in-Matrix.result c.used-in-Matrix.ensures.funs c.used-in-Matrix.ensures.at c.used-in-Matrix.ensures.extra in
    zipped_matrix _ _ (value_of t c.args.k) c.map-in-Matrix.result same (λ u v w. zip_all u stage (elements v) (elements w)) (value_of t c.args.l) _ c.matrix-other.ensures d.extent d.elements c.zip_with-in-Matrix.result (c.container.ensures ∙ ap held c.in-Matrix.is) c.zip_with-in-Matrix.ensures.matrix (search rules)
