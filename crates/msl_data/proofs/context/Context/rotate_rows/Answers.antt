use Rattle.std.proofs.Common.{rules}
use Rattle.msl_lists.specs.Whole.{rotate_rows}
use Rattle.msl_program.specs.Data.{elements, extent_of, value_of}
use Rattle.msl_data.specs.Tables.{values_of}
use Rattle.msl_data.proofs.Moved.{moved_matrix}
use Rattle.msl_data.proofs.Values.{matrix_at, used_is}
use Rattle.msl_data.proofs.context.Context.rotate_rows.Goals as goal

pub matrix-matrix-requires : goal.matrix-matrix-requires
matrix-matrix-requires g c = matrix_at c.requires.program c.args.self.now.table.now c.requires.shaped c.args.k c.requires.fits.1

pub returns-clause-value : goal.returns-clause-value
returns-clause-value g c =
    let d = c.matrix-matrix.result.now in
    let t = values_of c.args.self.now.table.now in
    let stage = c.args.at.now.stage in
    let same = used_is c.args.self.now.funs.now t c.args.u.now c.used.result c.used.ensures.funs c.used.ensures.at c.used.ensures.extra in
    moved_matrix _ _ (value_of t c.args.k) c.map.result same (λ u v. rotate_rows u stage (extent_of v) (elements v)) d.extent d.elements c.rotate_rows.result c.matrix-matrix.ensures c.rotate_rows.ensures.matrix (search rules)
