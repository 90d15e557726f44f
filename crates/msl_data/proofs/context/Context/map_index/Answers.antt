use Rattle.std.proofs.Common.{ap, ◌∙◌}
use Rattle.msl_program.specs.declared.shape.Need.TheVariants as need
use Rattle.msl_data.specs.Tables.{held, values_of}
use Rattle.msl_data.proofs.Values.{container_at, given_of_array, given_of_matrix, takes}
use Rattle.msl_data.proofs.context.Context.map_index.Goals as goal

pub container-requires : goal.container-requires
container-requires g c = container_at c.requires.program c.args.self.now.table.now c.requires.shaped c.args.k c.requires.fits.1

pub map_index-requires : goal.map_index-requires
map_index-requires g c =
    takes c.args.self.now.funs.now c.requires.program (values_of c.args.self.now.table.now) _ 2 c.args.u.now c.used.result c.requires.fits.0 (given_of_array c.requires.program c.args.self.now.table.now c.requires.shaped need.Container c.args.k c.in-Array.array.now.blocks c.in-Array.array.now.elements c.requires.fits.1 (c.container.ensures ∙ ap held c.in-Array.is) 2 3)
    c.used.ensures.funs c.used.ensures.at c.used.ensures.extra

pub map_index-requires-in-Matrix : goal.map_index-requires-in-Matrix
map_index-requires-in-Matrix g c =
    takes c.args.self.now.funs.now c.requires.program (values_of c.args.self.now.table.now) _ 3 c.args.u.now c.used-in-Matrix.result c.requires.fits.0 (given_of_matrix c.requires.program c.args.self.now.table.now c.requires.shaped c.args.k c.in-Matrix.matrix.now.extent c.in-Matrix.matrix.now.elements c.requires.fits.1 (c.container.ensures ∙ ap held c.in-Matrix.is) 2 3)
    c.used-in-Matrix.ensures.funs c.used-in-Matrix.ensures.at c.used-in-Matrix.ensures.extra
