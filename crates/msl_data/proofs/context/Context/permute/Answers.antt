use Rattle.std.proofs.Common.{rules}
use Rattle.msl_lists.specs.Whole.{permute}
use Rattle.msl_program.specs.Data.{elements, value_of}
use Rattle.msl_data.specs.Tables.{values_of}
use Rattle.msl_data.proofs.Moved.{moved_array}
use Rattle.msl_data.proofs.Values.{array_at, used_is}
use Rattle.msl_data.proofs.context.Context.permute.Goals as goal

pub array-array-requires : goal.array-array-requires
array-array-requires g c = array_at c.requires.program c.args.self.now.table.now c.requires.shaped c.args.k c.requires.fits.1

pub returns-clause-value : goal.returns-clause-value
returns-clause-value g c =
    let d = c.array-array.result.now in
    let t = values_of c.args.self.now.table.now in
    let stage = c.args.at.now.stage in
    let same = used_is c.args.self.now.funs.now t c.args.u.now c.used.result c.used.ensures.funs c.used.ensures.at c.used.ensures.extra in
    moved_array _ _ (value_of t c.args.k) c.map.result same (λ u v. permute u stage (elements v)) d.blocks d.elements c.permute.result c.array-array.ensures c.permute.ensures.array (search rules)
