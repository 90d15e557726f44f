use Rattle.msl_ops.proofs.Parts.{folded_within, folded_parts}
use Rattle.msl_ops.proofs.laws.parts_combine.Goals as goal

pub returns-clause-within : goal.returns-clause-within
returns-clause-within g c = folded_within (g.L.Lawful.IsInDomain c.args.op.now) (g.L.Lawful.unit c.args.op.now) (g.L.Lawful.lift c.args.op.now) (g.L.Lawful.combine c.args.op.now) (g.met.L.Lawful.laws c.args.op.now)

pub returns-clause-parts : goal.returns-clause-parts
returns-clause-parts g c = folded_parts (g.L.Lawful.IsInDomain c.args.op.now) (g.L.Lawful.unit c.args.op.now) (g.L.Lawful.lift c.args.op.now) (g.L.Lawful.combine c.args.op.now) (g.met.L.Lawful.laws c.args.op.now)
