use Rattle.std.proofs.Common.{List, Contains, subst, sym}
use Rattle.msl_ops.specs.declared.op.OpKind.{OpKind}
use Rattle.msl_ops.proofs.Names.{every_row}
use Rattle.msl_ops.proofs.table.op_table.Goals as goal

pub returns-clause-every : goal.returns-clause-every
returns-clause-every c = λ kind. subst (λ (kinds : List OpKind). Contains kinds kind) (sym c.kinds.ensures) (every_row kind)
