use Rattle.std.proofs.Common.{sym, subst}
use Rattle.msl_fun.specs.Checks.{AreFuns}
use Rattle.msl_fun.proofs.Functions.{funs_before}
use Rattle.msl_fun.proofs.muscle.Muscle.known.Goals as goal

pub returns-clause-rules : goal.returns-clause-rules
returns-clause-rules c = funs_before c.as_slice.result.now c.args.self.now.at (subst AreFuns (sym c.as_slice.ensures.list) c.as_slice.ensures.funs)
