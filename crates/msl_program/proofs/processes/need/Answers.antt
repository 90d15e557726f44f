use Rattle.std.proofs.Common.{arith, ap, sym, subst}
use Rattle.msl_program.specs.ScriptPromise.{IsMain}
use Rattle.msl_program.specs.Need.{need_of}
use Rattle.msl_program.proofs.Needs.{few}
use Rattle.msl_program.proofs.processes.need.Goals as goal

pub stage_need-requires-clause-few : goal.stage_need-requires-clause-few
stage_need-requires-clause-few c = few c.main.result.now (subst IsMain (sym c.main.ensures.main) c.main.ensures.bounded)

pub overflow_add-result : goal.overflow_add-result
overflow_add-result c =
    omega (arith, ap need_of c.main.ensures.main, few c.args.s.now.main c.main.ensures.bounded)
