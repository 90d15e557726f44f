use Rattle.std.proofs.Common.{subst}
use Rattle.msl_program.specs.ScriptPromise.{IsScript}
use Rattle.msl_program.proofs.Parts.{bnbs_fit}
use Rattle.msl_program.proofs.script.Script.bnbs.Goals as goal

pub returns-clause-fit : goal.returns-clause-fit
returns-clause-fit c = bnbs_fit c.args.self.now (subst IsScript c.self.view_is c.self.invariant)
