use Rattle.std.proofs.Common.{subst}
use Rattle.msl_run.specs.Scripts.{IsScriptIn}
use Rattle.msl_run.proofs.Scripts.{not_fetched, of_long}
use Rattle.msl_run.proofs.run.script_of.Goals as goal

pub returns-in-Bytes-clause-script : goal.returns-in-Bytes-clause-script
returns-in-Bytes-clause-script g c =
    (c.in-Bytes.text, c.in-Bytes.ensures.file.1, subst (λ t. IsScriptIn t c.script_in.result) c.as_slice.ensures c.script_in.ensures.script)

pub returns-in-Long-clause-script : goal.returns-in-Long-clause-script
returns-in-Long-clause-script g c = of_long (g.L.Library.file c.args.lib.now c.args.name.now) c.in-Long.ensures.file

pub returns-in-Failed-clause-script : goal.returns-in-Failed-clause-script
returns-in-Failed-clause-script g c = (not_fetched (g.L.Library.file c.args.lib.now c.args.name.now)).0

pub returns-in-NoMemory-clause-script : goal.returns-in-NoMemory-clause-script
returns-in-NoMemory-clause-script g c = (not_fetched (g.L.Library.file c.args.lib.now c.args.name.now)).1
