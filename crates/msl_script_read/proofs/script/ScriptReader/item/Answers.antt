use Rattle.std.proofs.Common.{sym, ◌∙◌}
use Rattle.msl_script_read.proofs.Items.{none_of_these}
use Rattle.msl_script_read.proofs.script.ScriptReader.item.Goals as goal

pub returns-else-says-5 : goal.returns-else-says-5
returns-else-says-5 c =
    rw c.unexpected.ensures
    (none_of_these c.args.self.now.known c.args.self.now.cursor (sym c.says.ensures ∙ c.if-says.false) (sym c.says-else-says.ensures ∙ c.if-says-2.false) (sym c.says-else-says-2.ensures ∙ c.if-says-3.false) (sym c.says-else-says-3.ensures ∙ c.if-says-4.false)
    (sym c.says-else-says-4.ensures ∙ c.if-says-5.false) c.requires.more)
