use Rattle.std.proofs.Common.{ap, ◌∙◌, sym}
use Rattle.msl_core.specs.Groups.{newest, older}
use Rattle.msl_core.proofs.Counts.{newest-snoc, older-snoc}
use Rattle.msl_core.proofs.node.take_newest.Goals as goal

pub returns-clause-path : goal.returns-clause-path
returns-clause-path c = sym (ap newest c.in-Some.ensures.items ∙ newest-snoc c.pop_back.new.self.items c.in-Some.path)

pub returns-clause-rest : goal.returns-clause-rest
returns-clause-rest c = sym (ap older c.in-Some.ensures.items ∙ older-snoc c.pop_back.new.self.items c.in-Some.path)
