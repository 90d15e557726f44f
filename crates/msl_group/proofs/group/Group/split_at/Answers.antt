use Rattle.std.proofs.Common.{rules, ap, ◌∙◌}
use Rattle.msl_group.specs.Spans.{members}
use Rattle.msl_group.proofs.Runs.{range-split}
use Rattle.msl_group.proofs.group.Group.split_at.Goals as goal

pub returns-clause-all : goal.returns-clause-all
returns-clause-all c = range-split c.self.inside.first c.self.inside.count c.args.k (search rules) ∙ ap members c.self.view_is
