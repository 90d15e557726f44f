use Rattle.std.proofs.lemmas.List.FromFn.{length-range_with_len}
use Rattle.msl_group.proofs.Runs.{range-split, split-each, split-apart}
use Rattle.msl_group.proofs.laws.no_member_is_lost.Goals as goal

pub returns-clause-all : goal.returns-clause-all
returns-clause-all c = λ g. range-split g.first g.count

pub returns-clause-first : goal.returns-clause-first
returns-clause-first c = λ g k. length-range_with_len g.first k

pub returns-clause-each : goal.returns-clause-each
returns-clause-each c = λ g. split-each g.first g.count

pub returns-clause-apart : goal.returns-clause-apart
returns-clause-apart c = λ g. split-apart g.first g.count
