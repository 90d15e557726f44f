use Rattle.std.proofs.Common.{rules, ◌≡◌, ◌+◌, ◌++◌, subst₂}
use Rattle.msl_group.specs.Spans.{Span, span, members}
use Rattle.msl_group.proofs.Runs.{follow-members}
use Rattle.msl_group.proofs.group.Group.merge.Goals as goal

pub returns-clause-all : goal.returns-clause-all
returns-clause-all c =
    let self = c.self.inside in
    let next = c.next.inside in
    subst₂ (λ (g n : Span). members (span self.first (self.count + next.count)) ≡ members g ++ members n) c.self.view_is c.next.view_is
    (follow-members (span self.first self.count) (span next.first next.count) (search rules))
