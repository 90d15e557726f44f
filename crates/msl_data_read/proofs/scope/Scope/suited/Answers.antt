use Rattle.std.proofs.Common.{true, false, ap, sym, ◌∙◌}
use Rattle.msl_read.specs.Reading.{place}
use Rattle.msl_program.specs.Programs.{suits}
use Rattle.msl_data_read.proofs.ProgramLeaves.{line_absent, line_there}
use Rattle.msl_data_read.proofs.scope.Scope.suited.Goals as goal

pub returns-in_default-clause-tested : goal.returns-in_default-clause-tested
returns-in_default-clause-tested c =
    rw c.refusal.ensures (line_absent c.args.self.now.program.now c.args.need (place c.args.c.now) c.args.name.now (sym c.find.ensures ∙ c.in_default.is))

pub returns-then-not-suits-clause-tested : goal.returns-then-not-suits-clause-tested
returns-then-not-suits-clause-tested c =
    rw c.refusal-then-not-suits.ensures
    (line_there c.args.self.now.program.now c.args.need (place c.args.c.now) c.args.name.now c.in-Some.line false (sym c.find.ensures ∙ c.in-Some.is)
    (ap (suits c.args.need) (sym c.shape-shape.ensures) ∙ sym c.suits.ensures ∙ c.if-not-suits.true))

pub returns-clause-tested : goal.returns-clause-tested
returns-clause-tested c =
    line_there c.args.self.now.program.now c.args.need (place c.args.c.now) c.args.name.now c.in-Some.line true (sym c.find.ensures ∙ c.in-Some.is)
    (ap (suits c.args.need) (sym c.shape-shape.ensures) ∙ sym c.suits.ensures ∙ c.if-not-suits.false)
