use Rattle.std.proofs.Common.{true, false, ◌∙◌}
use Rattle.msl_read.specs.Front.{form, form_behind}
use Rattle.msl_fun_read.proofs.Fronts.{named, nameless}
use Rattle.msl_fun_read.proofs.parse.first.First.other.Goals as goal

pub returns-in-Some : goal.returns-in-Some
returns-in-Some c = named (form c.args.c.now) (form_behind c.args.c.now) (form c.behind.result) c.in-Some.field-0.now true c.in-Some.ensures.name c.if-says.ensures c.behind.ensures

pub returns-in-Some-2 : goal.returns-in-Some-2
returns-in-Some-2 c = named (form c.args.c.now) (form_behind c.args.c.now) (form c.behind.result) c.in-Some-2.field-0.now false c.in-Some-2.ensures.name c.if-says.ensures c.behind.ensures

pub returns-in_default : goal.returns-in_default
returns-in_default c = nameless (form c.args.c.now) (form_behind c.args.c.now) (λ e. c.in_default.not-Number (c.kind.ensures ∙ e)) c.in-None.ensures.name
