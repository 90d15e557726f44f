use Rattle.std.proofs.Common.{Err, ap, ◌∙◌, subst}
use Rattle.msl_read.specs.declared.fault.ReadFault.{ReadFault}
use Rattle.msl_script_read.specs.ScriptReading.{IsReading}
use Rattle.msl_demo.proofs.Scripts.{read_only_so, never_refused}
use Rattle.msl_demo.proofs.script.demo_script.Goals as goal

pub unreachable-requires : goal.unreachable-requires
unreachable-requires c =
    let text = c.script_text.result.now in
    let is = c.in-Err-At.is ∙ ap (λ (f : ReadFault). Err f) c.in-Err-At.field-0-is in
    never_refused text c.script_text.ensures (c.in-Err-At.field-0-0, c.in-Err-At.field-0-1) (subst (IsReading text) is c.read_script.ensures)

pub returns-in-Ok : goal.returns-in-Ok
returns-in-Ok c =
    let text = c.script_text.result.now in
    read_only_so text c.script_text.ensures c.in-Ok.script (subst (IsReading text) c.in-Ok.is c.read_script.ensures)
