use Rattle.std.proofs.Common.{codes, ◌∙◌}
use Rattle.msl_fun_print.specs.Writing.{seen, with_text}
use Rattle.msl_fun_print.proofs.Writings.{three, operator_text}
use Rattle.msl_fun_print.proofs.text.Writer.between.Goals as goal

pub returns : goal.returns
returns c =
    let sign = c.as_bytes.result.now in
    three (with_text (codes " ")) (with_text sign) (with_text (codes " ")) _ _ _ _ _ c.put-3.result c.in_ok-put.ensures c.in_ok-put-2.ensures c.put-3.ensures
    (operator_text c.args.op sign (seen c.args.self.now) (c.as_bytes.ensures.value ∙ c.operator.ensures))
