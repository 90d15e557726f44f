use Rattle.std.proofs.Common.{codes}
use Rattle.msl_fun_print.specs.Writing.{seen, with_text, with_list}
use Rattle.msl_fun_print.proofs.Writings.{three, one_result, results_text}
use Rattle.msl_fun_print.proofs.text.Writer.results.Goals as goal

pub returns-then-results-eq1 : goal.returns-then-results-eq1
returns-then-results-eq1 c =
    one_result c.args.known.now c.args.results.now c.index-results-0.result _ _ c.part.result c.if-results-eq1.true c.index-results-0.is c.part.ensures

pub returns : goal.returns
returns c =
    let funs = c.args.known.now in
    let es = c.args.results.now in
    three (with_text (codes " = [")) (with_list funs es) (with_text (codes "]")) _ _ _ _ _ c.put-2.result c.in_ok-put.ensures c.in_ok-list.ensures c.put-2.ensures (results_text funs es (seen c.args.self.now) c.if-results-eq1.false)
