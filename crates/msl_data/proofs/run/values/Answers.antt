use Rattle.std.proofs.Common.{length, ap, ◌∷◌, [], ◌∙◌, arith, length-append}
use Rattle.std.proofs.lemmas.Result.{err_from_is_err_and}
use Rattle.msl_data.specs.Tables.{meaning, values_of}
use Rattle.msl_data.proofs.Lines.{at_halt, one_more, step_fits}
use Rattle.msl_data.proofs.run.values.Goals as goal

pub value-requires : goal.value-requires
value-requires g c =
    step_fits c.args.funs.now c.args.at.now.stage c.args.input.now c.args.lines.now c.loop-line.line-index (values_of c.loop-line.table) c.line-item.result c.loop-line-test.true c.line-item.is c.loop-line.invariant.so_far c.requires

pub returns-in_err-value-clause-values : goal.returns-in_err-value-clause-values
returns-in_err-value-clause-values g c =
    let halted = err_from_is_err_and c.from_residual-in_err-value.result c.from_residual-in_err-value.ensures.1 in
    rw (halted.1, halted.2) (at_halt c.args.funs.now c.args.at.now.stage c.args.input.now c.args.lines.now c.loop-line.line-index (values_of c.loop-line.table) c.line-item.result c.loop-line-test.true c.line-item.is c.loop-line.invariant.so_far c.in_err-value.field-0.0
    (rw c.loop-line.invariant.stage at c.in_err-value.ensures.value))

pub loop-line-preserved : goal.loop-line-preserved
loop-line-preserved g c =
    let came = rw c.loop-line.invariant.stage at c.in_ok-value.ensures.value in
    record {
      so_far = rw c.put.ensures.values (one_more c.args.funs.now c.args.at.now.stage c.args.input.now c.args.lines.now c.loop-line.line-index (values_of c.loop-line.table) c.line-item.result c.loop-line-test.true c.line-item.is c.loop-line.invariant.so_far (meaning c.in_ok-value.value) came);
      long = omega (arith, ap length c.put.ensures.values, length-append (values_of c.loop-line.table) (meaning c.in_ok-value.value ∷ []));
      room = omega (arith, c.put.ensures.room, c.loop-line.invariant.room);
      stage = c.value.ensures.stage ∙ c.loop-line.invariant.stage;
      group = c.value.ensures.group ∙ c.loop-line.invariant.group;
    }
