use Rattle.std.proofs.Common.{rules, List, Ok, Err, length, refl, sym, ap, ◌∙◌, arith}
use Rattle.std.proofs.lemmas.List.{length-append}
use Rattle.std.proofs.lemmas.Result.{err_from_is_err_and}
use Rattle.msl_base.specs.declared.fault.Fault.{Fault}
use Rattle.msl_fun.specs.declared.funs.Fun.{Fun}
use Rattle.msl_fun.specs.Meaning.{results_of}
use Rattle.msl_tree.proofs.Joined.{one_more}
use Rattle.msl_tree.proofs.Combining.{solved_value, solved_wide, opens, part_ok, part_fault, parts_combined, fault_of}
use Rattle.msl_tree.proofs.combine.Cover.+value.Goals as goal

pub returns-in-Some-clause-value : goal.returns-in-Some-clause-value
returns-in-Some-clause-value t c =
    let me = c.args.self.now in
    solved_value c.args.calls.now me.d.now me.stage me.splits.now me.solved.now c.requires.covered c.args.path c.in-Some.value c.requires.comes_up
    (sym (c.get.ensures me.solved.now c.requires.finds) ∙ c.in-Some.is)

pub returns-in-Some-clause-wide : goal.returns-in-Some-clause-wide
returns-in-Some-clause-wide t c =
    let me = c.args.self.now in
    solved_wide c.args.calls.now me.d.now me.stage me.splits.now me.solved.now c.requires.covered c.args.path c.in-Some.value
    (sym (c.get.ensures me.solved.now c.requires.finds) ∙ c.in-Some.is)

pub loop-j-init : goal.loop-j-init
loop-j-init t c =
    let me = c.args.self.now in
    record {
      calls = refl;
      opened =
          opens c.args.calls.now me.d.now me.stage me.splits.now me.solved.now c.requires.covered c.args.path c.requires.comes_up
          (sym (c.get.ensures me.solved.now c.requires.finds) ∙ c.in_default.is);
      wide = omega (arith, ap length c.of-values.ensures);
      values = ap Ok (sym c.of-values.ensures);
    }

pub returns-in_err-value-clause-value : goal.returns-in_err-value-clause-value
returns-in_err-value-clause-value t c =
    let me = c.args.self.now in
    let fault = err_from_is_err_and c.from_residual.result c.from_residual.ensures.1 in
    let value = ap (λ (f : Fault). Err f) fault.2 ∙ c.in_err-value.ensures.value in
    fault.1
    ∙ part_fault c.args.calls.now c.loop-j.calls me.d.now me.stage me.splits.now me.solved.now c.loop-j.invariant.calls c.args.path c.loop-j.invariant.opened
    c.loop-j.j c.unwrap-part.result c.loop-j.values fault.0 c.loop-j-test.true (search rules) c.loop-j.invariant.values value

pub loop-j-preserved : goal.loop-j-preserved
loop-j-preserved t c =
    let me = c.args.self.now in
    record {
      calls = c.in_ok-value.ensures.same ∙ c.loop-j.invariant.calls;
      opened = c.loop-j.invariant.opened;
      wide =
          one_more c.loop-j.j (results_of c.args.calls.now me.d.now.solve) (length c.loop-j.values) (length c.in_ok-value.value) (length c.joined-values.result) c.loop-j.invariant.wide
          (c.in_ok-value.ensures.wide ∙ ap (λ (funs : List Fun). results_of funs me.d.now.solve) c.loop-j.invariant.calls)
          (ap length c.joined-values.ensures ∙ length-append c.loop-j.values c.in_ok-value.value);
      values =
          part_ok c.args.calls.now c.loop-j.calls me.d.now me.stage me.splits.now me.solved.now c.loop-j.invariant.calls c.args.path c.loop-j.invariant.opened
          c.loop-j.j c.unwrap-part.result c.loop-j.values c.in_ok-value.value c.joined-values.result (search rules) c.loop-j.invariant.values (c.in_ok-value.ensures.value)
          c.joined-values.ensures;
    }

pub returns-in-Ok-clause-value : goal.returns-in-Ok-clause-value
returns-in-Ok-clause-value t c =
    let me = c.args.self.now in
    parts_combined c.args.calls.now c.loop-j.calls me.d.now me.stage me.splits.now me.solved.now c.loop-j.invariant.calls c.args.path c.loop-j.invariant.opened
    c.loop-j.j c.loop-j.values c.as_slice.result.now (Ok c.in-Ok.value) (omega (arith, c.loop-j-test.false, c.loop-j.auto.j-end)) c.loop-j.invariant.values c.as_slice.ensures.numbers
    (c.in-Ok.ensures.results me.stage)

pub returns-in-Err-clause-value : goal.returns-in-Err-clause-value
returns-in-Err-clause-value t c =
    let me = c.args.self.now in
    parts_combined c.args.calls.now c.loop-j.calls me.d.now me.stage me.splits.now me.solved.now c.loop-j.invariant.calls c.args.path c.loop-j.invariant.opened
    c.loop-j.j c.loop-j.values c.as_slice.result.now (Err c.of_stage.result) (omega (arith, c.loop-j-test.false, c.loop-j.auto.j-end)) c.loop-j.invariant.values c.as_slice.ensures.numbers
    (c.in-Err.ensures.results me.stage ∙ fault_of me.stage c.in-Err.fault c.of_stage.result c.of_stage.ensures)
