use Rattle.std.proofs.Common.{rules, ◌≡◌, length, sym, ◌∙◌, subst}
use Rattle.msl_base.specs.Streams.{Outcome}
use Rattle.msl_division.proofs.Recursion as recursion
use Rattle.msl_fun.specs.Meaning.{params_of}
use Rattle.msl_local.specs.Outcomes.{Stops}
use Rattle.msl_program.specs.Divide.{divcon_outcome}
use Rattle.msl_division.proofs.division.divcon_seq.Goals as goal

pub returns-in-Ok : goal.returns-in-Ok
returns-in-Ok c =
    let wide : length c.args.xs.now ≡ params_of c.args.funs.now c.args.d.now.simple = search rules in
    let root = recursion.of_root c.args.funs.now c.new.result.calls c.args.d.now c.new.result.spec.now c.args.stage c.new.result.stage c.args.xs.now c.root.result c.new.ensures.funs c.new.ensures.spec c.new.ensures.stage c.root.ensures wide in
    record { answer = recursion.answers (divcon_outcome c.args.funs.now c.args.d.now c.args.stage c.args.xs.now) c.in-Ok.y c.record.result (sym root ∙ c.in-Ok.ensures.value) c.record.ensures }

pub returns-in-Err : goal.returns-in-Err
returns-in-Err c =
    let wide : length c.args.xs.now ≡ params_of c.args.funs.now c.args.d.now.simple = search rules in
    let root = recursion.of_root c.args.funs.now c.new.result.calls c.args.d.now c.new.result.spec.now c.args.stage c.new.result.stage c.args.xs.now c.root.result c.new.ensures.funs c.new.ensures.spec c.new.ensures.stage c.root.ensures wide in
    record { answer = c.halt.ensures (divcon_outcome c.args.funs.now c.args.d.now c.args.stage c.args.xs.now) (subst (λ (r : Outcome). Stops r c.value.new.why) root c.in-Err.ensures.value) }
