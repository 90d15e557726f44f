use Rattle.std.proofs.Common.{drop, ap, sym, subst, ◌∙◌, arith}
use Rattle.msl_fun_read.specs.Grammar.{param, more_params, reading}
use Rattle.msl_read.specs.Refusals.{IsRefused}
use Rattle.msl_fun_read.specs.Declaring.{head}
use Rattle.msl_base.proofs.Names.{among_is}
use Rattle.msl_fun_read.proofs.Declarings.{param_taken, param_many, param_twice}
use Rattle.msl_fun_read.proofs.parse.declared.Declared.param.Goals as goal

pub returns-then-len-ge-MOST_PARAMS : goal.returns-then-len-ge-MOST_PARAMS
returns-then-len-ge-MOST_PARAMS c n at =
    let funs = c.args.self.now.funs.now in
    let others = c.args.self.now.others.now in
    subst (IsRefused (reading funs others c.args.d.now.cursor (param (head n at c.args.d.now.scope)))) (sym c.refusal.ensures)
    (param_many funs others n at c.args.d.now.scope c.args.d.now.cursor c.in-Some.name.now c.in-Some.ensures.name (omega arith))

pub returns-then-is_some : goal.returns-then-is_some
returns-then-is_some c n at =
    let funs = c.args.self.now.funs.now in
    let others = c.args.self.now.others.now in
    let there = among_is c.args.d.now.scope c.as_slice.result.now c.in-Some.name.now _ c.as_slice.ensures c.position_among.ensures c.is_some.result c.is_some.ensures ∙ c.if-is_some.true in
    subst (IsRefused (reading funs others c.args.d.now.cursor (param (head n at c.args.d.now.scope)))) (sym c.refusal-then-is_some.ensures)
    (param_twice funs others n at c.args.d.now.scope c.args.d.now.cursor c.in-Some.name.now c.in-Some.ensures.name (omega arith) there)

pub returns : goal.returns
returns c =
    let funs = c.args.self.now.funs.now in
    let others = c.args.self.now.others.now in
    let old = c.args.d.now in
    let new = among_is old.scope c.as_slice.result.now c.in-Some.name.now _ c.as_slice.ensures c.position_among.ensures c.is_some.result c.is_some.ensures ∙ c.if-is_some.false in
    let taken = c.advance.ensures ∙ ap (drop 1) c.in_ok-enter_one.ensures.cursor in (
      c.in-Some.name.now,
      record {
        is_name = c.in-Some.ensures.is_name;
        is_new = new;
        few = omega arith;
        cursor = taken;
        scope = c.in_ok-enter_one.ensures.scope;
        names = c.in_ok-enter_one.ensures.names;
        goes = λ n at. param_taken funs others n at old.scope old.cursor c.in-Some.name.now c.in-Some.ensures.name (omega arith) new
            ∙ (λ i. reading funs others (sym taken i) (more_params (head n at (sym c.in_ok-enter_one.ensures.scope i))));
      },
    )
