use Rattle.std.proofs.Common.{arith, ◌+◌, ◌∷◌, drop, ap, sym, ◌∙◌}
use Rattle.std.proofs.lemmas.List.{drop_more}
use Rattle.std.proofs.Math.ListN.{drop_of_length-le}
use Rattle.msl_base.specs.Names.{Text}
use Rattle.msl_fun_print.specs.Writing.{seen}
use Rattle.msl_fun_print.proofs.Writings.{param_step, params_end, no_params}
use Rattle.msl_fun_print.proofs.text.Writer.params.Goals as goal

pub returns-in_default : goal.returns-in_default
returns-in_default c = no_params c.args.names.now (seen c.args.self.now) c.in_default.ensures.cases

pub loop-name-preserved : goal.loop-name-preserved
loop-name-preserved c =
    let i = c.loop-name.name-index in
    let others = c.in-Some.others.now in
    let name = c.name-item.result in
    let split = drop_more others i name c.loop-name-test.true ∙ ap (λ (n : Text). n ∷ drop (i + 1) others) (sym c.name-item.is) in
    param_step name (drop (i + 1) others) others (drop i others) (seen c.param.new.self) (seen c.loop-name.self) (seen c.put.new.self) (seen c.param-in-loop-name.new.self)
    split c.in_ok-put.ensures c.in_ok-param-2.ensures c.loop-name.invariant

pub returns : goal.returns
returns c =
    let others = c.in-Some.others.now in
    params_end c.in-Some.first.now others c.args.names.now (drop c.loop-name.name-index others) (seen c.args.self.now) (seen c.param.new.self) (seen c.loop-name.self)
    c.in-Some.ensures.cases.0 (drop_of_length-le others (omega (arith, c.loop-name-test.false))) c.in_ok-param.ensures c.loop-name.invariant
