use Rattle.std.proofs.Common.{codes, ap, sym, subst, ◌∙◌}
use Rattle.std.proofs.lemmas.Result.{err_from_is_err_and}
use Rattle.msl_fun_read.specs.Grammar.{fun, body, reading}
use Rattle.msl_read.specs.Refusals.{IsRefused}
use Rattle.msl_fun_read.specs.Declaring.{head}
use Rattle.msl_fun_read.proofs.Descent.{token_taken, token_refused}
use Rattle.msl_fun_read.proofs.Declarings.{before_params}
use Rattle.msl_fun_read.proofs.parse.declared.Declared.head.Goals as goal

pub returns-in_err-params : goal.returns-in_err-params
returns-in_err-params c =
    let funs = c.args.self.now.funs.now in
    let others = c.args.self.now.others.now in
    let h = c.in_ok-name.name in
    let goes = before_params funs others c.args.d.now c.begin.new.d c.fun_name.new.d h c.in_ok-begin.ensures c.in_ok-name.ensures c.expect.new.self c.in_ok-expect.ensures.0 c.in_ok-expect.ensures.1 in
    let p = err_from_is_err_and c.from_residual-in_err-params.result c.from_residual-in_err-params.ensures.1 in
    rw (p.1, p.2) (subst (λ r. IsRefused r c.in_err-params.field-0.0) (sym goes) (c.in_err-params.ensures h.name h.at))

pub returns-in_err-expect-2 : goal.returns-in_err-expect-2
returns-in_err-expect-2 c =
    let funs = c.args.self.now.funs.now in
    let others = c.args.self.now.others.now in
    let h = c.in_ok-name.name in
    let goes = before_params funs others c.args.d.now c.begin.new.d c.fun_name.new.d h c.in_ok-begin.ensures c.in_ok-name.ensures c.expect.new.self c.in_ok-expect.ensures.0 c.in_ok-expect.ensures.1
    ∙ c.in_ok-params.ensures.goes h.name h.at ∙ token_refused funs others c.params.new.d.cursor (codes "=") (body (head h.name h.at c.params.new.d.scope)) c.in_err-expect-2.ensures.0 in
    let p = err_from_is_err_and c.from_residual-in_err-expect-2.result c.from_residual-in_err-expect-2.ensures.1 in
    rw (p.1, p.2) (subst (IsRefused (reading funs others c.args.d.now.cursor fun)) (sym c.in_err-expect-2.ensures.1) goes)

pub returns : goal.returns
returns c =
    let funs = c.args.self.now.funs.now in
    let others = c.args.self.now.others.now in
    let h = c.in_ok-name.name in
    let params = c.in_ok-params.ensures in
    let rest = body (head h.name h.at c.params.new.d.scope) in
    record {
      few_funs = c.in_ok-begin.ensures.few;
      are_names = params.are_names;
      is_name = c.in_ok-name.ensures.is_name;
      is_new = c.in_ok-name.ensures.is_new;
      distinct = params.distinct;
      some = params.some;
      few = params.few;
      names = params.names ∙ c.in_ok-name.ensures.names ∙ c.in_ok-begin.ensures.names;
      goes = before_params funs others c.args.d.now c.begin.new.d c.fun_name.new.d h c.in_ok-begin.ensures c.in_ok-name.ensures c.expect.new.self c.in_ok-expect.ensures.0 c.in_ok-expect.ensures.1
          ∙ params.goes h.name h.at ∙ token_taken funs others c.params.new.d.cursor (codes "=") rest c.in_ok-expect-2.ensures.0
          ∙ ap (λ ts. reading funs others ts rest) (sym c.in_ok-expect-2.ensures.1);
    }
