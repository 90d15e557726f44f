use Rattle.std.proofs.Common.{◌≡◌, ◌<◌, [], ◌∷◌, ◌++◌, true, false, codes, Err, refl, length, drop, ap, sym, subst, ◌∙◌, arith, length-append, length-drop}
use Rattle.std.specs.List.{list_all}
use Rattle.std.proofs.lemmas.Result.{err_from_is_err_and, MatchResult-weaker}
use Rattle.msl_lex.specs.declared.kind.Kind.TheVariants.{Expected}
use Rattle.msl_lex.specs.Names.{is_name}
use Rattle.msl_base.specs.Names.{are_distinct}
use Rattle.msl_read.specs.Reading.{says, place}
use Rattle.msl_read.specs.Front.{form}
use Rattle.msl_fun_read.specs.Grammar.{token, param, more_params, body, reading}
use Rattle.msl_read.specs.Refusals.{IsRefused}
use Rattle.msl_fun_read.specs.Declaring.{head}
use Rattle.msl_fun_read.proofs.Declarings.{names_more, distinct_more, shorter, one_param_more, params_end, params_stop}
use Rattle.msl_fun_read.proofs.parse.declared.Declared.params.Goals as goal

pub returns-in_err-param : goal.returns-in_err-param
returns-in_err-param c =
    let p = err_from_is_err_and c.from_residual.result c.from_residual.ensures.1 in
    rw (p.1, p.2)
    (λ n at. subst (λ ns. IsRefused (reading c.args.self.now.funs.now c.args.self.now.others.now c.args.d.now.cursor (param (head n at ns))) c.in_err-param.field-0.0) c.requires (c.in_err-param.ensures n at))

pub loop-d-init : goal.loop-d-init
loop-d-init c =
    let h = c.in_ok-param.ensures.1 in
    let p = c.in_ok-param.ensures.0 in
    let one : c.param.new.d.scope ≡ [] ++ p ∷ [] = h.scope ∙ ap (λ ns. ns ++ p ∷ []) c.requires in
    let long = ap length one in
    record {
      are_names = subst (λ ns. list_all is_name ns ≡ true) (sym one) (names_more [] p refl h.is_name);
      distinct = subst (λ ns. are_distinct ns ≡ true) (sym one) refl;
      some = omega (arith, long);
      few = omega (arith, long);
      names = h.names;
      goes = λ n at. subst (λ ns. reading c.args.self.now.funs.now c.args.self.now.others.now c.args.d.now.cursor (param (head n at ns)) ≡ reading c.args.self.now.funs.now c.args.self.now.others.now c.param.new.d.cursor (more_params (head n at c.param.new.d.scope))) c.requires (h.goes n at);
    }

pub loop-d-smaller : goal.loop-d-smaller
loop-d-smaller c =
    let less = shorter c.loop-d.d.cursor (codes ",") (sym c.loop-d-test.ensures.said) in
    let taken = ap length c.loop-d-test.ensures.taken in
    let behind = ap length c.in_ok-param-2.ensures.1.cursor in
    let smaller : length c.param-in-loop-d.new.d.cursor < length c.loop-d.d.cursor = omega (arith, less, taken, behind, length-drop 1 c.take.new.self) in
    smaller

pub loop-d-preserved : goal.loop-d-preserved
loop-d-preserved c =
    let funs = c.args.self.now.funs.now in
    let others = c.args.self.now.others.now in
    let h = c.in_ok-param-2.ensures.1 in
    let p = c.in_ok-param-2.ensures.0 in
    let old = c.loop-d.invariant in
    let long = ap length h.scope ∙ length-append c.loop-d.d.scope (p ∷ []) in
    record {
      are_names = subst (λ ns. list_all is_name ns ≡ true) (sym h.scope) (names_more c.loop-d.d.scope p old.are_names h.is_name);
      distinct = subst (λ ns. are_distinct ns ≡ true) (sym h.scope) (distinct_more c.loop-d.d.scope p old.distinct h.is_new);
      some = omega (arith, long);
      few = omega (arith, long, h.few);
      names = h.names ∙ old.names;
      goes = λ n at. old.goes n at ∙ one_param_more funs others n at c.loop-d.d.scope c.loop-d.d.cursor (sym c.loop-d-test.ensures.said)
          ∙ ap (λ ts. reading funs others ts (param (head n at c.loop-d.d.scope))) (sym c.loop-d-test.ensures.taken)
          ∙ h.goes n at;
    }

pub returns-in_err-param-2 : goal.returns-in_err-param-2
returns-in_err-param-2 c =
    let funs = c.args.self.now.funs.now in
    let others = c.args.self.now.others.now in
    let p = err_from_is_err_and c.from_residual-in_err-param-2.result c.from_residual-in_err-param-2.ensures.1 in
    rw (p.1, p.2)
    (λ n at.
    let goes = c.loop-d.invariant.goes n at ∙ one_param_more funs others n at c.loop-d.d.scope c.loop-d.d.cursor (sym c.loop-d-test.ensures.said)
    ∙ ap (λ ts. reading funs others ts (param (head n at c.loop-d.d.scope))) (sym c.loop-d-test.ensures.taken) in
    subst (λ r. IsRefused r c.in_err-param-2.field-0.0) (sym goes) (c.in_err-param-2.ensures n at))

pub returns : goal.returns
returns c =
    let funs = c.args.self.now.funs.now in
    let others = c.args.self.now.others.now in
    let same = c.loop-d-test.ensures.taken in
    MatchResult-weaker c.expect.result c.expect.ensures
    (λ _ h. record {
      are_names = c.loop-d.invariant.are_names;
      distinct = c.loop-d.invariant.distinct;
      some = c.loop-d.invariant.some;
      few = c.loop-d.invariant.few;
      names = c.loop-d.invariant.names;
      goes = λ n at. c.loop-d.invariant.goes n at
          ∙ params_end funs others n at c.loop-d.d.scope c.loop-d.d.cursor (sym c.loop-d-test.ensures.said) (subst (λ ts. says (codes ")") (form ts) ≡ true) same h.0)
          ∙ ap (λ ts. reading funs others ts (token (codes "=") (body (head n at c.loop-d.d.scope)))) (sym (h.1 ∙ ap (drop 1) same));
    })
    (λ e h. λ n at.
    let goes = c.loop-d.invariant.goes n at
    ∙ params_stop funs others n at c.loop-d.d.scope c.loop-d.d.cursor (sym c.loop-d-test.ensures.said) (subst (λ ts. says (codes ")") (form ts) ≡ false) same h.0) in
    subst (IsRefused (reading funs others c.args.d.now.cursor (param (head n at [])))) (sym h.1) (goes ∙ ap (λ ts. Err (Expected, place ts)) (sym same)))
