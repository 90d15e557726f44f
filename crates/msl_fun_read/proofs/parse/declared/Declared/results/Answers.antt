use Rattle.std.proofs.Common.{◌≡◌, true, false, codes, Err, drop, ap, sym, subst, ◌∙◌, arith}
use Rattle.std.proofs.lemmas.Result.{err_from_is_err_and, MatchResult-weaker}
use Rattle.msl_lex.specs.declared.kind.Kind.TheVariants.{Expected}
use Rattle.msl_read.specs.Reading.{says, place}
use Rattle.msl_read.specs.Front.{form}
use Rattle.msl_fun_read.specs.Grammar.{result, more_results, end_fun, reading}
use Rattle.msl_read.specs.Refusals.{IsRefused}
use Rattle.msl_fun_read.specs.Declaring.{head}
use Rattle.msl_fun_read.proofs.Declarings.{one_result_more, results_end, results_stop}
use Rattle.msl_fun_read.proofs.parse.declared.Declared.results.Goals as goal

pub loop-d-preserved : goal.loop-d-preserved
loop-d-preserved c =
    let funs = c.args.self.now.funs.now in
    let others = c.args.self.now.others.now in
    let now = c.loop-d.d in
    let before = c.loop-d.invariant in
    let one = c.in_ok-result-2.ensures in
    record {
      more = omega (arith, before.more, one.more);
      gives = record {
        few = one.gives.few;
        scope = one.gives.scope ∙ before.gives.scope;
        fits = λ scope names same h. one.gives.fits scope names (same ∙ sym before.gives.scope) (before.gives.fits scope names same h);
      };
      goes = λ n at. before.goes n at
          ∙ one_result_more funs others (head n at c.args.d.now.scope) now.names c.loop-d.results now.cursor (sym c.loop-d-test.ensures.said)
          ∙ (λ i. reading funs others (sym c.loop-d-test.ensures.taken i) (result (head n at (sym before.gives.scope i)) now.names c.loop-d.results))
          ∙ one.goes n at
          ∙ ap (λ ns. reading funs others c.result-in-loop-d.new.d.cursor (more_results (head n at ns) c.result-in-loop-d.new.d.names c.result-in-loop-d.new.results)) before.gives.scope;
    }

pub returns-in_err-result-2 : goal.returns-in_err-result-2
returns-in_err-result-2 c =
    let funs = c.args.self.now.funs.now in
    let others = c.args.self.now.others.now in
    let now = c.loop-d.d in
    let before = c.loop-d.invariant in
    let p = err_from_is_err_and c.from_residual-in_err-result-2.result c.from_residual-in_err-result-2.ensures.1 in
    rw (p.1, p.2)
    (λ n at.
    let goes = before.goes n at
    ∙ one_result_more funs others (head n at c.args.d.now.scope) now.names c.loop-d.results now.cursor (sym c.loop-d-test.ensures.said)
    ∙ (λ i. reading funs others (sym c.loop-d-test.ensures.taken i) (result (head n at (sym before.gives.scope i)) now.names c.loop-d.results)) in
    subst (λ r. IsRefused r c.in_err-result-2.field-0.0) (sym goes) (c.in_err-result-2.ensures n at))

pub returns : goal.returns
returns c =
    let funs = c.args.self.now.funs.now in
    let others = c.args.self.now.others.now in
    let now = c.loop-d.d in
    let before = c.loop-d.invariant in
    let same = c.loop-d-test.ensures.taken in
    MatchResult-weaker c.expect.result c.expect.ensures
    (λ _ h. record {
      more = before.more;
      gives = record { few = before.gives.few; scope = before.gives.scope; fits = before.gives.fits };
      goes = λ n at. before.goes n at
          ∙ results_end funs others (head n at c.args.d.now.scope) now.names c.loop-d.results now.cursor (sym c.loop-d-test.ensures.said) (subst (λ ts. says (codes "]") (form ts) ≡ true) same h.0)
          ∙ ap (λ ts. reading funs others ts (end_fun (head n at c.args.d.now.scope) now.names c.loop-d.results)) (sym (h.1 ∙ ap (drop 1) same));
    })
    (λ e h. λ n at.
    let goes = before.goes n at
    ∙ results_stop funs others (head n at c.args.d.now.scope) now.names c.loop-d.results now.cursor (sym c.loop-d-test.ensures.said) (subst (λ ts. says (codes "]") (form ts) ≡ false) same h.0) in
    subst (IsRefused (reading funs others c.args.d.now.cursor (result (head n at c.args.d.now.scope) c.args.d.now.names c.args.results.now))) (sym h.1)
    (goes ∙ ap (λ ts. Err (Expected, place ts)) (sym same)))
