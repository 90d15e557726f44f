use Rattle.std.proofs.Common.{◌≡◌, List, [], ◌∷◌, ◌++◌, refl, ap, sym, subst, ◌∙◌, arith}
use Rattle.std.proofs.lemmas.Result.{err_from_is_err_and}
use Rattle.msl_base.specs.Names.{Text}
use Rattle.msl_fun_read.specs.Grammar.{Tree, expr, result, end_fun, all_of, reading}
use Rattle.msl_read.specs.Refusals.{IsRefused}
use Rattle.msl_fun_read.specs.Parsing.{FitsTree, context}
use Rattle.msl_fun_read.specs.Declaring.{head, FitList, FitsAll}
use Rattle.msl_fun_read.proofs.Fitting.{no_arguments, trees_more}
use Rattle.msl_fun_read.proofs.Declarings.{body_opens, body_is_one}
use Rattle.msl_fun_read.proofs.parse.declared.Declared.body.Goals as goal
use Rattle.msl_fun_read.proofs.parse.declared.Declared.body.Goals.{then-take+in_ok-results, else-take+in_ok-expr+in_ok-push}

pub returns-in_err-results : goal.returns-in_err-results
returns-in_err-results c =
    let funs = c.args.self.now.funs.now in
    let others = c.args.self.now.others.now in
    let old = c.args.d.now in
    let p = err_from_is_err_and c.from_residual.result c.from_residual.ensures.1 in
    rw (p.1, p.2)
    (λ n at.
    let goes = body_opens funs others (head n at old.scope) old.cursor (sym c.if-take.ensures.said)
    ∙ (λ i. reading funs others (sym c.if-take.ensures.taken i) (result (head n at old.scope) (sym c.requires i) (sym c.new-results.ensures i))) in
    subst (λ r. IsRefused r c.in_err-results.field-0.0) (sym goes) (c.in_err-results.ensures n at))

pub returns-in_err-expr : goal.returns-in_err-expr
returns-in_err-expr c =
    let funs = c.args.self.now.funs.now in
    let others = c.args.self.now.others.now in
    let old = c.args.d.now in
    let p = err_from_is_err_and c.from_residual-in_err-expr.result c.from_residual-in_err-expr.ensures.1 in
    rw (p.1, p.2)
    (λ n at.
    let rest = λ (ns : List Text) (t : Tree). end_fun (head n at old.scope) ns (t ∷ []) in
    let goes = body_is_one funs others (head n at old.scope) old.cursor (sym c.if-take.ensures.said)
    ∙ (λ i. reading funs others (sym c.if-take.ensures.taken i) (expr (context old.scope 0) (sym c.requires i) rest)) in
    subst (λ r. IsRefused r c.in_err-expr.field-0.0) (sym goes) (c.in_err-expr.ensures.reads (λ p. rest p.0 p.1)))

pub returns : goal.returns
returns c =
    let funs = c.args.self.now.funs.now in
    let others = c.args.self.now.others.now in
    let old = c.args.d.now in
    elim c.if-take.branch [
      | then-take+in_ok-results w ↦
          let all = w.in_ok-results.ensures in
          let none = subst (λ ts. FitsAll funs old.scope [] old.names (all_of ts)) (sym c.new-results.ensures) (subst (λ ns. FitList funs old.scope [] ns []) (sym c.requires) (no_arguments funs old.scope [])) in
          rw (w.d-is, w.results-is)
          (record {
            some = omega (arith, all.more);
            few = all.gives.few;
            scope = all.gives.scope;
            fits = all.gives.fits old.scope [] refl none;
            goes = λ n at. body_opens funs others (head n at old.scope) old.cursor (sym w.if-take.ensures.said)
                ∙ (λ i. reading funs others (sym w.if-take.ensures.taken i) (result (head n at old.scope) (sym c.requires i) (sym c.new-results.ensures i)))
                ∙ all.goes n at;
          })
      | else-take+in_ok-expr+in_ok-push w ↦
          let new = w.expr.new.d in
          let t = w.in_ok-expr.field-0 in
          let one : w.push.new.self ≡ [] ++ t ∷ [] = w.in_ok-push.ensures.ok ∙ ap (λ ts. ts ++ t ∷ []) c.new-results.ensures in
          let fits = subst (λ ns. FitsTree funs old.scope ns new.names t) c.requires w.in_ok-expr.ensures.keeps.fits in
          rw (w.d-is, w.results-is, one)
          (record {
            some = omega arith;
            few = omega arith;
            scope = w.in_ok-expr.ensures.keeps.scope;
            fits = trees_more funs old.scope [] [] new.names [] t (no_arguments funs old.scope []) fits;
            goes = λ n at.
                let rest = λ (ns : List Text) (t : Tree). end_fun (head n at old.scope) ns (t ∷ []) in
                body_is_one funs others (head n at old.scope) old.cursor (sym w.if-take.ensures.said)
                ∙ (λ i. reading funs others (sym w.if-take.ensures.taken i) (expr (context old.scope 0) (sym c.requires i) rest))
                ∙ w.in_ok-expr.ensures.reads (λ p. rest p.0 p.1);
          })
    ]
