use Rattle.std.proofs.Common.{[], ◌∷◌, ◌++◌, length, ap, sym, subst, ◌∙◌, arith, length-append}
use Rattle.std.proofs.lemmas.Result.{err_from_is_err_and}
use Rattle.msl_fun_read.specs.Grammar.{more_results, all_of, reading}
use Rattle.msl_fun_read.specs.Parsing.{FitsTree}
use Rattle.msl_read.specs.Refusals.{IsRefused}
use Rattle.msl_fun_read.specs.Declaring.{head, FitsAll}
use Rattle.msl_fun_read.proofs.Fitting.{trees_more}
use Rattle.msl_fun_read.proofs.Declarings.{result_goes}
use Rattle.msl_fun_read.proofs.parse.declared.Declared.result.Goals as goal

pub returns-in_err-expr : goal.returns-in_err-expr
returns-in_err-expr c =
    let funs = c.args.self.now.funs.now in
    let others = c.args.self.now.others.now in
    let old = c.args.d.now in
    let p = err_from_is_err_and c.from_residual.result c.from_residual.ensures.1 in
    rw (p.1, p.2)
    (λ n at. subst (λ r. IsRefused r c.in_err-expr.field-0.0) (sym (result_goes funs others (head n at old.scope) old.names c.args.results.now old.cursor (omega arith)))
    (c.in_err-expr.ensures.reads (λ p. more_results (head n at old.scope) p.0 (c.args.results.now ++ p.1 ∷ []))))

pub returns : goal.returns
returns c =
    let funs = c.args.self.now.funs.now in
    let others = c.args.self.now.others.now in
    let old = c.args.d.now in
    let new = c.expr.new.d in
    let t = c.in_ok-expr.field-0 in
    let pushed = c.in_ok-push.ensures.ok in
    let long = ap length pushed ∙ length-append c.args.results.now (t ∷ []) in
    record {
      more = omega (arith, long);
      shorter = c.in_ok-expr.ensures.keeps.shorter;
      gives = record {
        few = omega (arith, long);
        scope = c.in_ok-expr.ensures.keeps.scope;
        fits = λ scope before same h. subst (λ all. FitsAll funs scope before new.names (all_of all)) (sym pushed)
            (trees_more funs scope before old.names new.names c.args.results.now t h (subst (λ scope. FitsTree funs scope old.names new.names t) (sym same) c.in_ok-expr.ensures.keeps.fits));
      };
      goes = λ n at. result_goes funs others (head n at old.scope) old.names c.args.results.now old.cursor (omega arith)
          ∙ c.in_ok-expr.ensures.reads (λ p. more_results (head n at old.scope) p.0 (c.args.results.now ++ p.1 ∷ []))
          ∙ ap (λ all. reading funs others new.cursor (more_results (head n at old.scope) new.names all)) (sym pushed);
    }
