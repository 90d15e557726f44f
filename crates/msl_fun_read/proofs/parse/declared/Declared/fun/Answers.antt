use Rattle.std.proofs.Common.{sym, subst, ◌∙◌, arith}
use Rattle.std.proofs.lemmas.Result.{err_from_is_err_and}
use Rattle.msl_read.specs.Refusals.{IsRefused}
use Rattle.msl_fun_read.proofs.Suffixes.{some_read}
use Rattle.msl_fun_read.proofs.Wholes.{whole_follows, whole_read}
use Rattle.msl_fun_read.proofs.parse.declared.Declared.fun.Goals as goal

pub returns-in_err-trees : goal.returns-in_err-trees
returns-in_err-trees c =
    let h = c.in_ok-name.field-0 in
    let p = err_from_is_err_and c.from_residual-in_err-trees.result c.from_residual-in_err-trees.ensures.1 in
    rw (p.1, p.2) (subst (λ r. IsRefused r c.in_err-trees.field-0.0) (sym c.in_ok-name.ensures.goes) (c.in_err-trees.ensures h.name h.at))

pub returns-in_err-results : goal.returns-in_err-results
returns-in_err-results c =
    let h = c.in_ok-name.field-0 in
    let goes = c.in_ok-name.ensures.goes ∙ c.in_ok-trees.ensures.goes h.name h.at in
    let p = err_from_is_err_and c.from_residual-in_err-results.result c.from_residual-in_err-results.ensures.1 in
    rw (p.1, p.2) (subst (λ r. IsRefused r c.in_err-results.field-0.0) (sym goes) (c.in_err-results.ensures h.name c.head.new.d.scope c.body.new.d.names))

pub returns : goal.returns
returns c =
    let funs = c.args.self.now.funs.now in
    let others = c.args.self.now.others.now in
    let h = c.in_ok-name.field-0 in
    let es = c.in_ok-results.results in
    let read = whole_read funs others _ c.head.new.d c.body.new.d c.end.new.d h c.in_ok-trees.trees es c.in_ok-name.ensures c.in_ok-trees.ensures c.in_ok-results.ensures (omega (arith, c.len.ensures.len, c.len.ensures.some)) in
    record {
      read = read;
      shorter = some_read funs others c.args.cursor _ c.end.new.d.cursor read;
      rules = whole_follows funs others _ c.head.new.d c.body.new.d c.end.new.d h c.in_ok-trees.trees es c.in_ok-name.ensures c.in_ok-trees.ensures c.in_ok-results.ensures;
    }
