use Rattle.std.proofs.Common.{◌≡◌, Ok, ap, arith, length, subst, sym, ◌∙◌}
use Rattle.msl_fun_read.specs.Grammar.{read_fun}
use Rattle.msl_read.specs.Refusals as parsing
use Rattle.msl_grammar.specs.Known.{IsKnown}
use Rattle.msl_grammar.specs.ScriptGrammar.{items, reading}
use Rattle.msl_grammar.proofs.Exits.{is_err}
use Rattle.msl_script_read.proofs.Items.{fun_taken, fun_refused, fun_known}
use Rattle.msl_script_read.proofs.script.ScriptReader.fun_item.Goals as goal

pub returns-in_err-f : goal.returns-in_err-f
returns-in_err-f c =
    let old = c.args.self.now in
    rw (is_err c.from_residual.result c.from_residual.ensures.1)
    (fun_refused old.known old.cursor c.in_err-f.field-0.0 c.requires.here
    (subst (λ fs. parsing.IsRefused (read_fun fs old.known.others old.cursor) c.in_err-f.field-0.0) c.funs.ensures
    (subst (λ os. parsing.IsRefused (read_fun c.funs.result.now os old.cursor) c.in_err-f.field-0.0) c.others.ensures
    (subst (λ ts. parsing.IsRefused (read_fun c.funs.result.now c.others.result.now ts) c.in_err-f.field-0.0) c.again.ensures c.in_err-f.ensures.read))))

pub returns : goal.returns
returns c =
    let m = c.args.self.now.known in
    let ts = c.args.self.now.cursor in
    let f = c.in_ok-f.f in
    let read =
    subst (λ fs. read_fun fs m.others ts ≡ Ok (f, c.in_ok-f.rest)) c.funs.ensures
    (subst (λ os. read_fun c.funs.result.now os ts ≡ Ok (f, c.in_ok-f.rest)) c.others.ensures
    (subst (λ us. read_fun c.funs.result.now c.others.result.now us ≡ Ok (f, c.in_ok-f.rest)) c.again.ensures c.in_ok-f.ensures.read)) in
    record {
      goes = fun_taken m ts c.in_ok-f.rest f c.requires.here read ∙ ap (λ m. reading c.in_ok-f.rest (items m)) (sym c.in_ok-add_fun.ensures);
      known = subst IsKnown (sym c.in_ok-add_fun.ensures) (fun_known m c.requires.known f);
      shorter = omega (arith, ap length c.again.ensures, c.in_ok-f.ensures.shorter);
    }
