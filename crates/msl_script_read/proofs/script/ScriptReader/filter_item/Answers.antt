use Rattle.std.proofs.Common.{ap, arith, codes, length, subst, sym, ◌∙◌}
use Rattle.msl_read.proofs.Cursors.{shorter}
use Rattle.msl_grammar.specs.Known.{IsKnown}
use Rattle.msl_program.specs.Known.{with_filter}
use Rattle.msl_grammar.specs.ScriptGrammar.{items, reading}
use Rattle.msl_grammar.proofs.Exits.{is_err}
use Rattle.msl_script_read.proofs.Items.{at_filter, carry, filter_known}
use Rattle.msl_script_read.proofs.script.ScriptReader.filter_item.Goals as goal

pub returns-in_err-f : goal.returns-in_err-f
returns-in_err-f c =
    let m = c.args.self.now.known in
    rw (is_err c.from_residual.result c.from_residual.ensures.1)
    (carry _ _ c.in_err-f.field-0.0 (at_filter m c.args.self.now.cursor c.advance.new.self c.advance.ensures c.requires.here (omega (arith, ap length c.filters.ensures))) (c.in_err-f.ensures.read (λ x. items (with_filter m x))))

pub returns : goal.returns
returns c =
    let m = c.args.self.now.known in
    let ts = c.args.self.now.cursor in
    let x = c.in_ok-f.f in
    record {
      goes = at_filter m ts c.advance.new.self c.advance.ensures c.requires.here (omega (arith, ap length c.filters.ensures))
          ∙ c.in_ok-f.ensures.read (λ x. items (with_filter m x))
          ∙ ap (λ m. reading c.filter.new.c (items m)) (sym c.in_ok-add_filter.ensures);
      known = subst IsKnown (sym c.in_ok-add_filter.ensures) (filter_known m c.requires.known x (omega (arith, ap length c.filters.ensures)));
      shorter = omega (arith, shorter ts (codes "filter") c.requires.here, ap length c.advance.ensures, c.in_ok-f.ensures.shorter);
    }
