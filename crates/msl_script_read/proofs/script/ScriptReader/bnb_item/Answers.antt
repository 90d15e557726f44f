use Rattle.std.proofs.Common.{ap, arith, codes, length, subst, sym, ◌∙◌}
use Rattle.msl_read.proofs.Cursors.{shorter}
use Rattle.msl_grammar.specs.Known.{IsKnown}
use Rattle.msl_program.specs.Known.{with_bnb}
use Rattle.msl_grammar.specs.ScriptGrammar.{items, reading}
use Rattle.msl_grammar.proofs.Exits.{is_err}
use Rattle.msl_script_read.proofs.Items.{at_bnb, carry, bnb_known}
use Rattle.msl_script_read.proofs.script.ScriptReader.bnb_item.Goals as goal

pub returns-in_err-b : goal.returns-in_err-b
returns-in_err-b c =
    let m = c.args.self.now.known in
    rw (is_err c.from_residual.result c.from_residual.ensures.1)
    (carry _ _ c.in_err-b.field-0.0 (at_bnb m c.args.self.now.cursor c.advance.new.self c.advance.ensures c.requires.here (omega (arith, ap length c.bnbs.ensures))) (c.in_err-b.ensures.read (λ x. items (with_bnb m x))))

pub returns : goal.returns
returns c =
    let m = c.args.self.now.known in
    let ts = c.args.self.now.cursor in
    let x = c.in_ok-b.b in
    record {
      goes = at_bnb m ts c.advance.new.self c.advance.ensures c.requires.here (omega (arith, ap length c.bnbs.ensures))
          ∙ c.in_ok-b.ensures.read (λ x. items (with_bnb m x))
          ∙ ap (λ m. reading c.bnb.new.c (items m)) (sym c.in_ok-add_bnb.ensures);
      known = subst IsKnown (sym c.in_ok-add_bnb.ensures) (bnb_known m c.requires.known x (omega (arith, ap length c.bnbs.ensures)));
      shorter = omega (arith, shorter ts (codes "bnb") c.requires.here, ap length c.advance.ensures, c.in_ok-b.ensures.shorter);
    }
