use Rattle.std.proofs.Common.{ap, arith, codes, length, subst, sym, ◌∙◌}
use Rattle.msl_read.proofs.Cursors.{shorter}
use Rattle.msl_grammar.specs.Known.{IsKnown}
use Rattle.msl_program.specs.Known.{with_data}
use Rattle.msl_grammar.specs.ScriptGrammar.{items, reading}
use Rattle.msl_grammar.proofs.Exits.{is_err}
use Rattle.msl_script_read.proofs.Items.{at_data, carry, data_known}
use Rattle.msl_script_read.proofs.script.ScriptReader.data_item.Goals as goal

pub returns-in_err-d : goal.returns-in_err-d
returns-in_err-d c =
    let m = c.args.self.now.known in
    rw (is_err c.from_residual.result c.from_residual.ensures.1)
    (carry _ _ c.in_err-d.field-0.0 (at_data m c.args.self.now.cursor c.advance.new.self c.advance.ensures c.requires.here (omega (arith, ap length c.datas.ensures))) (c.in_err-d.ensures.read (λ x. items (with_data m x))))

pub returns : goal.returns
returns c =
    let m = c.args.self.now.known in
    let ts = c.args.self.now.cursor in
    let x = c.in_ok-d.d in
    record {
      goes = at_data m ts c.advance.new.self c.advance.ensures c.requires.here (omega (arith, ap length c.datas.ensures))
          ∙ c.in_ok-d.ensures.read (λ x. items (with_data m x))
          ∙ ap (λ m. reading c.data_program.new.c (items m)) (sym c.in_ok-add_data.ensures);
      known = subst IsKnown (sym c.in_ok-add_data.ensures) (data_known m c.requires.known x (omega (arith, ap length c.datas.ensures)));
      shorter = omega (arith, shorter ts (codes "data") c.requires.here, ap length c.advance.ensures, c.in_ok-d.ensures.shorter);
    }
