use Rattle.std.proofs.Common.{arith, ap, sym, ◌∙◌, Bool, Some}
use Rattle.std.proofs.lemmas.Bool.{not-false}
use Rattle.std.proofs.lemmas.Int.{ints}
use Rattle.msl_io.proofs.Digits.{word_number, signed_of, unsigned_fits, negative_fits}
use Rattle.msl_io.proofs.numeral.Word.value.Goals as goal

pub returns-then-n : goal.returns-then-n
returns-then-n c bytes w =
    ap Some (omega (arith, ints, c.from.ensures, c.if-n.true))
    ∙ sym (word_number c.args.self bytes w ∙ ap (λ (b : Bool). signed_of b w.digits) c.if-self.true ∙ negative_fits w.digits c.args.self.magnitude w.value (w.spelt (not-false c.args.self.digits c.if-not-self.false)) w.decimal c.if-n.true)

pub returns-then-n-2 : goal.returns-then-n-2
returns-then-n-2 c bytes w =
    ap Some (omega (arith, ints, c.if-n-2.true))
    ∙ sym (word_number c.args.self bytes w ∙ ap (λ (b : Bool). signed_of b w.digits) c.if-self.false ∙ unsigned_fits w.digits c.args.self.magnitude w.value (w.spelt (not-false c.args.self.digits c.if-not-self.false)) w.decimal c.if-n-2.true)
