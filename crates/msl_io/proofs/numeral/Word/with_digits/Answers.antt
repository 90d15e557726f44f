use Rattle.std.proofs.Common.{take, sym}
use Rattle.std.proofs.lemmas.List.{length-take-le}
use Rattle.msl_io.proofs.Digits.{digits_word}
use Rattle.msl_io.proofs.numeral.Word.with_digits.Goals as goal

pub returns-clause-word : goal.returns-clause-word
returns-clause-word c bytes w =
    let r = c.append_digits-magnitude.result in
    let front = c.append_digits-magnitude.ensures.front in
    digits_word c.args.self bytes (take r.1 c.args.text.now) r.0 r.1 (sym (length-take-le r.1 c.args.text.now front.within)) front.digits c.append_digits-magnitude.ensures.value w
