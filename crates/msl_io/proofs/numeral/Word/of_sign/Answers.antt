use Rattle.msl_io.proofs.Digits.{sign_word}
use Rattle.msl_io.proofs.numeral.Word.of_sign.Goals as goal

pub returns : goal.returns
returns c = sign_word c.args.sign c.requires
