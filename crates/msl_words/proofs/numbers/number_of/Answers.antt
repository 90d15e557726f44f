use Rattle.std.proofs.Common.{◌≡◌, ◌∙◌, true, rules, sym, ap, arith}
use Rattle.msl_words.specs.Words.{is_numeral}
use Rattle.msl_words.proofs.Numerals.{number_of-parsed, parsed}
use Rattle.msl_words.proofs.numbers.number_of.Goals as goal

pub returns-in_default : goal.returns-in_default
returns-in_default c =
    let numeral : is_numeral c.args.digits c.args.word.now ≡ true = search rules in
    sym (number_of-parsed c.args.digits c.args.least c.args.most c.args.word.now c.parse.result c.parse.ensures.value.0 numeral (omega arith)
    ∙ ap (parsed c.args.least c.args.most) c.in_default.is)
