use Rattle.std.proofs.Common.{◌∙◌, Option, sym, ap}
use Rattle.msl_words.specs.Progress.{takes_next}
use Rattle.msl_words.specs.declared.progress.Progress.{Progress}
use Rattle.msl_words.proofs.Rules.{awaited_word, option_word, other_word}
use Rattle.msl_words.proofs.progress.Progress.with_word.Goals as goal

pub returns-in-Awaited : goal.returns-in-Awaited
returns-in-Awaited c = λ rest. awaited_word c.args.verb c.args.self c.args.word.now rest c.in-Awaited.is
    ∙ ap (λ (r : Option Progress). takes_next c.args.verb r rest) (sym c.with_value.ensures)

pub returns-in_default : goal.returns-in_default
returns-in_default c = λ rest. option_word c.args.verb c.args.self c.args.word.now rest (sym c.may_await.ensures ∙ c.if-may_await.true)

pub returns-in_default-2 : goal.returns-in_default-2
returns-in_default-2 c = λ rest.
    other_word c.args.verb c.args.self c.args.word.now rest c.in_default.not-Awaited (sym c.may_await.ensures ∙ c.if-may_await.false)
    ∙ ap (λ (r : Option Progress). takes_next c.args.verb r rest) (sym c.with_operand.ensures)
