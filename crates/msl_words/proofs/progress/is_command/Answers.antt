use Rattle.std.proofs.Common.{◌≡◌, ◌∙◌, ◌∷◌, drop, false, is_some, List, Option, Some, rules, sym, ap, arith}
use Rattle.std.specs.Prelude.{option_and_then}
use Rattle.std.proofs.lemmas.List.{drop_more, take_rest}
use Rattle.msl_base.specs.Names.{Text}
use Rattle.msl_words.specs.Words.{command, command_with, operands, values, verb_of}
use Rattle.msl_words.specs.Progress.{takes_after}
use Rattle.msl_words.specs.declared.progress.Stage.TheVariants.{Absent}
use Rattle.msl_words.specs.declared.verbs.Verb.{Verb}
use Rattle.msl_words.proofs.Rules.{follows_is}
use Rattle.msl_words.proofs.progress.is_command.Goals as goal

pub returns : goal.returns
returns c =
    let words = c.args.words.now in
    let first = c.first-item.result in
    let rest = drop 1 words in
    let split : words ≡ first ∷ rest = drop_more words 0 first (omega arith) ∙ ap (λ (n : Text). n ∷ rest) (sym c.first-item.is) in
    let verb : verb_of first ≡ Some c.in-Some.verb = search rules in
    c.may_follow.ensures
    ∙ ap (takes_after c.in-Some.verb false Absent) (take_rest words 1)
    ∙ follows_is c.in-Some.verb rest
    ∙ ap (λ (o : Option Verb). is_some (option_and_then (λ (v : Verb). command_with v (operands rest) (values rest)) o)) (sym verb)
    ∙ ap (λ (ws : List Text). is_some (command ws)) (sym split)
