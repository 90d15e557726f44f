use Rattle.std.proofs.Common.{◌≡◌, ◌∙◌, true, ap}
use Rattle.std.proofs.lemmas.Bool.{and_parts, not-true}
use Rattle.clap.specs.Simple.{App, app_of, with_subcommand}
use Rattle.msl_words.proofs.Matches.{verb_app-plain}
use Rattle.msl_words.proofs.grammar.with_verb.Goals as goal

pub returns : goal.returns
returns c =
    let made = c.in_ok-verb_command.ensures in
    let plain : (app_of c.in_ok-verb_command.field-0).top.is_plain ≡ true = ap (λ (a : App). a.top.is_plain) made ∙ verb_app-plain c.args.verb in
    c.in_ok-subcommand.ensures.shape (not-true _ (and_parts _ _ (and_parts _ _ (and_parts _ _ plain).1).1).0)
    ∙ ap (λ (a : App). with_subcommand (app_of c.args.command) a.top) made
