use Rattle.std.proofs.Common.{◌≡◌, ◌∙◌, is_some, rules, sym, ap}
use Rattle.std.specs.Prelude.{option_and_then}
use Rattle.std.proofs.lemmas.Result.{IfOk-weaker}
use Rattle.clap.specs.Simple.{subcommand_of}
use Rattle.clap.specs.Walk.{texts}
use Rattle.msl_words.specs.Grammar.{command_found, grammar}
use Rattle.msl_words.specs.Words.{command}
use Rattle.msl_words.proofs.Forms.{command_found-words}
use Rattle.msl_words.proofs.Matches.{some_of}
use Rattle.msl_words.proofs.command_line.command_in.Goals as goal

pub unwrap-asked-requires : goal.unwrap-asked-requires
unwrap-asked-requires c =
    let words : texts c.as_slice.result.now ≡ c.args.words.now = search rules in
    some_of _ c.of.result (command c.args.words.now)
    (c.of.ensures ∙ ap (option_and_then command_found) (c.in_ok-matches.ensures ∙ ap (subcommand_of grammar) words) ∙ command_found-words c.args.words.now c.requires)
    c.requires

pub command-requires : goal.command-requires
command-requires c =
    let words : texts c.as_slice.result.now ≡ c.args.words.now = search rules in
    let all = c.of.ensures ∙ ap (option_and_then command_found) (c.in_ok-matches.ensures ∙ ap (subcommand_of grammar) words) ∙ command_found-words c.args.words.now c.requires in
    let one = rw c.unwrap-asked.ensures at all in
    ap is_some one ∙ c.requires

pub returns : goal.returns
returns c =
    let words : texts c.as_slice.result.now ≡ c.args.words.now = search rules in
    let all = c.of.ensures ∙ ap (option_and_then command_found) (c.in_ok-matches.ensures ∙ ap (subcommand_of grammar) words) ∙ command_found-words c.args.words.now c.requires in
    let one = rw c.unwrap-asked.ensures at all in
    IfOk-weaker c.command.result _ _ (λ made is. sym one ∙ is) c.command.ensures
