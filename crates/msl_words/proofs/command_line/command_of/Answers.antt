use Rattle.std.proofs.Common.{◌≡◌, is_some, true, rules}
use Rattle.msl_words.specs.Words.{command}
use Rattle.msl_words.proofs.Matches.{no_memory}
use Rattle.msl_words.proofs.command_line.command_of.Goals as goal

pub returns-in_err-command_in : goal.returns-in_err-command_in
returns-in_err-command_in c =
    let some : is_some (command c.args.words.now) ≡ true = search rules in
    record { ok = no_memory c.from_residual.result (command c.args.words.now) c.from_residual.ensures.1 some }
