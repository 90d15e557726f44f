use Rattle.std.proofs.Common.{◌≡◌, ◌∙◌, codes, Some, None, option_map, rules, sym, ap}
use Rattle.std.specs.Prelude.{option_and_then}
use Rattle.clap.specs.Matches.{found_of}
use Rattle.clap.specs.Simple.{subcommand_rows_of}
use Rattle.clap.specs.Walk.{first_of, rows_of}
use Rattle.clap.proofs.WalkLemmas.{first_value-rows}
use Rattle.msl_words.specs.Grammar.{command_found}
use Rattle.msl_words.specs.Words.{command_on, verb_of}
use Rattle.msl_words.proofs.Matches.{both_of, command_found-is, command_found-none}
use Rattle.msl_words.proofs.asked.Asked.of.Goals as goal

pub returns-in_err-get_str : goal.returns-in_err-get_str
returns-in_err-get_str c =
    let word = c.in_ok-word.word.now in
    let found = found_of c.in_ok-word.found.now in
    let are : subcommand_rows_of c.args.matches.now ≡ Some (word, rows_of found) = both_of _ _ _ word (rows_of found) c.in_ok-word.ensures.name c.in_ok-word.ensures.rows in
    let verb : verb_of word ≡ Some c.in_ok-of.field-0 = search rules in
    let none : first_of (codes "operand") (rows_of found) ≡ None = sym (first_value-rows found (codes "operand")) ∙ search rules in
    let right : option_and_then command_found (subcommand_rows_of c.args.matches.now) ≡ None = ap (option_and_then command_found) are
    ∙ command_found-none word (rows_of found) c.in_ok-of.field-0 verb none in
    let gone : c.from_residual-in_err-get_str.result ≡ None = search rules in
    rw gone (sym right)

pub returns : goal.returns
returns c =
    let word = c.in_ok-word.word.now in
    let found = found_of c.in_ok-word.found.now in
    let are : subcommand_rows_of c.args.matches.now ≡ Some (word, rows_of found) = both_of _ _ _ word (rows_of found) c.in_ok-word.ensures.name c.in_ok-word.ensures.rows in
    let verb : verb_of word ≡ Some c.in_ok-of.field-0 = search rules in
    let operand : first_of (codes "operand") (rows_of found) ≡ Some c.in_ok-get_str.field-0.now = sym (first_value-rows found (codes "operand")) ∙ search rules in
    let processes : option_map (λ s. s.now) c.get_str-2.result ≡ first_of (codes "processes") (rows_of found) = c.get_str-2.ensures ∙ first_value-rows found (codes "processes") in
    ap (command_on c.in_ok-of.field-0 c.in_ok-get_str.field-0.now) processes
    ∙ sym (command_found-is word (rows_of found) c.in_ok-of.field-0 c.in_ok-get_str.field-0.now verb operand)
    ∙ ap (option_and_then command_found) (sym are)
