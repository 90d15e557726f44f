-- What `clap` is told of the words, and the command in what it finds.
use Rattle.std.specs.Prelude.{true, List, [], codes, Option, Some, option_and_then, if◌then◌else◌}
use Rattle.clap.specs.Simple.{App, new_app, new_rule, with_rule, with_subcommand}
use Rattle.clap.specs.Walk.{Row, Rule, first_of}
use Rattle.msl_base.specs.Names.{Text}
use Rattle.msl_words.specs.Words.{command_on, verb_of}
use Rattle.msl_words.specs.Verbs.{takes_processes, word_of}
use Rattle.msl_words.specs.declared.command_line.Command.{Command}
use Rattle.msl_words.specs.declared.verbs.Verb.{Verb}
use Rattle.msl_words.specs.declared.verbs.Verb.TheVariants.{Seq, Rounds, Check, Demo}

abbrev pub operand_rule : Rule
operand_rule = new_rule (codes "operand")

abbrev pub processes_rule : Rule
processes_rule = record (new_rule (codes "processes")) { short = Some 112 }

-- the words of a verb
abbrev pub verb_app : Verb → App
verb_app verb =
    let app = with_rule (new_app (word_of verb)) operand_rule in
    if takes_processes verb then with_rule app processes_rule else app

-- no word names the program, and none asks for help
abbrev pub bare_app : App
bare_app = record { top = record ((new_app (codes "muesli")).top) { no_binary_name = true; disable_help_flag = true; disable_help_subcommand = true }; subs = [] }

abbrev pub with_verb : App → Verb → App
with_verb app verb = with_subcommand app (verb_app verb).top

abbrev pub grammar : App
grammar = with_verb (with_verb (with_verb (with_verb bare_app Seq) Rounds) Check) Demo

-- the command of a verb that was found, with what was found after it
abbrev pub command_found : Text × List Row → Option Command
command_found (word, rows) = option_and_then (λ verb.
    option_and_then (λ operand. command_on verb operand (first_of (codes "processes") rows)) (first_of (codes "operand") rows)) (verb_of word)
