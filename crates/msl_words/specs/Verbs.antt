-- The verbs, as the code tests them.
use Rattle.std.specs.Prelude.{Bool, true, false, codes, is_some}
use Rattle.msl_base.specs.Names.{Text}
use Rattle.msl_words.specs.Words.{is_operand, record_count}
use Rattle.msl_words.specs.declared.verbs.Verb.{Verb}
use Rattle.msl_words.specs.declared.verbs.Verb.TheVariants.{Seq, Rounds, Check, Demo}

abbrev pub word_of : Verb → Text
word_of Seq = codes "seq"
word_of Rounds = codes "rounds"
word_of Check = codes "check"
word_of Demo = codes "demo"

abbrev pub takes_processes : Verb → Bool
takes_processes Seq = false
takes_processes Rounds = true
takes_processes Check = true
takes_processes Demo = true

abbrev pub takes_operand : Verb → Text → Bool
takes_operand Seq word = is_operand word
takes_operand Rounds word = is_operand word
takes_operand Check word = is_operand word
takes_operand Demo word = is_some (record_count word)
