-- The command that the words of a command line are.
use Rattle.std.specs.Prelude.{ℕ, Bool, false, not, ◌&&◌, ◌==◌, nat_lt, nat_le, if◌then◌else◌, length, List, [], ◌∷◌, codes, Option, Some, None, option_map, option_and_then}
use Rattle.std.specs.Str.{all_ascii_digits, bytes_eq}
use Rattle.std.specs.Str.Parse.{digits_value}
use Rattle.msl_base.specs.Names.{Text}
use Rattle.msl_words.specs.declared.command_line.Command.{Command}
use Rattle.msl_words.specs.declared.command_line.Command.TheVariants.{Seq, Rounds, Check, Demo}
use Rattle.msl_words.specs.declared.limits.TheConstants.{DEFAULT_PROCESSES, MOST_DEMO_DIGITS, MOST_DEMO_RECORDS, MOST_PROCESS_DIGITS, MOST_PROCESSES}
use Rattle.msl_words.specs.declared.verbs.Verb.{Verb}
use Rattle.msl_words.specs.declared.verbs.Verb.TheVariants as verb

-- ---- one word

abbrev pub verb_of : Text → Option Verb
verb_of word =
    if bytes_eq word (codes "seq") then Some verb.Seq
    else if bytes_eq word (codes "rounds") then Some verb.Rounds
    else if bytes_eq word (codes "check") then Some verb.Check
    else if bytes_eq word (codes "demo") then Some verb.Demo
    else None

abbrev pub is_option : Text → Bool
is_option word = bytes_eq word (codes "-p")

-- a word that isn't empty and doesn't begin with '-'
abbrev pub is_operand : Text → Bool
is_operand [] = false
is_operand (c ∷ cs) = not (c == 45)

-- decimal digits, at least one and at most so many
abbrev pub is_numeral : ℕ → Text → Bool
is_numeral digits word = nat_lt 0 (length word) && nat_le (length word) digits && all_ascii_digits word

-- the number that so many digits write, from `least` to `most`
abbrev pub number_of : ℕ → ℕ → ℕ → Text → Option ℕ
number_of digits least most word =
    let n = digits_value 10 word in
    if is_numeral digits word && (nat_le least n && nat_le n most) then Some n else None

abbrev pub process_count : Text → Option ℕ
process_count = number_of MOST_PROCESS_DIGITS 1 MOST_PROCESSES

abbrev pub record_count : Text → Option ℕ
record_count = number_of MOST_DEMO_DIGITS 0 MOST_DEMO_RECORDS

-- ---- the words after the verb, from the left: an option and the word after it, or another word

-- the values of the options
abbrev pub values : List Text → List Text
values [] = []
values (word ∷ []) = []
values (word ∷ next ∷ rest) = if is_option word then next ∷ values rest else values (next ∷ rest)

-- the other words; among them is an option that has no value
abbrev pub operands : List Text → List Text
operands [] = []
operands (word ∷ []) = word ∷ []
operands (word ∷ next ∷ rest) = if is_option word then operands rest else word ∷ operands (next ∷ rest)

-- ---- the command

-- how many processes, or how many where no value is given
abbrev pub processes_or : ℕ → Option Text → Option ℕ
processes_or default None = Some default
processes_or default (Some value) = process_count value

-- the command of a verb on a script
abbrev pub command_on : Verb → Text → Option Text → Option Command
command_on verb.Seq name None = Some (Seq name)
command_on verb.Seq name (Some value) = None
command_on verb.Rounds name value = option_map (λ p. Rounds name p) (processes_or DEFAULT_PROCESSES value)
command_on verb.Check name value = option_map (λ p. Check name p) (processes_or 0 value)
command_on verb.Demo count value =
    option_and_then (λ n. option_map (λ p. Demo n p) (processes_or DEFAULT_PROCESSES value)) (record_count count)

-- the command of a verb with these operands and these values: one operand, and at most one value
abbrev pub command_with : Verb → List Text → List Text → Option Command
command_with verb (operand ∷ []) [] = if is_operand operand then command_on verb operand None else None
command_with verb (operand ∷ []) (value ∷ []) = if is_operand operand then command_on verb operand (Some value) else None
command_with verb _ _ = None

-- the command that the words are
abbrev pub command : List Text → Option Command
command [] = None
command (word ∷ rest) = option_and_then (λ verb. command_with verb (operands rest) (values rest)) (verb_of word)
