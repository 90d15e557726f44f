-- The numbers of a command are within the limits.
use Rattle.std.proofs.Common.{◌≡◌, ◌≤◌, ◌&&◌, ℕ, Bool, true, false, cond, nat_le, List, [], ◌∷◌, Option, Some, None, option_map, refl, subst, arith}
use Rattle.std.specs.Prelude.{option_and_then}
use Rattle.std.specs.Str.Parse.{digits_value}
use Rattle.std.proofs.lemmas.Bool.{and_parts, leb-true}
use Rattle.msl_base.specs.Names.{Text}
use Rattle.msl_words.specs.Words.{command, command_on, command_with, is_numeral, is_operand, number_of, operands, process_count, processes_or, record_count, values, verb_of}
use Rattle.msl_words.specs.declared.command_line.Command.{Command}
use Rattle.msl_words.specs.declared.command_line.Command.TheVariants as asked
use Rattle.msl_words.specs.declared.limits.TheConstants.{DEFAULT_PROCESSES, MOST_DEMO_DIGITS, MOST_DEMO_RECORDS, MOST_PROCESS_DIGITS, MOST_PROCESSES}
use Rattle.msl_words.specs.declared.verbs.Verb.{Verb}
use Rattle.msl_words.specs.declared.verbs.Verb.TheVariants.{Seq, Rounds, Check, Demo}

-- the numbers of the command are within the limits
abbrev pub IsInRange : Command → Type 0
IsInRange (asked.Seq name) = Unit
IsInRange (asked.Rounds name p) = (1 ≤ p) × (p ≤ MOST_PROCESSES)
IsInRange (asked.Check name p) = p ≤ MOST_PROCESSES
IsInRange (asked.Demo n p) = (n ≤ MOST_DEMO_RECORDS) × (1 ≤ p) × (p ≤ MOST_PROCESSES)

abbrev IsBetween : ℕ → ℕ → Option ℕ → Type 0
IsBetween least most None = Unit
IsBetween least most (Some n) = (least ≤ n) × (n ≤ most)

abbrev AreInRange : Option Command → Type 0
AreInRange None = Unit
AreInRange (Some c) = IsInRange c

number_between : (digits least most : ℕ) (word : Text) → IsBetween least most (number_of digits least most word)
number_between digits least most word = go (is_numeral digits word && (nat_le least n && nat_le n most)) refl
  where
    n : ℕ
    n = digits_value 10 word

    go : (b : Bool) → (is_numeral digits word && (nat_le least n && nat_le n most)) ≡ b → IsBetween least most (cond b (Some n) None)
    go false e = tt
    go true e =
        let range = and_parts _ _ (and_parts _ _ e).1 in
        (leb-true least n range.0, leb-true n most range.1)

processes_between : (least default : ℕ) (value : Option Text) → least ≤ 1 → least ≤ default → default ≤ MOST_PROCESSES → IsBetween least MOST_PROCESSES (processes_or default value)
processes_between least default None small above below = (above, below)
processes_between least default (Some value) small above below = go (process_count value) (number_between MOST_PROCESS_DIGITS 1 MOST_PROCESSES value)
  where
    go : (o : Option ℕ) → IsBetween 1 MOST_PROCESSES o → IsBetween least MOST_PROCESSES o
    go None h = tt
    go (Some n) h = (omega (arith, h.0, small), h.1)

on_range : (verb : Verb) (name : Text) (value : Option Text) → AreInRange (command_on verb name value)
on_range Seq name None = tt
on_range Seq name (Some value) = tt
on_range Rounds name value = go (processes_or DEFAULT_PROCESSES value) (processes_between 1 DEFAULT_PROCESSES value (omega arith) (omega arith) (omega arith))
  where
    go : (o : Option ℕ) → IsBetween 1 MOST_PROCESSES o → AreInRange (option_map (λ (p : ℕ). asked.Rounds name p) o)
    go None h = tt
    go (Some p) h = h
on_range Check name value = go (processes_or 0 value) (processes_between 0 0 value (omega arith) (omega arith) (omega arith))
  where
    go : (o : Option ℕ) → IsBetween 0 MOST_PROCESSES o → AreInRange (option_map (λ (p : ℕ). asked.Check name p) o)
    go None h = tt
    go (Some p) h = h.1
on_range Demo name value =
    go (record_count name) (processes_or DEFAULT_PROCESSES value) (number_between MOST_DEMO_DIGITS 0 MOST_DEMO_RECORDS name)
    (processes_between 1 DEFAULT_PROCESSES value (omega arith) (omega arith) (omega arith))
  where
    go : (o q : Option ℕ) → IsBetween 0 MOST_DEMO_RECORDS o → IsBetween 1 MOST_PROCESSES q → AreInRange (option_and_then (λ (n : ℕ). option_map (λ (p : ℕ). asked.Demo n p) q) o)
    go None q h k = tt
    go (Some n) None h k = tt
    go (Some n) (Some p) h k = (h.1, k.0, k.1)

if_in_range : (b : Bool) (o : Option Command) → AreInRange o → AreInRange (cond b o None)
if_in_range true o h = h
if_in_range false o h = tt

with_range : (verb : Verb) (ops vs : List Text) → AreInRange (command_with verb ops vs)
with_range verb [] vs = tt
with_range verb (a ∷ []) [] = if_in_range (is_operand a) (command_on verb a None) (on_range verb a None)
with_range verb (a ∷ []) (v ∷ []) = if_in_range (is_operand a) (command_on verb a (Some v)) (on_range verb a (Some v))
with_range verb (a ∷ []) (v ∷ w ∷ vs) = tt
with_range verb (a ∷ b ∷ ops) vs = tt

in_range : (words : List Text) → AreInRange (command words)
in_range [] = tt
in_range (word ∷ rest) = go (verb_of word)
  where
    go : (v : Option Verb) → AreInRange (option_and_then (λ (verb : Verb). command_with verb (operands rest) (values rest)) v)
    go None = tt
    go (Some verb) = with_range verb (operands rest) (values rest)

pub is_in_range : (words : List Text) (c : Command) → command words ≡ Some c → IsInRange c
is_in_range words c e = subst AreInRange e (in_range words)
