-- The words after the verb, one by one: what may follow is what makes a command.
use Rattle.std.proofs.Common.{◌≡◌, ◌∙◌, ℕ, ◌&&◌, Bool, true, false, cond, not, List, [], ◌∷◌, codes, Option, Some, None, is_some, option_map, refl, sym, ap, ap₂, true≢false}
use Rattle.std.specs.Prelude.{option_and_then}
use Rattle.std.proofs.lemmas.Bool.{and_left, and_parts, and_right, cond-true, cond-false}
use Rattle.std.proofs.lemmas.Slice.Eq.{bytes_eq-Decides}
use Rattle.msl_base.specs.Names.{Text}
use Rattle.msl_words.specs.Words.{command_with, is_operand, is_option, operands, process_count, record_count, values}
use Rattle.msl_words.specs.Verbs.{takes_operand, takes_processes}
use Rattle.msl_words.specs.Progress.{may_await, takes, takes_after, takes_next, takes_operands, takes_rest, takes_value, takes_values}
use Rattle.msl_words.specs.declared.command_line.Command.{Command}
use Rattle.msl_words.specs.declared.command_line.Command.TheVariants as asked
use Rattle.msl_words.specs.declared.limits.TheConstants.{DEFAULT_PROCESSES, MOST_DEMO_DIGITS, MOST_DEMO_RECORDS}
use Rattle.msl_words.specs.declared.progress.Progress.{Progress}
use Rattle.msl_words.specs.declared.progress.Stage.{Stage}
use Rattle.msl_words.specs.declared.progress.Stage.TheVariants.{Absent, Awaited, Given}
use Rattle.msl_words.specs.declared.verbs.Verb.{Verb}
use Rattle.msl_words.specs.declared.verbs.Verb.TheVariants.{Seq, Rounds, Check, Demo}
use Rattle.msl_words.proofs.Numerals.{number_of-operand}

-- ---- tests

shuffle : (a b c d : Bool) → (a && (b && (c && d))) ≡ (b && (c && (a && d)))
shuffle true b c d = refl
shuffle false true true d = refl
shuffle false true false d = refl
shuffle false false c d = refl

regroup : (a b c : Bool) → ((a && b) && c) ≡ (a && (b && c))
regroup true b c = refl
regroup false b c = refl

none_of : (a b x y : Bool) → (a && b) ≡ false → ((a && (b && x)) && y) ≡ false
none_of true true x y e = absurd (true≢false e)
none_of true false x y e = refl
none_of false b x y e = refl

-- ---- an option

pub option_is : (word : Text) → is_option word ≡ true → word ≡ codes "-p"
option_is word e = (bytes_eq-Decides word (codes "-p")).0 e

takes_operand-dash : (verb : Verb) → takes_operand verb (codes "-p") ≡ false
takes_operand-dash Seq = refl
takes_operand-dash Rounds = refl
takes_operand-dash Check = refl
takes_operand-dash Demo = refl

takes_operand-option : (verb : Verb) (word : Text) → is_option word ≡ true → takes_operand verb word ≡ false
takes_operand-option verb word e = ap (takes_operand verb) (option_is word e) ∙ takes_operand-dash verb

abbrev rest_of : Verb → Bool → Bool → List Text → List Text → Bool
rest_of verb operand given vs ops = takes_values verb given vs && takes_operands verb operand ops

pub values-option : (word next : Text) (rest : List Text) → is_option word ≡ true → values (word ∷ next ∷ rest) ≡ next ∷ values rest
values-option word next rest e = cond-true (is_option word) _ _ e

pub values-other : (word next : Text) (rest : List Text) → is_option word ≡ false → values (word ∷ next ∷ rest) ≡ values (next ∷ rest)
values-other word next rest e = cond-false (is_option word) _ _ e

pub operands-option : (word next : Text) (rest : List Text) → is_option word ≡ true → operands (word ∷ next ∷ rest) ≡ operands rest
operands-option word next rest e = cond-true (is_option word) _ _ e

pub operands-other : (word next : Text) (rest : List Text) → is_option word ≡ false → operands (word ∷ next ∷ rest) ≡ word ∷ operands (next ∷ rest)
operands-other word next rest e = cond-false (is_option word) _ _ e

-- an option that may stand here: its value follows
pub option_step : (verb : Verb) (operand : Bool) (word : Text) (rest : List Text) → is_option word ≡ true → takes_processes verb ≡ true
    → takes_after verb operand Absent (word ∷ rest) ≡ takes_value verb operand rest
option_step verb operand word [] is may = and_right (not operand) _ (ap (λ (b : Bool). b && true) (takes_operand-option verb word is))
option_step verb operand word (next ∷ rest) is may =
    ap₂ (rest_of verb operand false) (values-option word next rest is) (operands-option word next rest is)
    ∙ ap (λ (b : Bool). (b && (is_some (process_count next) && takes_values verb true (values rest))) && takes_operands verb operand (operands rest)) may
    ∙ regroup (is_some (process_count next)) (takes_values verb true (values rest)) (takes_operands verb operand (operands rest))

other_step : (verb : Verb) (operand given : Bool) (word : Text) (rest : List Text) → is_option word ≡ false
    → takes_rest verb operand given (word ∷ rest) ≡ (not operand && (takes_operand verb word && takes_rest verb true given rest))
other_step verb operand given word [] e = refl
other_step verb operand given word (next ∷ rest) e =
    ap₂ (rest_of verb operand given) (values-other word next rest e) (operands-other word next rest e)
    ∙ shuffle (takes_values verb given (values (next ∷ rest))) (not operand) (takes_operand verb word) (takes_operands verb true (operands (next ∷ rest)))

refused_step : (verb : Verb) (operand given : Bool) (word : Text) (rest : List Text) → is_option word ≡ true → (not given && takes_processes verb) ≡ false
    → takes_rest verb operand given (word ∷ rest) ≡ false
refused_step verb operand given word [] is unfit = and_right (not operand) _ (ap (λ (b : Bool). b && true) (takes_operand-option verb word is))
refused_step verb operand given word (next ∷ rest) is unfit =
    ap₂ (rest_of verb operand given) (values-option word next rest is) (operands-option word next rest is)
    ∙ none_of (not given) (takes_processes verb) (is_some (process_count next) && takes_values verb true (values rest)) (takes_operands verb operand (operands rest)) unfit

-- a word that is no option here is the operand
pub operand_step : (verb : Verb) (operand given : Bool) (word : Text) (rest : List Text) → (is_option word && (not given && takes_processes verb)) ≡ false
    → takes_rest verb operand given (word ∷ rest) ≡ (not operand && (takes_operand verb word && takes_rest verb true given rest))
operand_step verb operand given word rest = go (is_option word) refl
  where
    go : (b : Bool) → is_option word ≡ b → (b && (not given && takes_processes verb)) ≡ false
        → takes_rest verb operand given (word ∷ rest) ≡ (not operand && (takes_operand verb word && takes_rest verb true given rest))
    go false is unfit = other_step verb operand given word rest is
    go true is unfit = refused_step verb operand given word rest is unfit
        ∙ sym (and_right (not operand) _ (and_left (takes_operand verb word) _ (takes_operand-option verb word is)))

-- ---- a word

pub awaited_word : (verb : Verb) (p : Progress) (word : Text) (rest : List Text) → p.processes ≡ Awaited
    → takes verb p (word ∷ rest) ≡ takes_next verb (cond (is_some (process_count word)) (Some (record p { processes = Given })) None) rest
awaited_word verb p word rest e = ap (λ (s : Stage). takes_after verb p.operand s (word ∷ rest)) e ∙ go (is_some (process_count word))
  where
    go : (b : Bool) → (b && takes_rest verb p.operand true rest) ≡ takes_next verb (cond b (Some (record p { processes = Given })) None) rest
    go true = refl
    go false = refl

pub option_word : (verb : Verb) (p : Progress) (word : Text) (rest : List Text) → may_await verb p.processes word ≡ true
    → takes verb p (word ∷ rest) ≡ takes_next verb (Some (record p { processes = Awaited })) rest
option_word verb p word rest = go p.processes
  where
    go : (s : Stage) → may_await verb s word ≡ true → takes_after verb p.operand s (word ∷ rest) ≡ takes_value verb p.operand rest
    go Absent e = option_step verb p.operand word rest (and_parts _ _ e).0 (and_parts _ _ e).1
    go Awaited e = absurd (true≢false (sym e))
    go Given e = absurd (true≢false (sym e))

operand_next : (verb : Verb) (p : Progress) (rest : List Text) (a b x : Bool) → x ≡ takes verb p rest → (a && (b && x)) ≡ takes_next verb (cond (a && b) (Some p) None) rest
operand_next verb p rest true true x e = e
operand_next verb p rest true false x e = refl
operand_next verb p rest false b x e = refl

pub other_word : (verb : Verb) (p : Progress) (word : Text) (rest : List Text) → (p.processes ≡ Awaited → ⊥) → may_await verb p.processes word ≡ false
    → takes verb p (word ∷ rest) ≡ takes_next verb (cond (not p.operand && takes_operand verb word) (Some (record p { operand = true })) None) rest
other_word verb p word rest = go p.processes
  where
    go : (s : Stage) → (s ≡ Awaited → ⊥) → may_await verb s word ≡ false
        → takes_after verb p.operand s (word ∷ rest) ≡ takes_next verb (cond (not p.operand && takes_operand verb word) (Some (record { operand = true; processes = s })) None) rest
    go Absent h e = operand_step verb p.operand false word rest e
        ∙ operand_next verb (record { operand = true; processes = Absent }) rest (not p.operand) (takes_operand verb word) _ refl
    go Awaited h e = absurd (h refl)
    go Given h e = operand_step verb p.operand true word rest (and_right (is_option word) _ refl)
        ∙ operand_next verb (record { operand = true; processes = Given }) rest (not p.operand) (takes_operand verb word) _ refl

-- ---- all the words

record_count-operand : (word : Text) → is_operand word ≡ false → record_count word ≡ None
record_count-operand word e = number_of-operand MOST_DEMO_DIGITS 0 MOST_DEMO_RECORDS word e

name_alone : (b : Bool) (c : Command) → (b && true) ≡ is_some (cond b (Some c) None)
name_alone true c = refl
name_alone false c = refl

number_alone : (b : Bool) (o : Option ℕ) (make : ℕ → Command) → (b ≡ false → o ≡ None) → (is_some o && true) ≡ is_some (cond b (option_and_then (λ n. Some (make n)) o) None)
number_alone true (Some n) make h = refl
number_alone true None make h = refl
number_alone false o make h = ap (λ (x : Option ℕ). is_some x && true) (h refl)

one_alone : (verb : Verb) (word : Text) → (takes_operand verb word && true) ≡ is_some (command_with verb (word ∷ []) [])
one_alone Seq word = name_alone (is_operand word) (asked.Seq word)
one_alone Rounds word = name_alone (is_operand word) (asked.Rounds word DEFAULT_PROCESSES)
one_alone Check word = name_alone (is_operand word) (asked.Check word 0)
one_alone Demo word = number_alone (is_operand word) (record_count word) (λ n. asked.Demo n DEFAULT_PROCESSES) (record_count-operand word)

no_value : (a b : Bool) (o : Option Command) → o ≡ None → ((false && a) && b) ≡ is_some (cond b o None)
no_value a true o e = ap is_some (sym e)
no_value a false o e = refl

name_with : (b : Bool) (p : Option ℕ) (make : ℕ → Command) → ((is_some p && true) && (b && true)) ≡ is_some (cond b (option_map make p) None)
name_with true (Some n) make = refl
name_with true None make = refl
name_with false (Some n) make = refl
name_with false None make = refl

number_with : (b : Bool) (o p : Option ℕ) (make : ℕ → ℕ → Command) → (b ≡ false → o ≡ None) → ((is_some p && true) && (is_some o && true)) ≡ is_some (cond b (option_and_then (λ n. option_map (make n) p) o) None)
number_with true (Some n) (Some m) make h = refl
number_with true (Some n) None make h = refl
number_with true None (Some m) make h = refl
number_with true None None make h = refl
number_with false o p make h = and_right (is_some p && true) _ (ap (λ (x : Option ℕ). is_some x && true) (h refl))

one_with : (verb : Verb) (word value : Text) → (takes_values verb false (value ∷ []) && (takes_operand verb word && true)) ≡ is_some (command_with verb (word ∷ []) (value ∷ []))
one_with Seq word value = no_value (is_some (process_count value) && true) (is_operand word) None refl
one_with Rounds word value = name_with (is_operand word) (process_count value) (λ p. asked.Rounds word p)
one_with Check word value = name_with (is_operand word) (process_count value) (λ p. asked.Check word p)
one_with Demo word value = number_with (is_operand word) (record_count word) (process_count value) (λ n p. asked.Demo n p) (record_count-operand word)

two_values : (verb : Verb) (v w : Text) (vs : List Text) → takes_values verb false (v ∷ w ∷ vs) ≡ false
two_values verb v w vs = and_right (takes_processes verb) _ (and_right (is_some (process_count v)) _ refl)

parts : (verb : Verb) (ops vs : List Text) → rest_of verb false false vs ops ≡ is_some (command_with verb ops vs)
parts verb [] vs = and_right (takes_values verb false vs) _ refl
parts verb (word ∷ []) [] = one_alone verb word
parts verb (word ∷ []) (v ∷ []) = one_with verb word v
parts verb (word ∷ []) (v ∷ w ∷ vs) = and_left _ _ (two_values verb v w vs)
parts verb (a ∷ b ∷ ops) vs = and_right (takes_values verb false vs) _ (and_right (takes_operand verb a) _ refl)

-- what may follow a verb is what makes a command of it
pub follows_is : (verb : Verb) (rest : List Text) → takes_after verb false Absent rest ≡ is_some (command_with verb (operands rest) (values rest))
follows_is verb rest = parts verb (operands rest) (values rest)
