-- The forms of the words of a command, and what `clap` finds of each.
use Rattle.std.proofs.Common.{◌≡◌, ◌∙◌, ◌≤◌, ◌+◌, ℕ, Bool, true, false, cond, length, List, [], ◌∷◌, codes, Option, Some, None, is_some, option_map, refl, sym, ap, subst, arith, true≢false}
use Rattle.std.specs.Prelude.{option_and_then}
use Rattle.std.specs.Str.{bytes_eq}
use Rattle.std.proofs.lemmas.Bool.{cond-true}
use Rattle.std.proofs.lemmas.Slice.Eq.{bytes_eq-Decides}
use Rattle.clap.specs.Simple.{subcommand_of}
use Rattle.clap.specs.Takes.{takes}
use Rattle.clap.specs.Walk.{Row, rows_after}
use Rattle.msl_base.specs.Names.{Text}
use Rattle.msl_words.specs.Grammar.{command_found, grammar}
use Rattle.msl_words.specs.Verbs.{takes_processes, word_of}
use Rattle.msl_words.specs.Words.{command, command_on, command_with, is_operand, is_option, operands, process_count, record_count, values, verb_of}
use Rattle.msl_words.specs.declared.command_line.Command.{Command}
use Rattle.msl_words.specs.declared.command_line.Command.TheVariants as asked
use Rattle.msl_words.specs.declared.limits.TheConstants.{MOST_PROCESS_DIGITS, MOST_PROCESSES}
use Rattle.msl_words.specs.declared.verbs.Verb.{Verb}
use Rattle.msl_words.specs.declared.verbs.Verb.TheVariants.{Seq, Rounds, Check, Demo}
use Rattle.msl_words.proofs.Matches.{command_found-is}
use Rattle.msl_words.proofs.Numerals.{number_of-operand}
use Rattle.msl_words.proofs.Rules.{operands-option, operands-other, option_is, values-option, values-other}
use Rattle.msl_words.proofs.Takes.{alone_passes, first_passes, last_passes, takes-verb}
use Rattle.msl_words.proofs.Walks.{FindsIn, alone, operand_is_plain, option_first, option_last, rules_at, subcommand_of-verb, verb_of-word}

-- ---- what a command asks of its words

is_some-cond : {X : Type 0} (b : Bool) (o : Option X) → is_some (cond b o None) ≡ true → b ≡ true
is_some-cond true o e = refl
is_some-cond false o e = absurd (true≢false (sym e))

some_of-map : {X Y : Type 0} (f : X → Y) (o : Option X) → is_some (option_map f o) ≡ true → is_some o ≡ true
some_of-map f (Some x) e = refl
some_of-map f None e = absurd (true≢false (sym e))

some_of-pair : {X Y Z : Type 0} (f : X → Y → Z) (o : Option X) (p : Option Y) → is_some (option_and_then (λ x. option_map (f x) p) o) ≡ true → is_some p ≡ true
some_of-pair f (Some x) p e = some_of-map (f x) p e
some_of-pair f None p e = absurd (true≢false (sym e))

counts_are_operands : (value : Text) → is_some (process_count value) ≡ true → is_operand value ≡ true
counts_are_operands value e = go (is_operand value) refl
  where
    go : (b : Bool) → is_operand value ≡ b → b ≡ true
    go true is = refl
    go false is = absurd (true≢false (sym e ∙ ap (λ (o : Option ℕ). is_some o) (number_of-operand MOST_PROCESS_DIGITS 1 MOST_PROCESSES value is)))

value_counts : (verb : Verb) (operand value : Text) → is_some (command_on verb operand (Some value)) ≡ true → (takes_processes verb ≡ true) × (is_some (process_count value) ≡ true)
value_counts Seq operand value e = absurd (true≢false (sym e))
value_counts Rounds operand value e = (refl, some_of-map (λ (p : ℕ). asked.Rounds operand p) (process_count value) e)
value_counts Check operand value e = (refl, some_of-map (λ (p : ℕ). asked.Check operand p) (process_count value) e)
value_counts Demo operand value e = (refl, some_of-pair (λ (n p : ℕ). asked.Demo n p) (record_count operand) (process_count value) e)

-- ---- the forms

-- what holds of the words behind a verb, of their operands and of their values, in each form that a command has
pub record Forms (verb : Verb) (P : List Text → List Text → List Text → Type 0) : Type 0 where
  pub alone : (a : Text) → is_operand a ≡ true → P (a ∷ []) (a ∷ []) []
  pub first : (v a : Text) → takes_processes verb ≡ true → is_operand v ≡ true → is_operand a ≡ true → P (codes "-p" ∷ v ∷ a ∷ []) (a ∷ []) (v ∷ [])
  pub last : (a v : Text) → takes_processes verb ≡ true → is_operand a ≡ true → is_operand v ≡ true → P (a ∷ codes "-p" ∷ v ∷ []) (a ∷ []) (v ∷ [])

-- it holds where these operands and values make a command
abbrev Holds : Verb → (List Text → List Text → List Text → Type 0) → List Text → List Text → List Text → Type 0
Holds verb P rest ops vs = is_some (command_with verb ops vs) ≡ true → P rest ops vs

holds_alone : (verb : Verb) (P : List Text → List Text → List Text → Type 0) → Forms verb P → (a : Text) → Holds verb P (a ∷ []) (a ∷ []) []
holds_alone verb P forms a s = forms.alone a (is_some-cond (is_operand a) (command_on verb a None) s)

-- the command of an operand and a value has both
asks_both : (verb : Verb) (a v : Text) → is_some (command_with verb (a ∷ []) (v ∷ [])) ≡ true → (is_operand a ≡ true) × (takes_processes verb ≡ true) × (is_operand v ≡ true)
asks_both verb a v s =
    let asks = command_on verb a (Some v) in
    let is : is_operand a ≡ true = is_some-cond (is_operand a) asks s in
    let counts = value_counts verb a v (sym (ap (λ (o : Option Command). is_some o) (cond-true (is_operand a) asks None is)) ∙ s) in
    (is, counts.0, counts_are_operands v counts.1)

holds_first : (verb : Verb) (P : List Text → List Text → List Text → Type 0) → Forms verb P → (a b c : Text) → is_option a ≡ true → Holds verb P (a ∷ b ∷ c ∷ []) (c ∷ []) (b ∷ [])
holds_first verb P forms a b c e s =
    let both = asks_both verb c b s in
    subst (λ (x : Text). P (x ∷ b ∷ c ∷ []) (c ∷ []) (b ∷ [])) (sym (option_is a e)) (forms.first b c both.1 both.2 both.0)

holds_last : (verb : Verb) (P : List Text → List Text → List Text → Type 0) → Forms verb P → (a b c : Text) → is_option b ≡ true → Holds verb P (a ∷ b ∷ c ∷ []) (a ∷ []) (c ∷ [])
holds_last verb P forms a b c e s =
    let both = asks_both verb a c s in
    subst (λ (x : Text). P (a ∷ x ∷ c ∷ []) (a ∷ []) (c ∷ [])) (sym (option_is b e)) (forms.last a c both.1 both.0 both.2)

-- ---- no others

holds_never : (verb : Verb) (P : List Text → List Text → List Text → Type 0) (rest ops vs : List Text) → command_with verb ops vs ≡ None → Holds verb P rest ops vs
holds_never verb P rest ops vs e s = absurd (true≢false (sym s ∙ ap (λ (o : Option Command). is_some o) e))

holds_as : (verb : Verb) (P : List Text → List Text → List Text → Type 0) (rest ops vs : List Text) → operands rest ≡ ops → values rest ≡ vs → Holds verb P rest ops vs
    → Holds verb P rest (operands rest) (values rest)
holds_as verb P rest ops vs e f holds =
    subst (λ (xs : List Text). Holds verb P rest xs (values rest)) (sym e) (subst (λ (ys : List Text). Holds verb P rest ops ys) (sym f) holds)

abbrev size : List Text → ℕ
size xs = length (values xs) + length (values xs) + length (operands xs)

-- an option takes two words, an operand one
counted : (rest : List Text) → size rest ≡ length rest
counted [] = refl
counted (a ∷ []) = refl
counted (a ∷ b ∷ rest) = go (is_option a) refl (counted rest) (counted (b ∷ rest))
  where
    go : (x : Bool) → is_option a ≡ x → size rest ≡ length rest → size (b ∷ rest) ≡ length (b ∷ rest) → size (a ∷ b ∷ rest) ≡ length (a ∷ b ∷ rest)
    go true is after next = omega (arith, ap length (values-option a b rest is), ap length (operands-option a b rest is))
    go false is after next = omega (arith, ap length (values-other a b rest is), ap length (operands-other a b rest is))

few : (verb : Verb) (ops vs : List Text) → is_some (command_with verb ops vs) ≡ true → (length ops ≡ 1) × (length vs ≤ 1)
few verb [] vs e = absurd (true≢false (sym e))
few verb (a ∷ []) [] e = (refl, omega arith)
few verb (a ∷ []) (v ∷ []) e = (refl, omega arith)
few verb (a ∷ []) (v ∷ w ∷ vs) e = absurd (true≢false (sym e))
few verb (a ∷ b ∷ ops) vs e = absurd (true≢false (sym e))

-- what holds in each form holds of all words that make a command
pub holds : (verb : Verb) (P : List Text → List Text → List Text → Type 0) → Forms verb P → (rest : List Text) → Holds verb P rest (operands rest) (values rest)
holds verb P forms [] = holds_never verb P [] [] [] refl
holds verb P forms (a ∷ []) = holds_alone verb P forms a
holds verb P forms (a ∷ b ∷ []) = go (is_option a) refl
  where
    go : (x : Bool) → is_option a ≡ x → Holds verb P (a ∷ b ∷ []) (operands (a ∷ b ∷ [])) (values (a ∷ b ∷ []))
    go true is = holds_as verb P (a ∷ b ∷ []) [] (b ∷ []) (operands-option a b [] is) (values-option a b [] is) (holds_never verb P (a ∷ b ∷ []) [] (b ∷ []) refl)
    go false is = holds_as verb P (a ∷ b ∷ []) (a ∷ b ∷ []) [] (operands-other a b [] is) (values-other a b [] is) (holds_never verb P (a ∷ b ∷ []) (a ∷ b ∷ []) [] refl)
holds verb P forms (a ∷ b ∷ c ∷ []) = go (is_option a) (is_option b) refl refl
  where
    go : (x y : Bool) → is_option a ≡ x → is_option b ≡ y → Holds verb P (a ∷ b ∷ c ∷ []) (operands (a ∷ b ∷ c ∷ [])) (values (a ∷ b ∷ c ∷ []))
    go true y is and = holds_as verb P (a ∷ b ∷ c ∷ []) (c ∷ []) (b ∷ []) (operands-option a b (c ∷ []) is) (values-option a b (c ∷ []) is) (holds_first verb P forms a b c is)
    go false true is and = holds_as verb P (a ∷ b ∷ c ∷ []) (a ∷ []) (c ∷ [])
        (operands-other a b (c ∷ []) is ∙ ap (λ (xs : List Text). a ∷ xs) (operands-option b c [] and))
        (values-other a b (c ∷ []) is ∙ values-option b c [] and)
        (holds_last verb P forms a b c and)
    go false false is and = holds_as verb P (a ∷ b ∷ c ∷ []) (a ∷ b ∷ c ∷ []) []
        (operands-other a b (c ∷ []) is ∙ ap (λ (xs : List Text). a ∷ xs) (operands-other b c [] and))
        (values-other a b (c ∷ []) is ∙ values-other b c [] and)
        (holds_never verb P (a ∷ b ∷ c ∷ []) (a ∷ b ∷ c ∷ []) [] refl)
holds verb P forms (a ∷ b ∷ c ∷ d ∷ rest) = λ s.
    let small = few verb (operands (a ∷ b ∷ c ∷ d ∷ rest)) (values (a ∷ b ∷ c ∷ d ∷ rest)) s in
    absurd (omega (arith, small.0, small.1, counted (a ∷ b ∷ c ∷ d ∷ rest)))

-- ---- what `clap` finds

abbrev rows_at : Verb → List Text → Text × List Row
rows_at verb rest = (word_of verb, rows_after (rules_at verb) [] rest)

found_by : (verb : Verb) (rest : List Text) (operand : Text) (value : Option Text) → FindsIn verb rest operand value → is_operand operand ≡ true
    → command_found (rows_at verb rest) ≡ cond (is_operand operand) (command_on verb operand value) None
found_by verb rest operand value f is =
    command_found-is (word_of verb) (rows_after (rules_at verb) [] rest) verb operand (verb_of-word verb) f.operand_row
    ∙ ap (command_on verb operand) f.value_row
    ∙ sym (cond-true (is_operand operand) (command_on verb operand value) None is)

found_forms : (verb : Verb) → Forms verb (λ rest ops vs. command_found (rows_at verb rest) ≡ command_with verb ops vs)
found_forms verb = record {
  alone = λ a is. found_by verb (a ∷ []) a None (alone verb a (operand_is_plain a is)) is;
  first = λ v a may counts is. found_by verb (codes "-p" ∷ v ∷ a ∷ []) a (Some v) (option_first verb v a may (operand_is_plain v counts) (operand_is_plain a is)) is;
  last = λ a v may is counts. found_by verb (a ∷ codes "-p" ∷ v ∷ []) a (Some v) (option_last verb a v may (operand_is_plain a is) (operand_is_plain v counts)) is;
}

taken_forms : (verb : Verb) → Forms verb (λ rest ops vs. takes grammar (word_of verb ∷ rest) ≡ true)
taken_forms verb = record {
  alone = λ a is. takes-verb verb (a ∷ []) (alone_passes verb a (operand_is_plain a is));
  first = λ v a may counts is. takes-verb verb (codes "-p" ∷ v ∷ a ∷ []) (first_passes verb v a may (operand_is_plain v counts) (operand_is_plain a is));
  last = λ a v may is counts. takes-verb verb (a ∷ codes "-p" ∷ v ∷ []) (last_passes verb a v may (operand_is_plain a is) (operand_is_plain v counts));
}

-- ---- the whole

verb_word : (word : Text) (verb : Verb) → verb_of word ≡ Some verb → word ≡ word_of verb
verb_word word verb = go (bytes_eq word (codes "seq")) (bytes_eq word (codes "rounds")) (bytes_eq word (codes "check")) (bytes_eq word (codes "demo")) refl refl refl refl
  where
    go : (p q r s : Bool) → bytes_eq word (codes "seq") ≡ p → bytes_eq word (codes "rounds") ≡ q → bytes_eq word (codes "check") ≡ r → bytes_eq word (codes "demo") ≡ s
        → cond p (Some Seq) (cond q (Some Rounds) (cond r (Some Check) (cond s (Some Demo) None))) ≡ Some verb → word ≡ word_of verb
    go true q r s e f g h is = let same : Seq ≡ verb = cc is in (bytes_eq-Decides word (codes "seq")).0 e ∙ ap word_of same
    go false true r s e f g h is = let same : Rounds ≡ verb = cc is in (bytes_eq-Decides word (codes "rounds")).0 f ∙ ap word_of same
    go false false true s e f g h is = let same : Check ≡ verb = cc is in (bytes_eq-Decides word (codes "check")).0 g ∙ ap word_of same
    go false false false true e f g h is = let same : Demo ≡ verb = cc is in (bytes_eq-Decides word (codes "demo")).0 h ∙ ap word_of same
    go false false false false e f g h is = absurd (cc is)

-- in words that are a command, `clap` finds that command
pub command_found-words : (words : List Text) → is_some (command words) ≡ true → option_and_then command_found (subcommand_of grammar words) ≡ command words
command_found-words [] = λ s. absurd (true≢false (sym s))
command_found-words (word ∷ rest) = go (verb_of word) refl
  where
    go : (v : Option Verb) → verb_of word ≡ v → is_some (option_and_then (λ (verb : Verb). command_with verb (operands rest) (values rest)) v) ≡ true
        → option_and_then command_found (subcommand_of grammar (word ∷ rest)) ≡ option_and_then (λ (verb : Verb). command_with verb (operands rest) (values rest)) v
    go None e s = absurd (true≢false (sym s))
    go (Some verb) e s =
        ap (λ (x : Text). option_and_then command_found (subcommand_of grammar (x ∷ rest))) (verb_word word verb e)
        ∙ ap (option_and_then command_found) (subcommand_of-verb verb rest)
        ∙ holds verb _ (found_forms verb) rest s

-- and refuses none of them
pub takes-words : (words : List Text) → is_some (command words) ≡ true → takes grammar words ≡ true
takes-words [] = λ s. absurd (true≢false (sym s))
takes-words (word ∷ rest) = go (verb_of word) refl
  where
    go : (v : Option Verb) → verb_of word ≡ v → is_some (option_and_then (λ (verb : Verb). command_with verb (operands rest) (values rest)) v) ≡ true → takes grammar (word ∷ rest) ≡ true
    go None e s = absurd (true≢false (sym s))
    go (Some verb) e s = ap (λ (x : Text). takes grammar (x ∷ rest)) (verb_word word verb e) ∙ holds verb _ (taken_forms verb) rest s
