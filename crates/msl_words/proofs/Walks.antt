-- The walk of `clap` over the words of a command.
use Rattle.std.proofs.Common.{◌≡◌, ◌∙◌, ◌==◌, ◌++◌, ℕ, Bool, true, false, List, [], ◌∷◌, codes, fold, Option, Some, None, refl, sym, ap, subst, append_assoc, true≢false}
use Rattle.std.specs.Prelude.{option_and_then}
use Rattle.std.specs.Str.{bytes_eq}
use Rattle.std.proofs.lemmas.Bool.{and_left, cond-false, not-true}
use Rattle.std.proofs.lemmas.List.{append-nil}
use Rattle.clap.specs.Lexer.{long_of, long_of_rest, short_of, short_of_rest, strip_byte}
use Rattle.clap.specs.Simple.{built, entered, filled_from, names_of, subcommand_of}
use Rattle.clap.specs.Walk.{Held, Names, Row, Rule, Step, Waiting, Walk, after_step, finished, first_of, idle, long_or_other, nothing_held, option, plain_word, positional, rows_after, short_or_plain, subcommand_met, subcommand_or_other, walk_from, walked, walked_from, word_met}
use Rattle.clap.proofs.OnLiterals.{clap_on_literals}
use Rattle.msl_base.specs.Names.{Text}
use Rattle.msl_words.specs.Grammar.{grammar, verb_app}
use Rattle.msl_words.specs.Verbs.{takes_processes, word_of}
use Rattle.msl_words.specs.Words.{is_operand, verb_of}
use Rattle.msl_words.specs.declared.verbs.Verb.{Verb}
use Rattle.msl_words.specs.declared.verbs.Verb.TheVariants.{Seq, Rounds, Check, Demo}

-- ---- a word that is no option

pub record IsPlain (word : Text) : Type 0 where
  pub dashes : bytes_eq word (45 ∷ 45 ∷ []) ≡ false
  pub long : long_of word ≡ None
  pub short : short_of word ≡ None

pub operand_is_plain : (word : Text) → is_operand word ≡ true → IsPlain word
operand_is_plain [] e = absurd (true≢false (sym e))
operand_is_plain (c ∷ cs) e =
    let other : (c == 45) ≡ false = not-true _ e in
    let strip : strip_byte 45 (c ∷ cs) ≡ None = cond-false (c == 45) (Some cs) None other in
    record {
      dashes = and_left _ _ other;
      long = ap (λ (o : Option Text). option_and_then long_of_rest (option_and_then (strip_byte 45) o)) strip;
      short = ap (λ (o : Option Text). option_and_then short_of_rest o) strip;
    }

pub no_names : (t : Waiting) (word : Text) → subcommand_met [] t word ≡ None
no_names idle word = refl
no_names (option id) word = refl
no_names positional word = refl

pub met-plain : (c : List Rule) (t : Waiting) (n : ℕ) (word : Text) (h : Held) → IsPlain word → word_met c [] false t n word h ≡ plain_word c t word h
met-plain c t n word h p =
    ap (λ (o : Option Text). subcommand_or_other c o t n word h) (no_names t word)
    ∙ cond-false (bytes_eq word (45 ∷ 45 ∷ [])) _ _ p.dashes
    ∙ ap (λ (o : Option (Text × Option Text)). long_or_other c t word o h) p.long
    ∙ ap (λ (o : Option Text). short_or_plain c t word o h) p.short

abbrev after_met : List Rule → Walk → Text → Held × Step → Walk
after_met c w word met = after_step c word w met.0 met.1

-- the walk after such a word
abbrev pub after_plain : List Rule → Walk → Text → Walk
after_plain c w word = after_met c w word (plain_word c w.waiting word w.held)

pub walked-plain : (c : List Rule) (w : Walk) (word : Text) → IsPlain word → w.stopped ≡ None → w.is_trailing ≡ false → walked c [] w word ≡ after_plain c w word
unfolding walked
walked-plain c w word p going free =
    ap (λ (s : Option (Text × List Text)). walked_from c [] s w word) going
    ∙ ap (λ (b : Bool). after_met c w word (word_met c [] b w.waiting w.position word w.held)) free
    ∙ ap (after_met c w word) (met-plain c w.waiting w.position word w.held p)

-- ---- the verb

pub stopped-more : (c : List Rule) (names : Names) (w : Walk) (name : Text) (seen rest : List Text) → w.stopped ≡ Some (name, seen)
    → (fold (walked c names) w rest).stopped ≡ Some (name, seen ++ rest)
unfolding walked
stopped-more c names w name seen [] e = e ∙ ap (λ (xs : List Text). Some (name, xs)) (sym (append-nil seen))
stopped-more c names w name seen (x ∷ rest) e =
    stopped-more c names (walked c names w x) name (seen ++ x ∷ []) rest (ap (λ (s : Option (Text × List Text)). (walked_from c names s w x).stopped) e)
    ∙ ap (λ (xs : List Text). Some (name, xs)) (append_assoc seen (x ∷ []) rest)

abbrev pub top_rules : List Rule
top_rules = (built grammar).top.rules

abbrev pub names : Names
names = names_of (built grammar)

pub stops : (verb : Verb) → (walked top_rules names (walk_from nothing_held) (word_of verb)).stopped ≡ Some (word_of verb, [])
unfolding clap_on_literals
stops Seq = refl
stops Rounds = refl
stops Check = refl
stops Demo = refl

-- the rules of a verb, as `clap` builds them
abbrev pub rules_at : Verb → List Rule
rules_at verb = filled_from 1 (verb_app verb).top.rules

enters : (verb : Verb) (rest : List Text) → entered (built grammar) (Some (word_of verb, rest)) ≡ Some (word_of verb, rows_after (rules_at verb) [] rest)
enters Seq rest = refl
enters Rounds rest = refl
enters Check rest = refl
enters Demo rest = refl

pub subcommand_of-verb : (verb : Verb) (rest : List Text) → subcommand_of grammar (word_of verb ∷ rest) ≡ Some (word_of verb, rows_after (rules_at verb) [] rest)
subcommand_of-verb verb rest =
    ap (entered (built grammar)) (stopped-more top_rules names (walked top_rules names (walk_from nothing_held) (word_of verb)) (word_of verb) [] rest (stops verb))
    ∙ enters verb rest

pub verb_of-word : (verb : Verb) → verb_of (word_of verb) ≡ Some verb
verb_of-word Seq = refl
verb_of-word Rounds = refl
verb_of-word Check = refl
verb_of-word Demo = refl

-- ---- what follows it

abbrev pub start : Walk
start = walk_from nothing_held

-- what is found of an operand, and of the value of an option
pub record Finds (rows : List Row) (operand : Text) (value : Option Text) : Type 0 where
  pub operand_row : first_of (codes "operand") rows ≡ Some operand
  pub value_row : first_of (codes "processes") rows ≡ value

abbrev FindsAt : Verb → Text → Option Text → Walk → Type 0
FindsAt verb operand value w = Finds (finished (rules_at verb) w.held) operand value

abbrev pub FindsIn : Verb → List Text → Text → Option Text → Type 0
FindsIn verb rest operand value = Finds (rows_after (rules_at verb) [] rest) operand value

alone_at : (verb : Verb) (operand : Text) → FindsAt verb operand None (after_plain (rules_at verb) start operand)
unfolding clap_on_literals
alone_at Seq operand = record { operand_row = refl; value_row = refl }
alone_at Rounds operand = record { operand_row = refl; value_row = refl }
alone_at Check operand = record { operand_row = refl; value_row = refl }
alone_at Demo operand = record { operand_row = refl; value_row = refl }

pub alone : (verb : Verb) (operand : Text) → IsPlain operand → FindsIn verb (operand ∷ []) operand None
alone verb operand p = subst (FindsAt verb operand None) (sym (walked-plain (rules_at verb) start operand p refl refl)) (alone_at verb operand)

-- the walk after an option, and after its value and an operand
abbrev pub dashed : Verb → Walk → Walk
dashed verb w = walked (rules_at verb) [] w (codes "-p")

abbrev first_walk : Verb → Text → Text → Walk
first_walk verb value operand = after_plain (rules_at verb) (after_plain (rules_at verb) (dashed verb start) value) operand

-- no subcommand was met, and no `--`
pub record IsGoing (w : Walk) : Type 0 where
  pub going : w.stopped ≡ None
  pub free : w.is_trailing ≡ false

pub dashed_going : (verb : Verb) → takes_processes verb ≡ true → IsGoing (dashed verb start)
unfolding clap_on_literals
dashed_going Seq e = absurd (true≢false (sym e))
dashed_going Rounds e = record { going = refl; free = refl }
dashed_going Check e = record { going = refl; free = refl }
dashed_going Demo e = record { going = refl; free = refl }

pub valued_going : (verb : Verb) (value : Text) → takes_processes verb ≡ true → IsGoing (after_plain (rules_at verb) (dashed verb start) value)
unfolding clap_on_literals
valued_going Seq value e = absurd (true≢false (sym e))
valued_going Rounds value e = record { going = refl; free = refl }
valued_going Check value e = record { going = refl; free = refl }
valued_going Demo value e = record { going = refl; free = refl }

first_at : (verb : Verb) (value operand : Text) → takes_processes verb ≡ true → FindsAt verb operand (Some value) (first_walk verb value operand)
unfolding clap_on_literals
first_at Seq value operand e = absurd (true≢false (sym e))
first_at Rounds value operand e = record { operand_row = refl; value_row = refl }
first_at Check value operand e = record { operand_row = refl; value_row = refl }
first_at Demo value operand e = record { operand_row = refl; value_row = refl }

-- the option stands before the operand
pub option_first : (verb : Verb) (value operand : Text) → takes_processes verb ≡ true → IsPlain value → IsPlain operand
    → FindsIn verb (codes "-p" ∷ value ∷ operand ∷ []) operand (Some value)
option_first verb value operand e p q =
    let rules = rules_at verb in
    let going = dashed_going verb e in
    let later = valued_going verb value e in
    subst (FindsAt verb operand (Some value))
    (sym (ap (λ (w : Walk). walked rules [] w operand) (walked-plain rules (dashed verb start) value p going.going going.free)
    ∙ walked-plain rules (after_plain rules (dashed verb start) value) operand q later.going later.free))
    (first_at verb value operand e)

abbrev last_walk : Verb → Text → Text → Walk
last_walk verb operand value = after_plain (rules_at verb) (dashed verb (after_plain (rules_at verb) start operand)) value

pub last_going : (verb : Verb) (operand : Text) → takes_processes verb ≡ true → IsGoing (dashed verb (after_plain (rules_at verb) start operand))
unfolding clap_on_literals
last_going Seq operand e = absurd (true≢false (sym e))
last_going Rounds operand e = record { going = refl; free = refl }
last_going Check operand e = record { going = refl; free = refl }
last_going Demo operand e = record { going = refl; free = refl }

last_at : (verb : Verb) (operand value : Text) → takes_processes verb ≡ true → FindsAt verb operand (Some value) (last_walk verb operand value)
unfolding clap_on_literals
last_at Seq operand value e = absurd (true≢false (sym e))
last_at Rounds operand value e = record { operand_row = refl; value_row = refl }
last_at Check operand value e = record { operand_row = refl; value_row = refl }
last_at Demo operand value e = record { operand_row = refl; value_row = refl }

-- and behind it
pub option_last : (verb : Verb) (operand value : Text) → takes_processes verb ≡ true → IsPlain operand → IsPlain value
    → FindsIn verb (operand ∷ codes "-p" ∷ value ∷ []) operand (Some value)
option_last verb operand value e p q =
    let rules = rules_at verb in
    let later = last_going verb operand e in
    subst (FindsAt verb operand (Some value))
    (sym (ap (λ (w : Walk). walked rules [] (dashed verb w) value) (walked-plain rules start operand p refl refl)
    ∙ walked-plain rules (dashed verb (after_plain rules start operand)) value q later.going later.free))
    (last_at verb operand value e)
