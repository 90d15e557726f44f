-- `clap` refuses no words that are a command.
use Rattle.std.proofs.Common.{◌≡◌, ◌∙◌, ◌&&◌, ◌||◌, ◌++◌, Bool, true, false, List, [], ◌∷◌, codes, fold, Option, Some, None, is_some, refl, sym, ap, ap₂, subst, true≢false}
use Rattle.std.specs.Prelude.{find, unwrap_or}
use Rattle.std.specs.List.{list_all}
use Rattle.std.specs.Option.{option_map_or}
use Rattle.std.proofs.lemmas.Bool.{and_from}
use Rattle.clap.specs.Lexer.{long_of}
use Rattle.clap.specs.Simple.{Shape, built, entered, is_simple, label_of, new_shape}
use Rattle.clap.specs.Takes.{bundle_passes, default_passes, entered_passes, flag_word_passes, is_valid, level_passes, other_passes, settle_passes, step_passes, takes, turn_passes, walk_passes, word_passes}
use Rattle.clap.specs.Walk.{Held, Rule, Step, Waiting, Walk, answers_to, finished, nothing_held, plain_word, walked, walked_from, word_met}
use Rattle.clap.proofs.OnLiterals.{clap_on_literals}
use Rattle.msl_base.specs.Names.{Text}
use Rattle.msl_words.specs.Grammar.{grammar}
use Rattle.msl_words.specs.Verbs.{takes_processes, word_of}
use Rattle.msl_words.specs.declared.verbs.Verb.{Verb}
use Rattle.msl_words.specs.declared.verbs.Verb.TheVariants.{Seq, Rounds, Check, Demo}
use Rattle.msl_words.proofs.Walks.{IsGoing, IsPlain, after_plain, dashed_going, last_going, met-plain, names, no_names, rules_at, start, stopped-more, stops, top_rules, valued_going, walked-plain}

-- ---- the verb

held-more : (w : Walk) (name : Text) (seen rest : List Text) → w.stopped ≡ Some (name, seen) → (fold (walked top_rules names) w rest).held ≡ w.held
unfolding walked
held-more w name seen [] e = refl
held-more w name seen (x ∷ rest) e =
    held-more (walked top_rules names w x) name (seen ++ x ∷ []) rest (ap (λ (s : Option (Text × List Text)). (walked_from top_rules names s w x).stopped) e)
    ∙ ap (λ (s : Option (Text × List Text)). (walked_from top_rules names s w x).held) e

abbrev top : Shape
top = (built grammar).top

stopped_passes : (w : Walk) (name : Text) (seen rest : List Text) → w.stopped ≡ Some (name, seen) → walk_passes top names w rest ≡ true
unfolding walk_passes walked
stopped_passes w name seen [] e = refl
stopped_passes w name seen (x ∷ rest) e =
    let met = word_met top_rules names w.is_trailing w.waiting w.position x w.held in
    and_from _ _
    (ap (λ (s : Option (Text × List Text)). is_some s || (word_passes top names w.is_trailing w.waiting x w.held && step_passes top w.position met.0 met.1)) e)
    (stopped_passes (walked top_rules names w x) name (seen ++ x ∷ []) rest (ap (λ (s : Option (Text × List Text)). (walked_from top_rules names s w x).stopped) e))

-- the shape of a verb, as `clap` builds it
abbrev leaf : Verb → Shape
leaf verb = unwrap_or (find (λ s. answers_to (word_of verb) (label_of s)) (built grammar).subs) (new_shape [])

abbrev ends_well : Shape → Bool → Held → Bool
ends_well s has_subcommand h = settle_passes s.rules s.args_override_self h && (list_all default_passes s.rules && is_valid s (finished s.rules h) has_subcommand)

verb_turn : (verb : Verb) → turn_passes top names start (word_of verb) ≡ true
unfolding clap_on_literals
verb_turn Seq = refl
verb_turn Rounds = refl
verb_turn Check = refl
verb_turn Demo = refl

verb_end : (verb : Verb) → ends_well top true (walked top_rules names start (word_of verb)).held ≡ true
unfolding clap_on_literals
verb_end Seq = refl
verb_end Rounds = refl
verb_end Check = refl
verb_end Demo = refl

top_passes : (verb : Verb) (rest : List Text) → level_passes top names nothing_held (word_of verb ∷ rest) true ≡ true
unfolding walk_passes
top_passes verb rest =
    let w = walked top_rules names start (word_of verb) in
    and_from _ _ (and_from _ _ (verb_turn verb) (stopped_passes w (word_of verb) [] rest (stops verb)))
    (ap (ends_well top true) (held-more w (word_of verb) [] rest (stops verb)) ∙ verb_end verb)

leaf_enters : (verb : Verb) (rest : List Text) → (entered_passes (built grammar) (Some (word_of verb, rest)) ≡ level_passes (leaf verb) [] nothing_held rest false) × (is_some (entered (built grammar) (Some (word_of verb, rest))) ≡ true)
leaf_enters Seq rest = (refl, refl)
leaf_enters Rounds rest = (refl, refl)
leaf_enters Check rest = (refl, refl)
leaf_enters Demo rest = (refl, refl)

is_simple-grammar : is_simple grammar ≡ true
unfolding clap_on_literals
is_simple-grammar = refl

pub takes-verb : (verb : Verb) (rest : List Text) → level_passes (leaf verb) [] nothing_held rest false ≡ true → takes grammar (word_of verb ∷ rest) ≡ true
takes-verb verb rest passes =
    let stop = stopped-more top_rules names (walked top_rules names start (word_of verb)) (word_of verb) [] rest (stops verb) in
    and_from _ _ is_simple-grammar
    (ap (λ (s : Option (Text × List Text)). entered_passes (built grammar) s && level_passes top names nothing_held (word_of verb ∷ rest) (is_some (entered (built grammar) s))) stop
    ∙ and_from _ _ ((leaf_enters verb rest).0 ∙ passes)
    (ap (level_passes top names nothing_held (word_of verb ∷ rest)) (leaf_enters verb rest).1 ∙ top_passes verb rest))

-- ---- what follows it

passes-plain : (s : Shape) (t : Waiting) (word : Text) (h : Held) → IsPlain word → word_passes s [] false t word h ≡ true
passes-plain s t word h p =
    ap (λ (o : Option Text). other_passes s o word h) (no_names t word)
    ∙ ap (λ (b : Bool). b || flag_word_passes s.rules s.args_override_self (long_of word) word h) p.dashes
    ∙ ap (λ (o : Option (Text × Option Text)). flag_word_passes s.rules s.args_override_self o word h) p.long
    ∙ ap (λ (o : Option Text). option_map_or (λ (flags : Text). bundle_passes s.rules s.args_override_self flags h) o true) p.short

abbrev plain_turn : Shape → Walk → Text → Bool
plain_turn s w word = let met = plain_word s.rules w.waiting word w.held in step_passes s w.position met.0 met.1

turn-plain : (s : Shape) (w : Walk) (word : Text) → IsPlain word → w.stopped ≡ None → w.is_trailing ≡ false → turn_passes s [] w word ≡ plain_turn s w word
turn-plain s w word p going free =
    ap (λ (o : Option (Text × List Text)). is_some o || (word_passes s [] w.is_trailing w.waiting word w.held
    && step_passes s w.position (word_met s.rules [] w.is_trailing w.waiting w.position word w.held).0 (word_met s.rules [] w.is_trailing w.waiting w.position word w.held).1)) going
    ∙ ap (λ (b : Bool). word_passes s [] b w.waiting word w.held
    && step_passes s w.position (word_met s.rules [] b w.waiting w.position word w.held).0 (word_met s.rules [] b w.waiting w.position word w.held).1) free
    ∙ ap₂ (λ (b : Bool) (met : Held × Step). b && step_passes s w.position met.0 met.1) (passes-plain s w.waiting word w.held p) (met-plain s.rules w.waiting w.position word w.held p)

abbrev next_of : Verb → Walk → Text → Walk
next_of verb w word = walked (leaf verb).rules [] w word

abbrev turn_of : Verb → Walk → Text → Bool
turn_of verb w word = turn_passes (leaf verb) [] w word

abbrev ended : Verb → Walk → Bool
ended verb w = ends_well (leaf verb) false w.held

rules_leaf : (verb : Verb) → rules_at verb ≡ (leaf verb).rules
rules_leaf Seq = refl
rules_leaf Rounds = refl
rules_leaf Check = refl
rules_leaf Demo = refl

alone_ends : (verb : Verb) (operand : Text) → ((plain_turn (leaf verb) start operand && true) && ended verb (after_plain (leaf verb).rules start operand)) ≡ true
unfolding clap_on_literals
alone_ends Seq operand = refl
alone_ends Rounds operand = refl
alone_ends Check operand = refl
alone_ends Demo operand = refl

pub alone_passes : (verb : Verb) (operand : Text) → IsPlain operand → level_passes (leaf verb) [] nothing_held (operand ∷ []) false ≡ true
unfolding walk_passes
alone_passes verb operand p =
    ap₂ (λ (b : Bool) (w : Walk). (b && true) && ended verb w) (turn-plain (leaf verb) start operand p refl refl) (walked-plain (leaf verb).rules start operand p refl refl)
    ∙ alone_ends verb operand

-- the walk after an option
abbrev after_dash : Verb → Walk → Walk
after_dash verb w = next_of verb w (codes "-p")

abbrev first_ends : Verb → Text → Text → Bool
first_ends verb value operand =
    let w = after_plain (leaf verb).rules (after_dash verb start) value in
    (turn_of verb start (codes "-p") && (plain_turn (leaf verb) (after_dash verb start) value && (plain_turn (leaf verb) w operand && true)))
    && ended verb (after_plain (leaf verb).rules w operand)

first_ends-all : (verb : Verb) (value operand : Text) → takes_processes verb ≡ true → first_ends verb value operand ≡ true
unfolding clap_on_literals
first_ends-all Seq value operand e = absurd (true≢false (sym e))
first_ends-all Rounds value operand e = refl
first_ends-all Check value operand e = refl
first_ends-all Demo value operand e = refl

pub first_passes : (verb : Verb) (value operand : Text) → takes_processes verb ≡ true → IsPlain value → IsPlain operand
    → level_passes (leaf verb) [] nothing_held (codes "-p" ∷ value ∷ operand ∷ []) false ≡ true
unfolding walk_passes
first_passes verb value operand e p q =
    let s = leaf verb in
    let d = after_dash verb start in
    let w = after_plain s.rules d value in
    let going = subst (λ (rules : List Rule). IsGoing (walked rules [] start (codes "-p"))) (rules_leaf verb) (dashed_going verb e) in
    let later = subst (λ (rules : List Rule). IsGoing (after_plain rules (walked rules [] start (codes "-p")) value)) (rules_leaf verb) (valued_going verb value e) in
    ap₂ (λ (b : Bool) (v : Walk). (turn_of verb start (codes "-p") && (b && (turn_of verb v operand && true))) && ended verb (next_of verb v operand))
    (turn-plain s d value p going.going going.free) (walked-plain s.rules d value p going.going going.free)
    ∙ ap₂ (λ (b : Bool) (v : Walk). (turn_of verb start (codes "-p") && (plain_turn s d value && (b && true))) && ended verb v)
    (turn-plain s w operand q later.going later.free) (walked-plain s.rules w operand q later.going later.free)
    ∙ first_ends-all verb value operand e

abbrev last_ends : Verb → Text → Text → Bool
last_ends verb operand value =
    let w = after_plain (leaf verb).rules start operand in
    (plain_turn (leaf verb) start operand && (turn_of verb w (codes "-p") && (plain_turn (leaf verb) (after_dash verb w) value && true)))
    && ended verb (after_plain (leaf verb).rules (after_dash verb w) value)

last_ends-all : (verb : Verb) (operand value : Text) → takes_processes verb ≡ true → last_ends verb operand value ≡ true
unfolding clap_on_literals
last_ends-all Seq operand value e = absurd (true≢false (sym e))
last_ends-all Rounds operand value e = refl
last_ends-all Check operand value e = refl
last_ends-all Demo operand value e = refl

pub last_passes : (verb : Verb) (operand value : Text) → takes_processes verb ≡ true → IsPlain operand → IsPlain value
    → level_passes (leaf verb) [] nothing_held (operand ∷ codes "-p" ∷ value ∷ []) false ≡ true
unfolding walk_passes
last_passes verb operand value e p q =
    let s = leaf verb in
    let w = after_plain s.rules start operand in
    let d = after_dash verb w in
    let later = subst (λ (rules : List Rule). IsGoing (walked rules [] (after_plain rules start operand) (codes "-p"))) (rules_leaf verb) (last_going verb operand e) in
    ap₂ (λ (b : Bool) (v : Walk). (b && (turn_of verb v (codes "-p") && (turn_of verb (after_dash verb v) value && true))) && ended verb (next_of verb (after_dash verb v) value))
    (turn-plain s start operand p refl refl) (walked-plain s.rules start operand p refl refl)
    ∙ ap₂ (λ (b : Bool) (v : Walk). (plain_turn s start operand && (turn_of verb w (codes "-p") && (b && true))) && ended verb v)
    (turn-plain s d value q later.going later.free) (walked-plain s.rules d value q later.going later.free)
    ∙ last_ends-all verb operand value e
