-- What `clap` found of a verb, in its own words and in those of the definitions.
use Rattle.std.proofs.Common.{◌≡◌, ◌∙◌, ◌↔◌, true, false, Result, Ok, Err, MatchResult, IsErrAnd, List, codes, Option, Some, None, is_some, option_map, refl, sym, ap, true≢false}
use Rattle.std.specs.Prelude.{option_and_then}
use Rattle.clap.specs.Walk.{Row, first_of}
use Rattle.msl_base.specs.Names.{Text}
use Rattle.msl_words.specs.Grammar.{command_found, verb_app}
use Rattle.msl_words.specs.Words.{command_on, verb_of}
use Rattle.msl_words.specs.declared.command_line.Command.{Command}
use Rattle.msl_words.specs.declared.command_line.WordsFault.{WordsFault}
use Rattle.msl_words.specs.declared.command_line.WordsFault.TheVariants.{NoMemory, Usage}
use Rattle.msl_words.specs.declared.verbs.Verb.{Verb}
use Rattle.msl_words.specs.declared.verbs.Verb.TheVariants.{Seq, Rounds, Check, Demo}

-- no verb has a setting that changes how words are read
pub verb_app-plain : (verb : Verb) → (verb_app verb).top.is_plain ≡ true
verb_app-plain Seq = refl
verb_app-plain Rounds = refl
verb_app-plain Check = refl
verb_app-plain Demo = refl

-- a name and rows that are one and the other of an object are both of it
pub both_of : {X : Type 0} (name : X → Text) (rows : X → List Row) (o : Option X) (t : Text) (rs : List Row) → Some t ≡ option_map name o
    → Some rs ≡ option_map (λ (p : Text × List Row). p.1) (option_map {U = Text × List Row} (λ x. (name x, rows x)) o) → option_map {U = Text × List Row} (λ x. (name x, rows x)) o ≡ Some (t, rs)
both_of name rows None t rs e f = absurd (cc e)
both_of name rows (Some x) t rs e f =
    let is : name x ≡ t = cc e in
    let are : rows x ≡ rs = cc f in
    cc (is, are)

pub command_found-is : (word : Text) (rows : List Row) (verb : Verb) (operand : Text) → verb_of word ≡ Some verb → first_of (codes "operand") rows ≡ Some operand
    → command_found (word, rows) ≡ command_on verb operand (first_of (codes "processes") rows)
command_found-is word rows verb operand v o =
    ap (λ (x : Option Verb). option_and_then (λ (y : Verb). option_and_then (λ (z : Text). command_on y z (first_of (codes "processes") rows)) (first_of (codes "operand") rows)) x) v
    ∙ ap (λ (x : Option Text). option_and_then (λ (z : Text). command_on verb z (first_of (codes "processes") rows)) x) o

pub command_found-none : (word : Text) (rows : List Row) (verb : Verb) → verb_of word ≡ Some verb → first_of (codes "operand") rows ≡ None → command_found (word, rows) ≡ None
command_found-none word rows verb v o =
    ap (λ (x : Option Verb). option_and_then (λ (y : Verb). option_and_then (λ (z : Text). command_on y z (first_of (codes "processes") rows)) (first_of (codes "operand") rows)) x) v
    ∙ ap (λ (x : Option Text). option_and_then (λ (z : Text). command_on verb z (first_of (codes "processes") rows)) x) o

pub some_of : {X Y : Type 0} (f : X → Option Y) (o : Option X) (r : Option Y) → option_and_then f o ≡ r → is_some r ≡ true → is_some o ≡ true
some_of f (Some x) r e s = refl
some_of {Y = Y} f None r e s = absurd (true≢false (sym s ∙ ap (λ (q : Option Y). is_some q) (sym e)))

-- want of memory is no want of a command
pub no_memory : (r : Result Command WordsFault) (o : Option Command) → IsErrAnd r (λ e. e ≡ NoMemory) → is_some o ≡ true → MatchResult r (λ c. o ≡ Some c) (λ e. (e ≡ Usage) ↔ (o ≡ None))
no_memory (Err e) o h s =
    (λ usage. let same : NoMemory ≡ Usage = sym h ∙ usage in absurd (cc same), λ none. let gone : true ≡ false = sym s ∙ ap (λ (q : Option Command). is_some q) none in absurd (cc gone))
no_memory (Ok c) o h s = absurd h
