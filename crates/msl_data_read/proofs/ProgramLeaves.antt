-- How reading goes on at the names and the arguments of a data program.
use Rattle.std.proofs.Common.{◌≡◌, ◌<◌, ◌≤◌, ◌+◌, ℕ, pos, Bool, ◌||◌, true, false, not, List, [], ◌∷◌, ◌++◌, drop, map, length, position, Option, Some, None, Result, Ok, Err, if◌then◌else◌, refl, ap, sym, subst, ◌∙◌, arith, lt-ltb, le-ltb, length-drop, codes}
use Rattle.std.proofs.lemmas.List.{length-map}
use Rattle.std.specs.List.{position_or_len, slice_index_or}
use Rattle.std.specs.Str.{bytes_eq}
use Rattle.msl_lex.specs.declared.kind.Kind.{Kind}
use Rattle.msl_lex.specs.declared.kind.Kind.TheVariants.{Many, Twice, Unknown, WrongKind}
use Rattle.msl_lex.specs.Lexemes.{Lexeme}
use Rattle.msl_ops.specs.declared.op.OpKind.{OpKind}
use Rattle.msl_ops.specs.declared.op.OpKind.TheVariants.{Sum, Min, Max, And, Or, Xor, Gcd, AddMod, MulMod}
use Rattle.msl_ops.specs.Table.{greatest_modulus}
use Rattle.msl_read.specs.declared.fault.ReadFault.{ReadFault}
use Rattle.msl_read.specs.declared.fault.ReadFault.TheVariants.{At, NoMemory}
use Rattle.msl_base.specs.Names.{Text, is_among}
use Rattle.msl_fun.specs.Checks.{names_of}
use Rattle.msl_read.specs.Front.{form}
use Rattle.msl_read.specs.Front.{name_in}
use Rattle.msl_base.specs.Names.{place_among}
use Rattle.msl_read.specs.Reading.{Refusal, Test, test, failing, place, says}
use Rattle.msl_program.specs.declared.data.Arg.{Arg}
use Rattle.msl_program.specs.declared.data.Arg.TheVariants as arg
use Rattle.msl_program.specs.declared.data.DataLine.{DataLine}
use Rattle.msl_program.specs.Known.{Known}
use Rattle.msl_program.specs.Programs.{Program}
use Rattle.msl_grammar.specs.declared.used.Used.{Used}
use Rattle.msl_program.specs.declared.shape.Shape.{Shape}
use Rattle.msl_program.specs.declared.shape.Shape.TheVariants.{Number}
use Rattle.msl_program.specs.declared.shape.Need.{Need}
use Rattle.msl_program.specs.declared.shape.Need.TheVariants as need
use Rattle.msl_program.specs.Known.{is_declared}
use Rattle.msl_read.specs.Refusals.{IsFailed}
use Rattle.msl_program.specs.Programs.{line_names, suits}
use Rattle.msl_grammar.specs.Uses.{shape_of}
use Rattle.msl_ops.specs.Operators.{has_modulus}
use Rattle.msl_grammar.specs.ScriptGrammar.{State, on, name_turn, reading, token, line_tests, line_found, an_arg, an_integer, more_args, one_arg, lines, line_rest, give_rule}
use Rattle.msl_data_read.specs.Lines.{TakesLine, IsReadAs}
use Rattle.msl_grammar.specs.Following.{IsRead}
use Rattle.msl_read.specs.Refusals.{IsRefused}
use Rattle.msl_grammar.proofs.Leaves.{absent, there, placed, name_fails, name_passes}

-- ---- the place of a line

first_of_map : {X Y : Type 0} (p : Y → Bool) (f : X → Y) (xs : List X) → position_or_len p (map f xs) ≡ position_or_len (λ x. p (f x)) xs
first_of_map p f [] = refl
first_of_map p f (x ∷ xs) = ap (λ (n : ℕ). if not (p (f x)) then 1 + n else 0) (first_of_map p f xs)

-- a line stands where its name does
pub line_is : (p : Program) (ls : List DataLine) (n : Text) (r : Option ℕ) → ls ≡ p.lines → r ≡ position (λ (l : DataLine). bytes_eq n l.name) ls → r ≡ place_among (line_names p) n
line_is p ls n r same is =
    let named : position (λ (l : DataLine). bytes_eq n l.name) p.lines ≡ place_among (line_names p) n = rw (length-map p.lines (λ (l : DataLine). l.name), first_of_map (bytes_eq n) (λ (l : DataLine). l.name) p.lines) in
    is ∙ ap (position (λ (l : DataLine). bytes_eq n l.name)) same ∙ named

-- ---- the tests at the name of a line

module _ (at : ℕ) where
  abbrev of : Bool → Bool → Option Refusal
  of known fits = failing (test Unknown at known ∷ test WrongKind at fits ∷ [])

  unknown : (known fits : Bool) → known ≡ false → of known fits ≡ Some (Unknown, at)
  unknown true fits h = cc
  unknown false fits h = refl

  by_fit : (known fits b : Bool) → known ≡ true → fits ≡ b → of known fits ≡ (if b then None else Some (WrongKind, at))
  by_fit false fits b h e = cc
  by_fit true true b h e = rw (← e) refl
  by_fit true false b h e = rw (← e) refl

module _ (p : Program) (needed : Need) (at : ℕ) (n : Text) where
  pub line_absent : place_among (line_names p) n ≡ None → failing (line_tests p needed at n) ≡ Some (Unknown, at)
  line_absent none = unknown at (is_among (line_names p) n) (suits needed (shape_of p n)) (absent (line_names p) n none)

  pub line_there : (k : ℕ) (b : Bool) → place_among (line_names p) n ≡ Some k → suits needed (slice_index_or p.shapes k Number) ≡ b
      → failing (line_tests p needed at n) ≡ (if b then None else Some (WrongKind, at))
  line_there k b some fits =
      by_fit at (is_among (line_names p) n) (suits needed (shape_of p n)) b (there (line_names p) n k some)
      (ap (λ (k : ℕ). suits needed (slice_index_or p.shapes k Number)) (placed (line_names p) n k some) ∙ fits)

-- ---- more tests behind others

failed_test : (holds : Bool) (r s : Option Refusal) (e n : Refusal) → (r ≡ Some n → s ≡ Some n) → (if holds then r else Some e) ≡ Some n → (if holds then s else Some e) ≡ Some n
failed_test true r s e n go h = go h
failed_test false r s e n go h = h

fails_before : (a b : List Test) (r : Refusal) → failing a ≡ Some r → failing (a ++ b) ≡ Some r
fails_before [] b r h = cc
fails_before (t ∷ a) b r h = failed_test t.holds (failing a) (failing (a ++ b)) (t.kind, t.at) r (fails_before a b r) h

passed_test : (holds : Bool) (r s more : Option Refusal) (e : Refusal) → (r ≡ None → s ≡ more) → (if holds then r else Some e) ≡ None → (if holds then s else Some e) ≡ more
passed_test true r s more e go h = go h
passed_test false r s more e go h = cc

passes_on : (a b : List Test) → failing a ≡ None → failing (a ++ b) ≡ failing b
passes_on [] b h = refl
passes_on (t ∷ a) b h = passed_test t.holds (failing a) (failing (a ++ b)) (failing b) (t.kind, t.at) (passes_on a b) h

-- a test that fails before others
failed_before : (a b : List Test) (e : ReadFault) → IsFailed (failing a) e → IsFailed (failing (a ++ b)) e
failed_before a b (At kind at) h = fails_before a b (kind, at) h
failed_before a b NoMemory h = absurd h

-- a state that wants a name: it is refused as the tests at it say
module _ (s : State) (due : ℕ → Text → List Test) (next : ℕ → Text → State) (is : (t behind : Lexeme) → on s t behind ≡ name_turn (due t.at) (name_in t.form) (next t.at)) where
  name_refused : (ts : List Lexeme) (n : Text) (e : ReadFault) → name_in (form ts) ≡ Some n → IsFailed (failing (due (place ts) n)) e → IsRefused (reading ts s) e
  name_refused ts n (At kind at) named h = name_fails s due next is ts n (kind, at) named h
  name_refused ts n NoMemory named h = tt

-- reading goes on behind some tokens as from the start
pub goes_on : {A : Type 0} (ts mid rest : List Lexeme) (part next : (A → State) → State) (r : Result A ReadFault) → ((k : A → State) → reading ts (part k) ≡ reading mid (next k)) → IsRead mid next rest r → IsRead ts part rest r
goes_on ts mid rest part next (Ok a) same h = λ k. same k ∙ h k
goes_on ts mid rest part next (Err e) same h = λ k. subst (λ r. IsRefused r e) (sym (same k)) (h k)

one_fails : (kind : Kind) (at : ℕ) (b : Bool) → b ≡ false → failing (test kind at b ∷ []) ≡ Some (kind, at)
one_fails kind at b h = rw h refl

one_passes : (kind : Kind) (at : ℕ) (b : Bool) → b ≡ true → failing (test kind at b ∷ []) ≡ None
one_passes kind at b h = rw h refl

-- a state that wants a line which suits, with one test more of what it is
module _ (p : Program) (needed : Need) (kind : Kind) (at : ℕ) (holds : Shape → Bool) (k : ℕ × Shape → State) (s : State)
    (is : (t behind : Lexeme) → on s t behind ≡ name_turn (λ n. line_tests p needed t.at n ++ test kind at (holds (shape_of p n)) ∷ []) (name_in t.form) (λ n. k (line_found p n)))
    (ts : List Lexeme) (n : Text) (named : name_in (form ts) ≡ Some n) where
  unfoldable due : ℕ → Text → List Test
  due place n = line_tests p needed place n ++ test kind at (holds (shape_of p n)) ∷ []

  unfoldable next : ℕ → Text → State
  next place n = k (line_found p n)

  pub line_refused : (e : ReadFault) → IsFailed (failing (line_tests p needed (place ts) n)) e → IsRefused (reading ts s) e
  unfolding due next
  line_refused e h = name_refused s due next is ts n e named (failed_before (line_tests p needed (place ts) n) (test kind at (holds (shape_of p n)) ∷ []) e h)

  pub line_unfit : failing (line_tests p needed (place ts) n) ≡ None → holds (shape_of p n) ≡ false → reading ts s ≡ Err (kind, at)
  unfolding due next
  line_unfit none h =
      name_fails s due next is ts n (kind, at) named (passes_on (line_tests p needed (place ts) n) (test kind at (holds (shape_of p n)) ∷ []) none ∙ one_fails kind at (holds (shape_of p n)) h)

  pub line_fit : (l : ℕ × Shape) (rest : List Lexeme) → failing (line_tests p needed (place ts) n) ≡ None → holds (shape_of p n) ≡ true → l ≡ line_found p n → rest ≡ drop 1 ts
      → reading ts s ≡ reading rest (k l)
  unfolding due next
  line_fit l rest none h found taken =
      name_passes s due next is ts n named (passes_on (line_tests p needed (place ts) n) (test kind at (holds (shape_of p n)) ∷ []) none ∙ one_passes kind at (holds (shape_of p n)) h)
      ∙ (λ i. reading (sym taken i) (k (sym found i)))

-- ---- functions

either : (a b : Bool) → a ≡ true → (a || b) ≡ true
either true b h = refl
either false b h = cc

-- a function is declared
pub fun_declared : (m : Known) (n : Text) (k : ℕ) → place_among (names_of m.funs) n ≡ Some k → is_declared m n ≡ true
fun_declared m n k some = either (is_among (names_of m.funs) n) (is_among m.others n) (there (names_of m.funs) n k some)

-- ---- arguments

module _ (p : Program) where
  module _ (k : Arg → State) where
    -- an argument that is no name is an integer
    pub arg_unnamed : (ts : List Lexeme) → name_in (form ts) ≡ None → reading ts (an_arg p k) ≡ reading ts (an_integer (λ z. k (arg.Lit z)))
    arg_unnamed [] h = refl
    arg_unnamed (t ∷ ts) h = rw h refl

    arg_fails : (ts : List Lexeme) (n : Text) (r : Refusal) → name_in (form ts) ≡ Some n → failing (line_tests p need.Number (place ts) n) ≡ Some r → reading ts (an_arg p k) ≡ Err r
    arg_fails [] n r named some = cc
    arg_fails (t ∷ ts) n r named some = rw (named, some) refl

    pub arg_refused : (ts : List Lexeme) (n : Text) (e : ReadFault) → name_in (form ts) ≡ Some n → IsFailed (failing (line_tests p need.Number (place ts) n)) e → IsRefused (reading ts (an_arg p k)) e
    arg_refused ts n (At kind at) named h = arg_fails ts n (kind, at) named h
    arg_refused ts n NoMemory named h = tt

    pub arg_named : (ts : List Lexeme) (n : Text) → name_in (form ts) ≡ Some n → failing (line_tests p need.Number (place ts) n) ≡ None
        → reading ts (an_arg p k) ≡ reading (drop 1 ts) (k (arg.Number (line_found p n).0))
    arg_named [] n named none = cc
    arg_named (t ∷ ts) n named none = rw (named, none) refl

  -- behind the arguments of a function
  module _ (u : Used) (k : Used → State) where
    pub args_go_on : (ts : List Lexeme) → says (codes ",") (form ts) ≡ true → reading ts (more_args p u k) ≡ reading (drop 1 ts) (one_arg p u k)
    args_go_on [] h = cc
    args_go_on (t ∷ ts) h = rw h refl

    pub args_end : (ts : List Lexeme) → says (codes ",") (form ts) ≡ false → reading ts (more_args p u k) ≡ reading ts (token (codes ")") (k u))
    args_end [] h = refl
    args_end (t ∷ ts) h = rw h refl

-- ---- lines

module _ (m : Known) (p : Program) (k : Program × ℕ → State) (n : Text) where
  pub line_many : (ts : List Lexeme) → says (codes "give") (form ts) ≡ false → name_in (form ts) ≡ Some n → 64 ≤ length p.lines → reading ts (lines m p k) ≡ Err (Many, place ts)
  line_many [] other named full = cc
  line_many (t ∷ ts) other named full = rw (other, named, le-ltb (length p.lines) 64 full) refl

  pub line_twice : (ts : List Lexeme) → says (codes "give") (form ts) ≡ false → name_in (form ts) ≡ Some n → length p.lines < 64 → is_among (line_names p) n ≡ true → reading ts (lines m p k) ≡ Err (Twice, place ts)
  line_twice [] other named few there = cc
  line_twice (t ∷ ts) other named few there = rw (other, named, lt-ltb (length p.lines) 64 few, there) refl

  pub line_begins : (ts : List Lexeme) → says (codes "give") (form ts) ≡ false → name_in (form ts) ≡ Some n → length p.lines < 64 → is_among (line_names p) n ≡ false
      → reading ts (lines m p k) ≡ reading (drop 1 ts) (line_rest m p n (λ q. lines m q k))
  line_begins [] other named few new = cc
  line_begins (t ∷ ts) other named few new = rw (other, named, lt-ltb (length p.lines) 64 few, new) refl

-- behind a name there is less
pub shorter : (ts : List Lexeme) (n : Text) → name_in (form ts) ≡ Some n → length (drop 1 ts) < length ts
shorter [] n named = cc
shorter (t ∷ ts) n named = omega (arith, length-drop 1 (t ∷ ts))

-- a line is read by its name and by what stands behind it
pub line_goes_on : (m : Known) (p q : Program) (n : Text) (ts mid rest : List Lexeme) (r : Result Unit ReadFault) → ((k : Program × ℕ → State) → reading ts (lines m p k) ≡ reading mid (line_rest m p n (λ q. lines m q k)))
    → IsReadAs mid (line_rest m p n) q rest r → TakesLine m p ts q rest r
line_goes_on m p q n ts mid rest (Ok _) same h = λ k. same k ∙ h (λ q. lines m q k)
line_goes_on m p q n ts mid rest (Err e) same h = λ k. subst (λ r. IsRefused r e) (sym (same k)) (h (λ q. lines m q k))

module _ (m : Known) (p : Program) (k : Program × ℕ → State) where
  -- behind the last line
  pub lines_end : (ts : List Lexeme) → says (codes "give") (form ts) ≡ true → reading ts (lines m p k) ≡ reading (drop 1 ts) (give_rule p k)
  lines_end [] h = cc
  lines_end (t ∷ ts) h = rw h refl

-- ---- operators

pub no_modulus_most : (kind : OpKind) → has_modulus kind ≡ false → greatest_modulus kind ≡ pos 1
no_modulus_most AddMod h = cc
no_modulus_most MulMod h = cc
no_modulus_most Sum h = refl
no_modulus_most Min h = refl
no_modulus_most Max h = refl
no_modulus_most And h = refl
no_modulus_most Or h = refl
no_modulus_most Xor h = refl
no_modulus_most Gcd h = refl
