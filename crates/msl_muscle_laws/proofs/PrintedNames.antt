-- A name that is printed: what it begins, and its place among others.
use Rattle.std.proofs.Common.{◌≡◌, ◌≢◌, ℕ, zero, suc, ◌<◌, List, [], ◌∷◌, length, take, get_or, Bool, true, false, not, ◌&&◌, ◌||◌, if◌then◌else◌, codes, Some, slice_get, refl, ap, sym, ◌∙◌, arith, lt-ltb, lit<, length-take, get_or-take, ⊎_elim, nat_le}
use Rattle.std.proofs.lemmas.List.{get_or-map, length-map, take-map}
use Rattle.std.proofs.lemmas.List.Sums.{position_or_len_is}
use Rattle.std.proofs.lemmas.Option.{slice_get_cases}
use Rattle.std.proofs.lemmas.Slice.Eq.{bytes_eq-Decides}
use Rattle.std.specs.List.{list_any, list_all, position_or_len}
use Rattle.std.specs.Str.{bytes_eq}
use Rattle.msl_lex.specs.Lexemes.{Form, word}
use Rattle.msl_fun.specs.declared.funs.Fun.{Fun}
use Rattle.msl_fun_read.specs.declared.parse.first.First.TheVariants as first
use Rattle.msl_base.specs.Names.{Text, is_among, are_distinct}
use Rattle.msl_fun.specs.Checks.{AreFuns, names_of}
use Rattle.msl_lex.specs.Layout.{is_word}
use Rattle.msl_lex.specs.Names.{is_name, reserved}
use Rattle.msl_read.specs.Reading.{says}
use Rattle.msl_fun_read.specs.Grammar.{first_in}
use Rattle.msl_read.specs.Front.{name_in}
use Rattle.msl_base.specs.Names.{place_among}

-- ---- tests

pub or_false : (a b : Bool) → (a || b) ≡ false → (a ≡ false) × (b ≡ false)
or_false true b h = cc
or_false false b h = (refl, h)

pub and_true : (a b : Bool) → (a && b) ≡ true → (a ≡ true) × (b ≡ true)
and_true true b h = (refl, h)
and_true false b h = cc

pub not_true : (a : Bool) → not a ≡ true → a ≡ false
not_true true h = cc
not_true false h = refl

fails_at : {X : Type 0} (p : X → Bool) (xs : List X) (i : ℕ) (d : X) → list_any p xs ≡ false → i < length xs → p (get_or xs i d) ≡ false
fails_at p [] i d h lt = absurd (omega arith)
fails_at p (x ∷ xs) zero d h lt = (or_false (p x) (list_any p xs) h).0
fails_at p (x ∷ xs) (suc i) d h lt = fails_at p xs i d (or_false (p x) (list_any p xs) h).1 (omega arith)

pub passes_at : {X : Type 0} (p : X → Bool) (xs : List X) (i : ℕ) (d : X) → list_all p xs ≡ true → i < length xs → p (get_or xs i d) ≡ true
passes_at p [] i d h lt = absurd (omega arith)
passes_at p (x ∷ xs) zero d h lt = (and_true (p x) (list_all p xs) h).0
passes_at p (x ∷ xs) (suc i) d h lt = passes_at p xs i d (and_true (p x) (list_all p xs) h).1 (omega arith)

pub same_text : (w : Text) → bytes_eq w w ≡ true
same_text w = (bytes_eq-Decides w w).1 refl

differs : (v w : Text) → v ≢ w → bytes_eq v w ≡ false
differs v w apart = by (bytes_eq v w) refl
  where
    by : (b : Bool) → bytes_eq v w ≡ b → b ≡ false
    by true e = absurd (apart ((bytes_eq-Decides v w).0 e))
    by false e = refl

pub turned : (v w : Text) → bytes_eq v w ≡ false → bytes_eq w v ≡ false
turned v w h = differs w v (λ e. let t : bytes_eq v w ≡ true = (bytes_eq-Decides v w).1 (sym e) in cc)

-- ---- what a name begins

module _ (w : Text) (name : is_name w ≡ true) where
  parts : ((is_word w && nat_le (length w) 64) ≡ true) × (not (is_among reserved w) ≡ true)
  parts = and_true (is_word w && nat_le (length w) 64) (not (is_among reserved w)) name

  pub word_of : (is_word w ≡ true) × (nat_le (length w) 64 ≡ true)
  word_of = and_true (is_word w) (nat_le (length w) 64) parts.0

  pub unreserved : is_among reserved w ≡ false
  unreserved = not_true (is_among reserved w) parts.1

  no_keyword : (i : ℕ) → i < length reserved → bytes_eq w (get_or reserved i []) ≡ false
  no_keyword i lt = fails_at (bytes_eq w) reserved i [] unreserved lt

  pub no_sign : (s : Text) → is_word s ≡ false → bytes_eq w s ≡ false
  no_sign s other = differs w s (λ e. let q : is_word w ≡ false = ap is_word e ∙ other in let p = word_of.0 in cc)

  pub is_named : name_in (word w) ≡ Some w
  is_named = rw unreserved refl

  first_is : (behind : Form) → first_in (word w) behind ≡ (if says (codes "(") behind then first.Call else first.Variable)
  first_is behind =
      rw (unreserved, no_keyword 7 (lit< tt), no_keyword 10 (lit< tt), no_keyword 12 (lit< tt), no_sign (codes "-") refl, no_keyword 16 (lit< tt), no_keyword 17 (lit< tt), no_keyword 18 (lit< tt), no_sign (codes "(") refl) refl

  pub variable_first : (behind : Form) → says (codes "(") behind ≡ false → first_in (word w) behind ≡ first.Variable
  variable_first behind h = first_is behind ∙ rw h refl

  pub call_first : (behind : Form) → says (codes "(") behind ≡ true → first_in (word w) behind ≡ first.Call
  call_first behind h = first_is behind ∙ rw h refl

-- ---- places

found : (names : List Text) (n : Text) (k : ℕ) → k < length names → position_or_len (bytes_eq n) names ≡ k → place_among names n ≡ Some k
found names n k lt is = rw (is, lt-ltb k (length names) lt) refl

first_place : (ns : List Text) (k : ℕ) → are_distinct ns ≡ true → k < length ns → position_or_len (bytes_eq (get_or ns k [])) ns ≡ k
first_place [] k h lt = absurd (omega arith)
first_place (n ∷ ns) zero h lt = rw (same_text n) refl
first_place (n ∷ ns) (suc k) h lt =
    let both = and_true (not (is_among ns n)) (are_distinct ns) h in
    let other : bytes_eq (get_or ns k []) n ≡ false = turned n (get_or ns k []) (fails_at (bytes_eq n) ns k [] (not_true (is_among ns n) both.0) (omega arith)) in
    let rest : position_or_len (bytes_eq (get_or ns k [])) ns ≡ k = first_place ns k both.1 (omega arith) in
    rw other (omega (arith, rest))

-- among names that differ each has its own place
pub own_place : (ns : List Text) (k : ℕ) → are_distinct ns ≡ true → k < length ns → place_among ns (get_or ns k []) ≡ Some k
own_place ns k h lt = found ns (get_or ns k []) k lt (first_place ns k h lt)

-- so has each function
module _ (funs : List Fun) (rules : AreFuns funs) (k : ℕ) (lt : k < length funs) where
  abbrev here : Type 0
  here = (f : Fun) × (slice_get funs k ≡ Some f) × (get_or (names_of funs) k [] ≡ f.name)

  fun_here : here
  fun_here = ⊎_elim (λ p. (p.0, p.2, get_or-map (λ (f : Fun). f.name) funs k p.0 [] lt ∙ ap (λ (f : Fun). f.name) p.3)) (λ p. absurd (omega (arith, p.0))) (slice_get_cases funs k).1

  abbrev name : Text
  name = get_or (names_of funs) k []

  pub fun_named : is_name name ≡ true
  fun_named = let f = fun_here in ap is_name f.2 ∙ (and_true (is_name f.0.name) (not (is_among (names_of (take k funs)) f.0.name)) (rules.each k f.0 f.1).name).0

  taken_name : (j : ℕ) → j < k → get_or (names_of (take k funs)) j [] ≡ get_or (names_of funs) j []
  taken_name j below = ap (λ (ns : List Text). get_or ns j []) (sym (take-map (λ (f : Fun). f.name) k funs)) ∙ rw get_or-take

  earlier : (j : ℕ) → j < k → bytes_eq name (get_or (names_of funs) j []) ≡ false
  earlier j below =
      let f = fun_here in
      let new = not_true (is_among (names_of (take k funs)) f.0.name) (and_true (is_name f.0.name) (not (is_among (names_of (take k funs)) f.0.name)) (rules.each k f.0 f.1).name).1 in
      let long : j < length (names_of (take k funs)) = omega (arith, length-map (take k funs) (λ (f : Fun). f.name), length-take k funs) in
      ap (λ (n : Text). bytes_eq n (get_or (names_of funs) j [])) f.2 ∙ (ap (bytes_eq f.0.name) (sym (taken_name j below)) ∙ fails_at (bytes_eq f.0.name) (names_of (take k funs)) j [] new long)

  pub fun_place : place_among (names_of funs) name ≡ Some k
  fun_place =
      let size : length (names_of funs) ≡ length funs = length-map funs (λ (f : Fun). f.name) in
      found (names_of funs) name k (omega arith) (position_or_len_is (bytes_eq name) (names_of funs) k [] (omega arith) earlier (λ _. same_text name))
