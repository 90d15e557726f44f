-- How reading goes on at one token: a name or a number under tests.
use Rattle.std.proofs.Common.{◌≡◌, ℕ, Bool, true, false, ◌&&◌, ◌||◌, List, [], ◌∷◌, drop, Option, Some, None, is_some, Err, if◌then◌else◌, refl, ap, sym, ◌∙◌}
use Rattle.std.specs.Prelude.{ℤ, pos, neg_ℤ, codes}
use Rattle.std.specs.Option.{unwrap_or}
use Rattle.msl_lex.specs.declared.kind.Kind.TheVariants.{Expected, Unknown, WrongKind, Width}
use Rattle.msl_lex.specs.Lexemes.{Form, Lexeme, word, number, sign, close}
use Rattle.msl_base.specs.Names.{Text, is_among}
use Rattle.msl_fun.specs.Checks.{names_of}
use Rattle.msl_read.specs.Front.{form, IsNumber}
use Rattle.msl_read.specs.Front.{name_in, number_in}
use Rattle.msl_base.specs.Names.{place_among}
use Rattle.msl_read.specs.Reading.{Refusal, Test, test, failing, place, moved, says}
use Rattle.msl_base.proofs.Names.{has_place}
use Rattle.msl_program.specs.Known.{Known}
use Rattle.msl_program.specs.declared.width.Width as widths
use Rattle.msl_program.specs.Known.{is_declared}
use Rattle.msl_fun.specs.Meaning.{params_of, results_of}
use Rattle.msl_program.specs.Widths.{allows}
use Rattle.msl_grammar.specs.Known as known
use Rattle.msl_grammar.specs.ScriptGrammar.{State, on, reading, name_turn, number_turn, of_kind, function_tests, fun_place, a_natural, an_integer}

-- ---- a name

-- a state that wants a name: the tests at it, and what follows
module _ (s : State) (due : ℕ → Text → List Test) (next : ℕ → Text → State) (is : (t behind : Lexeme) → on s t behind ≡ name_turn (due t.at) (name_in t.form) (next t.at)) where
  pub name_passes : (ts : List Lexeme) (n : Text) → name_in (form ts) ≡ Some n → failing (due (place ts) n) ≡ None → reading ts s ≡ reading (drop 1 ts) (next (place ts) n)
  name_passes [] n named none = cc
  name_passes (t ∷ ts) n named none = rw (is, named, none) refl

  pub name_fails : (ts : List Lexeme) (n : Text) (r : Refusal) → name_in (form ts) ≡ Some n → failing (due (place ts) n) ≡ Some r → reading ts s ≡ Err r
  name_fails [] n r named some = cc
  name_fails (t ∷ ts) n r named some = rw (is, named, some) refl

  pub no_name : (ts : List Lexeme) → name_in (form ts) ≡ None → reading ts s ≡ Err (Expected, place ts)
  no_name [] none = refl
  no_name (t ∷ ts) none = rw (is, none) refl

-- ---- the tests at the name of a definition

module _ (at : ℕ) (rest : List Test) where
  abbrev of : Bool → Bool → Option Refusal
  of declared there = failing (test Unknown at declared ∷ test WrongKind at there ∷ rest)

  unfound : (declared there : Bool) → there ≡ false → of declared there ≡ Some ((if declared then WrongKind else Unknown), at)
  unfound declared true h = cc
  unfound true false h = refl
  unfound false false h = refl

  found : (declared there : Bool) → declared ≡ true → there ≡ true → of declared there ≡ failing rest
  found false there d h = cc
  found true false d h = cc
  found true true d h = refl

module _ (names : List Text) (n : Text) where
  pub absent : place_among names n ≡ None → is_among names n ≡ false
  absent none = sym (has_place names n) ∙ ap is_some none

  pub there : (k : ℕ) → place_among names n ≡ Some k → is_among names n ≡ true
  there k some = sym (has_place names n) ∙ ap is_some some

  pub placed : (k : ℕ) → place_among names n ≡ Some k → known.place names n ≡ k
  placed k some = ap (λ o. unwrap_or o 0) some

module _ (m : Known) (names : List Text) (at : ℕ) (n : Text) where
  pub kind_absent : place_among names n ≡ None → failing (of_kind m names at n) ≡ Some ((if is_declared m n then WrongKind else Unknown), at)
  kind_absent none = unfound at [] (is_declared m n) (is_among names n) (absent names n none)

  pub kind_found : (k : ℕ) → place_among names n ≡ Some k → is_declared m n ≡ true → failing (of_kind m names at n) ≡ None
  kind_found k some declared = found at [] (is_declared m n) (is_among names n) declared (there names n k some)

-- ---- the tests at the name of a function

either : (a b : Bool) → a ≡ true → (a || b) ≡ true
either true b h = refl
either false b h = cc

by_width : (at : ℕ) (fits b : Bool) → fits ≡ b → failing (test Width at fits ∷ []) ≡ (if b then None else Some (Width, at))
by_width at true b e = rw (← e) refl
by_width at false b e = rw (← e) refl

module _ (m : Known) (params results : widths.Width) (at : ℕ) (n : Text) where
  abbrev due : Option Refusal
  due = failing (function_tests m params results at n)

  pub function_absent : place_among (names_of m.funs) n ≡ None → due ≡ Some ((if is_declared m n then WrongKind else Unknown), at)
  function_absent none =
      unfound at (test Width at (allows params (params_of m.funs (fun_place m n)) && allows results (results_of m.funs (fun_place m n))) ∷ []) (is_declared m n) (is_among (names_of m.funs) n) (absent (names_of m.funs) n none)

  pub function_found : (k : ℕ) (b : Bool) → place_among (names_of m.funs) n ≡ Some k → (allows params (params_of m.funs k) && allows results (results_of m.funs k)) ≡ b → due ≡ (if b then None else Some (Width, at))
  function_found k b some fits =
      let is = there (names_of m.funs) n k some in
      let p = placed (names_of m.funs) n k some in
      found at (test Width at (allows params (params_of m.funs (fun_place m n)) && allows results (results_of m.funs (fun_place m n))) ∷ []) (is_declared m n) (is_among (names_of m.funs) n) (either _ _ is) is
      ∙ by_width at _ b (ap (λ f. allows params (params_of m.funs f) && allows results (results_of m.funs f)) p ∙ fits)

-- ---- a number

module _ (s : State) (due : ℕ → ℕ → List Test) (next : ℕ → ℕ → State) (is : (t behind : Lexeme) → on s t behind ≡ number_turn (due t.at) t.form (next t.at)) where
  by_form : (f : Form) (t : Lexeme) (ts : List Lexeme) (o : Option Refusal) → IsNumber f → failing (due t.at (number_in f)) ≡ o
      → moved (number_turn (due t.at) f (next t.at)) t ts (reading ts) ≡ (if is_some o then Err (unwrap_or o (Expected, 0)) else reading ts (next t.at (number_in f)))
  by_form (number v) t ts None h e = rw e refl
  by_form (number v) t ts (Some r) h e = rw e refl
  by_form (word w) t ts o h e = absurd h
  by_form (sign s) t ts o h e = absurd h
  by_form close t ts o h e = absurd h

  pub number_passes : (ts : List Lexeme) → IsNumber (form ts) → failing (due (place ts) (number_in (form ts))) ≡ None → reading ts s ≡ reading (drop 1 ts) (next (place ts) (number_in (form ts)))
  number_passes [] h none = absurd h
  number_passes (t ∷ ts) h none = rw is (by_form t.form t ts None h none)

  pub number_fails : (ts : List Lexeme) (r : Refusal) → IsNumber (form ts) → failing (due (place ts) (number_in (form ts))) ≡ Some r → reading ts s ≡ Err r
  number_fails [] r h some = absurd h
  number_fails (t ∷ ts) r h some = rw is (by_form t.form t ts (Some r) h some)

  no_number_by : (f : Form) (t : Lexeme) (ts : List Lexeme) → (IsNumber f → ⊥) → moved (number_turn (due t.at) f (next t.at)) t ts (reading ts) ≡ Err (Expected, t.at)
  no_number_by (number v) t ts h = absurd (h tt)
  no_number_by (word w) t ts h = refl
  no_number_by (sign s) t ts h = refl
  no_number_by close t ts h = refl

  pub no_number : (ts : List Lexeme) → (IsNumber (form ts) → ⊥) → reading ts s ≡ Err (Expected, place ts)
  no_number [] h = refl
  no_number (t ∷ ts) h = rw is (no_number_by t.form t ts h)

-- ---- an integer

module _ (k : ℤ → State) where
  -- without a sign an integer is a number
  pub positive : (ts : List Lexeme) → says (codes "-") (form ts) ≡ false → reading ts (an_integer k) ≡ reading ts (a_natural (λ v. k (pos v)))
  positive [] h = refl
  positive (t ∷ ts) h = rw h refl

  -- behind a sign it is the opposite of one
  pub negative : (ts : List Lexeme) → says (codes "-") (form ts) ≡ true → reading ts (an_integer k) ≡ reading (drop 1 ts) (a_natural (λ v. k (neg_ℤ (pos v))))
  negative [] h = cc
  negative (t ∷ ts) h = rw h refl
