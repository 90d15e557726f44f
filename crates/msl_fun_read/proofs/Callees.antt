-- The function that a name calls, and the tests that are due at it.
use Rattle.std.proofs.Common.{◌≡◌, ◌≢◌, ℕ, ◌<◌, ◌≤◌, List, [], ◌∷◌, length, slice_get, Bool, true, false, ◌||◌, ◌==◌, nat_lt, if◌then◌else◌, Option, Some, None, is_some, option_map, refl, ap, sym, ◌∙◌, arith, ⊎_elim, lt-ltb, le-ltb, eq-eqb, ne_eqb}
use Rattle.std.proofs.lemmas.List.{get_or-map, get_or_past}
use Rattle.std.proofs.lemmas.Option.{slice_get_cases}
use Rattle.std.specs.Option.{unwrap_or}
use Rattle.msl_lex.specs.declared.kind.Kind.{Kind}
use Rattle.msl_lex.specs.declared.kind.Kind.TheVariants as kind
use Rattle.msl_lex.specs.Lexemes.{Lexeme}
use Rattle.msl_fun.specs.declared.funs.Fun.{Fun}
use Rattle.msl_base.specs.Names.{Text, is_among}
use Rattle.msl_fun.specs.Checks.{names_of, rank_of, widths_of, ranks_from}
use Rattle.msl_fun_read.specs.Calls.{IsCallee, callee_of}
use Rattle.msl_read.specs.Reading.{Refusal, test, failing, place}
use Rattle.msl_read.specs.Front.{form}
use Rattle.msl_read.specs.Front.{name_in, word_in}
use Rattle.msl_base.specs.Names.{place_among}
use Rattle.msl_fun_read.specs.Grammar.{fun_at, is_declared, callee_tests, params_at, results_at}
use Rattle.msl_fun_read.specs.Grammar as grammar
use Rattle.msl_fun.specs.Meaning.{params_of, results_of, width_of}
use Rattle.msl_base.proofs.Names.{place_within}
use Rattle.msl_fun.proofs.Functions.{called, called_within}
use Rattle.msl_base.proofs.Names.{has_place}
use Rattle.msl_read.proofs.Cursors.{name_is}
use Rattle.msl_fun.proofs.Ranks.{length-ranks}

-- ---- what is found of it

with_widths : (o : Option Fun) (f : Fun) → o ≡ Some f →
    option_map {U = ℕ × ℕ} (λ (g : Fun). (length g.params, length g.results)) o ≡ Some (width_of (λ (g : Fun). length g.params) o, width_of (λ (g : Fun). length g.results) o)
with_widths None f is = cc
with_widths (Some g) f is = refl

module _ (funs : List Fun) (k : ℕ) (within : k < length funs) where
  pub widths_are : widths_of funs k ≡ Some (params_of funs k, results_of funs k)
  widths_are = ⊎_elim (λ f. with_widths (slice_get funs k) f.0 f.2) (λ none. absurd (omega (arith, none.0))) (slice_get_cases funs k).1

  results_are : (others : List Text) → results_at funs others k ≡ results_of funs k
  results_are others =
      ⊎_elim
      (λ f. get_or-map (λ (g : Fun). length g.results) funs k f.0 1 within ∙ ap (λ (g : Fun). length g.results) f.3 ∙ ap (width_of (λ (g : Fun). length g.results)) (sym f.2))
      (λ none. absurd (omega (arith, none.0)))
      (slice_get_cases funs k).1

pub params_are : (funs : List Fun) (others : List Text) (k n : ℕ) → widths_of funs k ≡ Some (n, 1) → params_at funs others k ≡ n
params_are funs others k n h =
    ⊎_elim
    (λ f. get_or-map (λ (g : Fun). length g.params) funs k f.0 0 f.1 ∙ ap (λ (g : Fun). length g.params) f.3 ∙ (called funs k n f.0 h f.2).params)
    (λ none. absurd (omega (arith, called_within funs k n h, none.0)))
    (slice_get_cases funs k).1

-- ---- the tests

module _ (at : ℕ) where
  abbrev tests : Bool → Bool → Bool → Bool → Option Refusal
  tests low known is_fun one = failing (test kind.Deep at low ∷ test kind.Unknown at known ∷ test kind.WrongKind at is_fun ∷ test kind.Width at one ∷ [])

  no_fun : (low is_fun other one : Bool) → low ≡ true → is_fun ≡ false → tests low (is_fun || other) is_fun one ≡ Some ((if other then kind.WrongKind else kind.Unknown), at)
  no_fun false is_fun other one e h = cc
  no_fun true true other one e h = cc
  no_fun true false true one e h = refl
  no_fun true false false one e h = refl

  too_deep : (low known is_fun one : Bool) → low ≡ false → tests low known is_fun one ≡ Some (kind.Deep, at)
  too_deep false known is_fun one e = refl
  too_deep true known is_fun one e = cc

  by_width : (low is_fun other one : Bool) → low ≡ true → is_fun ≡ true → tests low (is_fun || other) is_fun one ≡ (if one then None else Some (kind.Width, at))
  by_width false is_fun other one e h = cc
  by_width true false other one e h = cc
  by_width true true other one e h = refl

-- of the name that the first token is
module _ (funs : List Fun) (others : List Text) (ts : List Lexeme) (at : ℕ) (n : Text) (at_is : at ≡ place ts) (name : name_in (form ts) ≡ Some n) where
  abbrev result : Option Refusal
  result = failing (callee_tests funs others (place ts) (word_in (form ts)))

  word : word_in (form ts) ≡ n
  word = name_is (form ts) n name

  at_name : result ≡ failing (callee_tests funs others at n)
  at_name = λ i. failing (callee_tests funs others (sym at_is i) (word i))

  pub unfound : (k : Kind) → place_among (names_of funs) n ≡ None → k ≡ (if is_among others n then kind.WrongKind else kind.Unknown) → result ≡ Some (k, at)
  unfound k none is =
      let last = ap (λ (o : Option ℕ). unwrap_or o (length funs)) none in
      let no_rank = ap (rank_of funs) last ∙ get_or_past (ranks_from [] funs) (length funs) 0 (omega (arith, length-ranks [] funs)) in
      let unnamed = sym (has_place (names_of funs) n) ∙ ap is_some none in
      at_name ∙ no_fun at _ _ (is_among others n) _ (lt-ltb _ 8 (omega (arith, no_rank))) unnamed ∙ ap (λ (k : Kind). Some (k, at)) (sym is)

  module _ (k : ℕ) (found : place_among (names_of funs) n ≡ Some k) where
    place_found : fun_at funs others n ≡ k
    place_found = ap (λ (o : Option ℕ). unwrap_or o (length funs)) found

    named : is_among (names_of funs) n ≡ true
    named = sym (has_place (names_of funs) n) ∙ ap is_some found

    rank_is : rank_of funs (fun_at funs others n) ≡ rank_of funs k
    rank_is = ap (rank_of funs) place_found

    width_is : results_at funs others (fun_at funs others n) ≡ results_of funs k
    width_is = ap (results_at funs others) place_found ∙ results_are funs k (place_within (λ (f : Fun). f.name) funs n k found) others

    pub deep : 8 ≤ rank_of funs k → result ≡ Some (kind.Deep, at)
    deep high =
        at_name
        ∙ too_deep at (nat_lt (rank_of funs (fun_at funs others n)) 8) (is_declared funs others n) (is_among (names_of funs) n) (results_at funs others (fun_at funs others n) == 1)
        (le-ltb (rank_of funs (fun_at funs others n)) 8 (omega (arith, rank_is)))

    due : rank_of funs k < 8 → result ≡ (if results_of funs k == 1 then None else Some (kind.Width, at))
    due low =
        at_name
        ∙ by_width at _ _ (is_among others n) _ (lt-ltb _ 8 (omega (arith, rank_is))) named
        ∙ ap (λ (w : ℕ). if w == 1 then None else Some (kind.Width, at)) width_is

    pub wide : rank_of funs k < 8 → results_of funs k ≢ 1 → result ≡ Some (kind.Width, at)
    wide low many = due low ∙ ap (λ (b : Bool). if b then None else Some (kind.Width, at)) (ne_eqb (results_of funs k) 1 many)

    pub passed : rank_of funs k < 8 → results_of funs k ≡ 1 → result ≡ None
    passed low one = due low ∙ ap (λ (b : Bool). if b then None else Some (kind.Width, at)) (eq-eqb (results_of funs k) 1 one)

    pub is_callee : (params : ℕ) → params ≡ params_of funs k → rank_of funs k < 8 → results_of funs k ≡ 1 → IsCallee funs (record { fun = k; at = at; params = params })
    is_callee params is low one = record {
      widths = widths_are funs k (place_within (λ (f : Fun). f.name) funs n k found) ∙ (λ i. Some (sym is i, one i));
      rank = omega (arith, low);
    }

    pub callee_is : (params : ℕ) →
        ◌≡◌ {A = grammar.Callee} (callee_of (record { fun = k; at = at; params = params })) (record { fun = fun_at funs others (word_in (form ts)); at = place ts })
    callee_is params = λ i. record { fun = (sym place_found ∙ ap (fun_at funs others) (sym word)) i; at = at_is i }
