-- How reading goes on at the parts of a function around its expressions.
use Rattle.std.proofs.Common.{◌≡◌, ◌<◌, ◌≤◌, ℕ, Bool, true, false, not, ◌&&◌, ◌||◌, List, [], ◌∷◌, ◌++◌, length, drop, Some, Result, Err, codes, refl, sym, ap, ◌∙◌, arith, lt-ltb, le-ltb, length-drop}
use Rattle.std.proofs.lemmas.Bool.Decides.{same_from_decides, Decides-like}
use Rattle.std.proofs.lemmas.List.Folds.{list_all-append, list_any-append}
use Rattle.std.proofs.lemmas.Slice.Eq.{bytes_eq-Decides}
use Rattle.std.specs.List.{list_all}
use Rattle.std.specs.Str.{bytes_eq}
use Rattle.msl_lex.specs.declared.kind.Kind.TheVariants.{Expected, Many, Twice}
use Rattle.msl_lex.specs.Lexemes.{Lexeme}
use Rattle.msl_fun.specs.declared.funs.Fun.{Fun}
use Rattle.msl_fun_read.specs.declared.parse.draft.Draft.{Draft}
use Rattle.msl_fun_read.specs.declared.parse.function.FunName.{FunName}
use Rattle.msl_base.specs.Names.{Text, is_among, are_distinct}
use Rattle.msl_lex.specs.Names.{is_name}
use Rattle.msl_fun.specs.Checks.{names_of}
use Rattle.msl_read.specs.Reading.{Refusal, test, takes, ends, stops, under, moved, place, says}
use Rattle.msl_read.specs.Front.{form}
use Rattle.msl_fun_read.specs.Grammar.{State, Turn, Tree, Head, token, expr, fun, fun_name, param, more_params, body, result, more_results, end_fun, is_declared, outermost, reading}
use Rattle.msl_read.specs.Front.{name_in}
use Rattle.msl_fun_read.specs.Declaring.{head, BeginsFun, NamesFun}
use Rattle.msl_fun_read.proofs.Descent.{token_taken}
use Rattle.msl_read.proofs.Cursors.{name_is}

-- ---- names

same_either_way : (m n : Text) → bytes_eq m n ≡ bytes_eq n m
same_either_way m n = same_from_decides (bytes_eq m n) (bytes_eq n m) (bytes_eq-Decides m n) (Decides-like (bytes_eq n m) sym sym (bytes_eq-Decides n m))

pub names_more : (ns : List Text) (n : Text) → list_all is_name ns ≡ true → is_name n ≡ true → list_all is_name (ns ++ n ∷ []) ≡ true
names_more ns n h e = list_all-append is_name ns (n ∷ []) ∙ rw (h, e) refl

pub distinct_more : (ns : List Text) (n : Text) → are_distinct ns ≡ true → is_among ns n ≡ false → are_distinct (ns ++ n ∷ []) ≡ true
distinct_more [] n h e = refl
distinct_more (m ∷ ns) n h e = rw (list_any-append (bytes_eq m) ns (n ∷ []), same_either_way m n) (by (bytes_eq n m) (is_among ns m) (are_distinct ns) (is_among ns n) h e (distinct_more ns n))
  where
    by : (same there distinct among : Bool) → (not there && distinct) ≡ true → (same || among) ≡ false → (distinct ≡ true → among ≡ false → are_distinct (ns ++ n ∷ []) ≡ true)
        → (not (there || (same || false)) && are_distinct (ns ++ n ∷ [])) ≡ true
    by true there distinct among h e rest = cc
    by false true distinct among h e rest = cc
    by false false distinct among h e rest = rest h e

neither : (a b : Bool) → (a || b) ≡ false → a ≡ false
neither true b h = cc
neither false b h = refl

-- behind a quoted token there is less
pub shorter : (ts : List Lexeme) (w : Text) → says w (form ts) ≡ true → length (drop 1 ts) < length ts
shorter [] w h = cc
shorter (t ∷ ts) w h = omega (arith, length-drop 1 (t ∷ ts))

module _ (funs : List Fun) (others : List Text) where
  -- ---- the name of a function

  pub is_new : (n : Text) → is_declared funs others n ≡ false → is_among (names_of funs) n ≡ false
  is_new n h = neither _ _ h

  pub fun_name_taken : (ts : List Lexeme) (n : Text) → name_in (form ts) ≡ Some n → is_declared funs others n ≡ false
      → reading funs others ts fun_name ≡ reading funs others (drop 1 ts) (token (codes "(") (param (head n (place ts) [])))
  fun_name_taken [] n is new = cc
  fun_name_taken (t ∷ ts) n is new = let e = name_is t.form n is in rw (is, e, new) refl

  pub fun_name_twice : (ts : List Lexeme) (n : Text) → name_in (form ts) ≡ Some n → is_declared funs others n ≡ true → reading funs others ts fun_name ≡ Err (Twice, place ts)
  fun_name_twice [] n is there = cc
  fun_name_twice (t ∷ ts) n is there = let e = name_is t.form n is in rw (is, e, there) refl

  -- ---- parameters

  module _ (n : Text) (at : ℕ) (params : List Text) where
    pub param_taken : (ts : List Lexeme) (p : Text) → name_in (form ts) ≡ Some p → length params < 16 → is_among params p ≡ false
        → reading funs others ts (param (head n at params)) ≡ reading funs others (drop 1 ts) (more_params (head n at (params ++ p ∷ [])))
    param_taken [] p is few new = cc
    param_taken (t ∷ ts) p is few new = let e = name_is t.form p is in rw (is, lt-ltb (length params) 16 few, e, new) refl

    pub param_many : (ts : List Lexeme) (p : Text) → name_in (form ts) ≡ Some p → 16 ≤ length params → reading funs others ts (param (head n at params)) ≡ Err (Many, place ts)
    param_many [] p is full = cc
    param_many (t ∷ ts) p is full = rw (is, le-ltb (length params) 16 full) refl

    pub param_twice : (ts : List Lexeme) (p : Text) → name_in (form ts) ≡ Some p → length params < 16 → is_among params p ≡ true → reading funs others ts (param (head n at params)) ≡ Err (Twice, place ts)
    param_twice [] p is few there = cc
    param_twice (t ∷ ts) p is few there = let e = name_is t.form p is in rw (is, lt-ltb (length params) 16 few, e, there) refl

    pub one_param_more : (ts : List Lexeme) → says (codes ",") (form ts) ≡ true → reading funs others ts (more_params (head n at params)) ≡ reading funs others (drop 1 ts) (param (head n at params))
    one_param_more [] h = cc
    one_param_more (t ∷ ts) h = rw h refl

    pub params_end : (ts : List Lexeme) → says (codes ",") (form ts) ≡ false → says (codes ")") (form ts) ≡ true
        → reading funs others ts (more_params (head n at params)) ≡ reading funs others (drop 1 ts) (token (codes "=") (body (head n at params)))
    params_end [] e h = cc
    params_end (t ∷ ts) e h = rw (e, h) refl

    pub params_stop : (ts : List Lexeme) → says (codes ",") (form ts) ≡ false → says (codes ")") (form ts) ≡ false → reading funs others ts (more_params (head n at params)) ≡ Err (Expected, place ts)
    params_stop [] e h = refl
    params_stop (t ∷ ts) e h = rw (e, h) refl

  -- ---- results

  under_passed : (few : Bool) (at : ℕ) (m : Turn) (t : Lexeme) (ts : List Lexeme) (behind : State → Result (Fun × List Lexeme) Refusal) → few ≡ true
      → moved (under (test Many at few ∷ []) m) t ts behind ≡ moved m t ts behind
  under_passed few at (takes due s) t ts behind h = rw h refl
  under_passed few at (ends f) t ts behind h = refl
  under_passed few at stops t ts behind h = refl

  module _ (h : Head) (ns : List Text) (rs : List Tree) where
    pub result_goes : (ts : List Lexeme) → length rs < 16
        → reading funs others ts (result h ns rs) ≡ reading funs others ts (expr (outermost funs others h) ns (λ ms e. more_results h ms (rs ++ e ∷ [])))
    result_goes [] few = refl
    result_goes (t ∷ ts) few = under_passed _ t.at _ t ts (reading funs others ts) (lt-ltb (length rs) 16 few)

    pub one_result_more : (ts : List Lexeme) → says (codes ",") (form ts) ≡ true → reading funs others ts (more_results h ns rs) ≡ reading funs others (drop 1 ts) (result h ns rs)
    one_result_more [] e = cc
    one_result_more (t ∷ ts) e = rw e refl

    pub results_end : (ts : List Lexeme) → says (codes ",") (form ts) ≡ false → says (codes "]") (form ts) ≡ true
        → reading funs others ts (more_results h ns rs) ≡ reading funs others (drop 1 ts) (end_fun h ns rs)
    results_end [] e e2 = cc
    results_end (t ∷ ts) e e2 = rw (e, e2) refl

    pub results_stop : (ts : List Lexeme) → says (codes ",") (form ts) ≡ false → says (codes "]") (form ts) ≡ false → reading funs others ts (more_results h ns rs) ≡ Err (Expected, place ts)
    results_stop [] e e2 = refl
    results_stop (t ∷ ts) e e2 = rw (e, e2) refl

  -- ---- a body

  module _ (h : Head) where
    pub body_opens : (ts : List Lexeme) → says (codes "[") (form ts) ≡ true → reading funs others ts (body h) ≡ reading funs others (drop 1 ts) (result h [] [])
    body_opens [] e = cc
    body_opens (t ∷ ts) e = rw e refl

    pub body_is_one : (ts : List Lexeme) → says (codes "[") (form ts) ≡ false
        → reading funs others ts (body h) ≡ reading funs others ts (expr (outermost funs others h) [] (λ ns e. end_fun h ns (e ∷ [])))
    body_is_one [] e = refl
    body_is_one (t ∷ ts) e = rw e refl

  -- ---- the head of a function

  module _ (old begun named : Draft) (h : FunName) (begins : BeginsFun funs others old begun) (names : NamesFun funs others begun named h) where
    pub before_params : (ts : List Lexeme) → says (codes "(") (form named.cursor) ≡ true → ts ≡ drop 1 named.cursor
        → reading funs others old.cursor fun ≡ reading funs others ts (param (head h.name h.at []))
    before_params ts said taken = begins.goes ∙ names.goes ∙ token_taken funs others named.cursor (codes "(") (param (head h.name h.at [])) said ∙ ap (λ ts. reading funs others ts (param (head h.name h.at []))) (sym taken)
