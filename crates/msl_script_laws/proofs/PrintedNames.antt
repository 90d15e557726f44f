-- Names that are printed: each is a name, and no two are the same.
use Rattle.std.proofs.Common.{◌≡◌, ◌<◌, ℕ, Bool, true, false, not, ◌&&◌, ◌||◌, List, [], ◌∷◌, ◌++◌, length, get_or, refl, ap, ◌∙◌}
use Rattle.std.proofs.Math.ListN.{get_or-append}
use Rattle.std.proofs.lemmas.List.Folds.{list_any-append, list_all-append}
use Rattle.std.proofs.lemmas.Slice.Eq.{bytes_eq-Decides}
use Rattle.std.specs.List.{list_all}
use Rattle.std.specs.Str.{bytes_eq}
use Rattle.msl_base.specs.Names.{Text, is_among, are_distinct}
use Rattle.msl_lex.specs.Names.{is_name}
use Rattle.msl_muscle_laws.proofs.PrintedNames.{or_false, and_true, passes_at, turned, own_place}
use Rattle.msl_script_laws.proofs.PrintedParts.{Stands}

pub record AreNames (names : List Text) : Type 0 where
  pub all : list_all is_name names ≡ true
  pub distinct : are_distinct names ≡ true

pub no_names : AreNames []
no_names = record { all = refl; distinct = refl }

-- a name is none of the words that are no names
pub not_quoted : (n w : Text) → is_name n ≡ true → is_name w ≡ false → bytes_eq n w ≡ false
not_quoted n w name other = by (bytes_eq n w) refl
  where
    by : (b : Bool) → bytes_eq n w ≡ b → b ≡ false
    by true e = let same : is_name n ≡ is_name w = ap is_name ((bytes_eq-Decides n w).0 e) in cc
    by false e = refl

distinct_more : (names : List Text) (n : Text) → are_distinct names ≡ true → is_among names n ≡ false → are_distinct (names ++ n ∷ []) ≡ true
distinct_more [] n h new = refl
distinct_more (x ∷ names) n h new =
    let parts = and_true (not (is_among names x)) (are_distinct names) h in
    let others = or_false (bytes_eq n x) (is_among names n) new in
    rw (list_any-append (bytes_eq x) names (n ∷ []), turned n x others.0, distinct_more names n parts.1 others.1) (by (is_among names x) parts.0)
  where
    by : (b : Bool) → not b ≡ true → (not (b || (false || false)) && true) ≡ true
    by true e = cc
    by false e = refl

pub one_name_more : (names : List Text) (n : Text) → AreNames names → is_name n ≡ true → is_among names n ≡ false → AreNames (names ++ n ∷ [])
one_name_more names n are name new = record {
  all = list_all-append is_name names (n ∷ []) ∙ rw (are.all, name) refl;
  distinct = distinct_more names n are.distinct new;
}

-- each stands at its place, whatever names come behind them
pub stands : (names more : List Text) (k : ℕ) → AreNames names → k < length names → Stands names k (get_or (names ++ more) k [])
stands names more k are within = rw (get_or-append names more [] k within) (record { name = passes_at is_name names k [] are.all within; place = own_place names k are.distinct within })
