-- The places of names among others.
use Rattle.std.proofs.Common.{◌≡◌, ℕ, suc, ◌+◌, ◌<◌, List, [], ◌∷◌, map, length, Bool, true, false, not, ◌||◌, nat_lt, if◌then◌else◌, position, Option, Some, None, is_some, refl, ap, sym, ◌∙◌, lt-ltb, arith}
use Rattle.std.proofs.lemmas.Bool.Decides.{nat_tests}
use Rattle.std.proofs.lemmas.List.{length-map}
use Rattle.std.proofs.lemmas.List.Quantifiers.{position-Some}
use Rattle.std.specs.List.{list_any, position_or_len}
use Rattle.std.specs.Str.{bytes_eq}
use Rattle.msl_base.specs.Names.{Text, is_among, place_among}

-- ---- of what has a name

first_of_map : {X Y : Type 0} (p : Y → Bool) (f : X → Y) (xs : List X) → position_or_len p (map f xs) ≡ position_or_len (λ x. p (f x)) xs
first_of_map p f [] = refl
first_of_map p f (x ∷ xs) = ap (λ (n : ℕ). if not (p (f x)) then 1 + n else 0) (first_of_map p f xs)

-- it stands where its name does
pub place_of_name : {X : Type 0} (called : X → Text) (xs : List X) (n : Text) → position (λ (x : X). bytes_eq n (called x)) xs ≡ place_among (map called xs) n
place_of_name called xs n = rw (length-map xs called, first_of_map (bytes_eq n) called xs)

pub place_within : {X : Type 0} (called : X → Text) (xs : List X) (n : Text) (at : ℕ) → place_among (map called xs) n ≡ Some at → at < length xs
place_within called xs n at found = omega (arith, (position-Some (bytes_eq n) (map called xs) at [] found).0, length-map xs called)

-- ---- places

more_below : (m n : ℕ) → nat_lt (1 + m) (suc n) ≡ nat_lt m n
more_below m n = grind (arith, nat_tests)

module _ {X : Type 0} (p : X → Bool) where
  -- a place that passes is found where an item passes
  within : (xs : List X) → nat_lt (position_or_len p xs) (length xs) ≡ list_any p xs
  within [] = refl
  within (x ∷ xs) = by (p x) (within xs)
    where
      by : (b : Bool) → nat_lt (position_or_len p xs) (length xs) ≡ list_any p xs → nat_lt (if not b then 1 + position_or_len p xs else 0) (suc (length xs)) ≡ (b || list_any p xs)
      by true rest = lt-ltb 0 (suc (length xs)) (omega arith)
      by false rest = more_below (position_or_len p xs) (length xs) ∙ rest

is_found : (b : Bool) (n : ℕ) → is_some (if b then Some n else None) ≡ b
is_found true n = refl
is_found false n = refl

-- a name has a place where it is among them
pub has_place : (names : List Text) (n : Text) → is_some (place_among names n) ≡ is_among names n
has_place names n = is_found _ (position_or_len (bytes_eq n) names) ∙ within (bytes_eq n) names

-- what a look-up of a name finds
module _ (scope names : List Text) (n : Text) (place : Option ℕ) (same : names ≡ scope) (is : place ≡ place_among names n) where
  pub place_is : place ≡ place_among scope n
  place_is = is ∙ ap (λ (names : List Text). place_among names n) same

  pub among_is : (found : Bool) → found ≡ is_some place → is_among scope n ≡ found
  among_is found e = sym (e ∙ ap is_some place_is ∙ has_place scope n)
