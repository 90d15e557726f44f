-- Lists in parts: where each part and each element stands.
use Rattle.std.proofs.Common.{◌≡◌, ◌<◌, ◌≤◌, ◌+◌, ◌-◌, ℕ, ℤ, List, [], ◌∷◌, ◌++◌, length, take, drop, slice_index_or, pos, refl, sym, ap, ◌∙◌, arith, length-append, take_all}
use Rattle.std.specs.List.{sum_by}
use Rattle.std.specs.Global.{Vec}
use Rattle.std.proofs.Math.Seq.{take-add}
use Rattle.std.proofs.lemmas.List.{append-nil, take_at, drop_at, take_more, take-map, take-append-drop, length-drop, length-map, get_or-drop, get_or-map}
use Rattle.std.proofs.lemmas.List.Concat.{length-flat_map, get_or-flat_map}
use Rattle.std.proofs.lemmas.List.Sums.{sum_by_more, sum_by-take-le, sum-map}
use Rattle.std.proofs.lemmas.Grind.{flat_map-append}
use Rattle.msl_lists.specs.Whole.{at}
use Rattle.msl_local.specs.Parts.{flat, lengths, start, between}

-- how long a part is
abbrev pub size : Vec ℤ → ℕ
size v = length v.items

pub flat_append : (p q : List (Vec ℤ)) → flat (p ++ q) ≡ flat p ++ flat q
flat_append p q = flat_map-append (λ (v : Vec ℤ). v.items) p q

pub flat_one : (v : Vec ℤ) → flat (v ∷ []) ≡ v.items
flat_one v = append-nil v.items

pub start_is : (a : List (Vec ℤ)) (m : ℕ) → start a m ≡ sum_by size (take m a)
start_is a m = length-flat_map (λ (v : Vec ℤ). v.items) (take m a)

pub start_next : (a : List (Vec ℤ)) (m : ℕ) (d : Vec ℤ) → m < length a → start a (m + 1) ≡ start a m + size (slice_index_or a m d)
start_next a m d lt = start_is a (m + 1) ∙ sum_by_more size a m d lt ∙ ap (λ k. k + size (slice_index_or a m d)) (sym (start_is a m))

pub start_within : (a : List (Vec ℤ)) (m : ℕ) → start a m ≤ length (flat a)
start_within a m = omega (arith, start_is a m, sum_by-take-le size a m, length-flat_map (λ (v : Vec ℤ). v.items) a)

pub start_first : (a : List (Vec ℤ)) → start a 0 ≡ 0
start_first a = refl

pub start_last : (a : List (Vec ℤ)) (m : ℕ) → length a ≤ m → start a m ≡ length (flat a)
start_last a m long = ap (λ (p : List (Vec ℤ)). length (flat p)) (take_all m a long)

pub front : (a : List (Vec ℤ)) (from to : ℕ) → from ≤ to → take from a ++ between a from to ≡ take to a
front a from to order = sym (take-add from (to - from) a) ∙ ap (λ k. take k a) (omega (arith, order))

pub start_between : (a : List (Vec ℤ)) (from to : ℕ) → from ≤ to → start a to ≡ start a from + length (flat (between a from to))
start_between a from to order =
    ap (λ (p : List (Vec ℤ)). length (flat p)) (sym (front a from to order)) ∙ ap length (flat_append (take from a) (between a from to)) ∙ length-append (flat (take from a)) (flat (between a from to))

pub start_rises : (a : List (Vec ℤ)) (from to : ℕ) → from ≤ to → start a from ≤ start a to
start_rises a from to order = omega (arith, start_between a from to order)

pub between_none : (a : List (Vec ℤ)) (from : ℕ) → between a from from ≡ []
between_none a from = let e : from - from ≡ 0 = omega arith in ap (λ k. take k (drop from a)) e

pub between_more : (a : List (Vec ℤ)) (from m : ℕ) (d : Vec ℤ) → from ≤ m → m < length a → between a from (m + 1) ≡ between a from m ++ slice_index_or a m d ∷ []
between_more a from m d order lt =
    let long : m - from < length (drop from a) = omega (arith, length-drop from a, order, lt) in
    ap (λ k. take k (drop from a)) (omega (arith, order))
    ∙ take_more (drop from a) (m - from) d long
    ∙ ap (λ (v : Vec ℤ). between a from m ++ v ∷ []) (get_or-drop from a (m - from) d ∙ ap (λ k. slice_index_or a k d) (omega (arith, order)))

pub between_all : (a : List (Vec ℤ)) → between a 0 (length a) ≡ a
between_all a = take_all (length a - 0) a (omega arith)

-- the elements before a part
pub flat_front : (a : List (Vec ℤ)) (m : ℕ) → take (start a m) (flat a) ≡ flat (take m a)
flat_front a m =
    ap (λ (p : List (Vec ℤ)). take (start a m) (flat p)) (sym (take-append-drop m a)) ∙ ap (take (start a m)) (flat_append (take m a) (drop m a)) ∙ take_at (flat (take m a)) (flat (drop m a)) (start a m) refl

-- the elements up to a part, and those of parts and of one more
pub flat_next : (a : List (Vec ℤ)) (from to : ℕ) → from ≤ to → flat (take to a) ≡ flat (take from a) ++ flat (between a from to)
flat_next a from to order = ap flat (sym (front a from to order)) ∙ flat_append (take from a) (between a from to)

pub flat_between : (a : List (Vec ℤ)) (from to : ℕ) → from ≤ to → drop (start a from) (flat (take to a)) ≡ flat (between a from to)
flat_between a from to order = ap (drop (start a from)) (flat_next a from to order) ∙ drop_at (flat (take from a)) (flat (between a from to)) (start a from) refl

pub flat_more : (a : List (Vec ℤ)) (from m : ℕ) (d : Vec ℤ) → from ≤ m → m < length a → flat (between a from (m + 1)) ≡ flat (between a from m) ++ (slice_index_or a m d).items
flat_more a from m d order lt =
    ap flat (between_more a from m d order lt) ∙ flat_append (between a from m) (slice_index_or a m d ∷ []) ∙ ap (λ xs. flat (between a from m) ++ xs) (flat_one (slice_index_or a m d))

pub one_part : (a : List (Vec ℤ)) (m : ℕ) (d : Vec ℤ) → m < length a → flat (between a m (m + 1)) ≡ (slice_index_or a m d).items
one_part a m d lt = flat_more a m m d (omega arith) lt ∙ ap (λ (p : List (Vec ℤ)). flat p ++ (slice_index_or a m d).items) (between_none a m)

-- element k of part m
pub at_part : (a : List (Vec ℤ)) (m k : ℕ) (d : Vec ℤ) → m < length a → k < size (slice_index_or a m d) → at (flat a) (start a m + k) ≡ at ((slice_index_or a m d).items) k
at_part a m k d lt inside = get_or-flat_map (λ (v : Vec ℤ). v.items) a m k d (pos 0) lt inside

pub size_at : (a : List (Vec ℤ)) (m : ℕ) (d : Vec ℤ) → m < length a → slice_index_or (lengths a) m 0 ≡ size (slice_index_or a m d)
size_at a m d lt = get_or-map size a m d 0 lt

-- a place of a part is one of the list
pub place_within : (a : List (Vec ℤ)) (m k : ℕ) → m < length a → k < slice_index_or (lengths a) m 0 → start a m + k < length (flat a)
place_within [] m k lt inside = absurd (omega (arith, lt))
place_within (v ∷ a) m k lt inside = omega (arith, inside, size_at (v ∷ a) m v lt, start_next (v ∷ a) m v lt, start_within (v ∷ a) (m + 1))

-- ---- parts of the same lengths

pub total_lengths : (a : List (Vec ℤ)) → length (flat a) ≡ sum_by (λ x. x) (lengths a)
total_lengths a = length-flat_map (λ (v : Vec ℤ). v.items) a ∙ sym (sum-map size a)

pub flat_alike : (a c : List (Vec ℤ)) → lengths c ≡ lengths a → length (flat c) ≡ length (flat a)
flat_alike a c e = total_lengths c ∙ ap (λ xs. sum_by (λ x. x) xs) e ∙ sym (total_lengths a)

pub start_alike : (a c : List (Vec ℤ)) (m : ℕ) → lengths c ≡ lengths a → start c m ≡ start a m
start_alike a c m e = flat_alike (take m a) (take m c) (sym (take-map size m c) ∙ ap (take m) e ∙ take-map size m a)

pub many_alike : (a c : List (Vec ℤ)) → lengths c ≡ lengths a → length c ≡ length a
many_alike a c e = sym (length-map c size) ∙ ap length e ∙ length-map a size

pub size_alike : (a c : List (Vec ℤ)) (m : ℕ) (d e : Vec ℤ) → lengths c ≡ lengths a → m < length a → size (slice_index_or c m d) ≡ size (slice_index_or a m e)
size_alike a c m d e h lt =
    let many = many_alike a c h in
    let here = start_alike a c m h in
    let next = start_alike a c (m + 1) h in
    omega (arith, start_next a m e lt, start_next c m d (omega (arith, many, lt)), here, next)
