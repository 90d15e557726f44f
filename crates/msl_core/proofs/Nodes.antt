-- How a node's lists bound its numbers.
use Rattle.std.proofs.Common.{◌≡◌, ℕ, zero, suc, ◌+◌, ◌-◌, ◌*◌, ◌^◌, ◌<◌, ◌≤◌, inl, inr, List, [], ◌∷◌, ◌++◌, length, get_or, pos, neg_ℤ, ◌≤ℤ◌, Option, Some, None, refl, ap, set, arith}
use Rattle.std.proofs.lemmas.Int.{ints}
use Rattle.msl_base.specs.Covers.{all_children, children}
use Rattle.msl_base.specs.declared.limits.TheConstants.{MOST_CHILDREN}
use Rattle.msl_core.specs.declared.node.TheConstants.{MOST_SURPLUS}
use Rattle.msl_core.specs.Groups.{Path, Node, full, total, newest, lent_out, Counted, IsCounted}
use Rattle.msl_core.proofs.Totals.{total-set}

-- the newest is the last
pub newest_last : (xs : List Path) (k : ℕ) (d : Path) → length xs ≡ k + 1 → newest xs ≡ get_or xs k d
newest_last [] k d h = absurd (omega arith)
newest_last (x ∷ []) zero d h = refl
newest_last (x ∷ []) (suc k) d h = absurd (omega arith)
newest_last (x ∷ (y ∷ ys)) zero d h = absurd (omega arith)
newest_last (x ∷ (y ∷ ys)) (suc k) d h = newest_last (y ∷ ys) k d (omega arith)

pub total_full-le : (l : List (Option Path)) → total full l ≤ length l
total_full-le [] = omega arith
total_full-le (None ∷ l) = let r = total_full-le l in omega arith
total_full-le (Some p ∷ l) = let r = total_full-le l in omega arith

-- where a slot has a path, it is one of those that are lent
pub slot_inside : (l : List (Option Path)) (j : ℕ) → full (get_or l j None) ≡ 1 → j < length l
slot_inside [] j h = absurd (omega arith)
slot_inside (x ∷ xs) zero h = omega arith
slot_inside (x ∷ xs) (suc j) h = let r = slot_inside xs j h in omega arith

pub cleared : (l : List (Option Path)) (j : ℕ) → full (get_or l j None) ≡ 1 → total full (set l j None) + 1 ≡ total full l
cleared l j h = let a = total-set None full l j None (slot_inside l j h) in omega arith

bounded_by : (first : ℕ) (x : Node) → first ≤ 1 → Counted first x → length (all_children x.splits) ≤ MOST_CHILDREN * length x.splits
    → length x.splits < 2 ^ 63 → length x.held < 2 ^ 63 → lent_out x < 2 ^ 63 → length x.shut < 2 ^ 63 → (neg_ℤ (pos MOST_SURPLUS) ≤ℤ x.surplus) × (x.surplus ≤ℤ pos MOST_SURPLUS)
bounded_by first x f c few a b d e = (omega (arith, ints), omega (arith, ints))

pub bounded : (x : Node) → IsCounted x → length (all_children x.splits) ≤ MOST_CHILDREN * length x.splits
    → length x.splits < 2 ^ 63 → length x.held < 2 ^ 63 → lent_out x < 2 ^ 63 → length x.shut < 2 ^ 63 → (neg_ℤ (pos MOST_SURPLUS) ≤ℤ x.surplus) × (x.surplus ≤ℤ pos MOST_SURPLUS)
bounded x (inl c) = bounded_by 0 x (omega arith) c
bounded x (inr c) = bounded_by 1 x (omega arith) c

-- the last child and those before it
pub children-last : (q : Path) (k : ℕ) → 0 < k → (q ++ (k - 1) ∷ []) ∷ children q (k - 1) ≡ children q k
children-last q zero h = absurd (omega arith)
children-last q (suc k) h = ap (λ (n : ℕ). (q ++ n ∷ []) ∷ children q n) (let e : suc k - 1 ≡ k = omega arith in e)
