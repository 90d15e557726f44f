-- Sums over nodes and over mails, and how they change at one place.
use Rattle.std.proofs.Common.{◌≡◌, ℕ, zero, suc, ◌+◌, ◌<◌, ◌≤◌, ◌≢◌, List, [], ◌∷◌, ◌++◌, length, get_or, set, take, drop, ℤ, pos, ◌+ℤ◌, Option, Some, None, sym, refl, ap, ◌∙◌, subst, arith, length-set, get_or-set_same, get_or-set_other}
use mathlib.Core.Logic.{dite}
use native.Mathlib.Decide.{ℕ_discrete}
use Rattle.std.proofs.lemmas.Int.{ints}
use Rattle.msl_core.specs.Groups.{Path, Node, Group, once, once_in, full, total, surpluses, idle, older, children_of, parents_of}
use Rattle.msl_core.proofs.Counts.{often_all_children, no_root_child}

pub total-append : {A : Type 0} (f : A → ℕ) (xs ys : List A) → total f (xs ++ ys) ≡ total f xs + total f ys
total-append f [] ys = omega arith
total-append f (x ∷ xs) ys = let r = total-append f xs ys in omega arith

pub total-set : {A : Type 0} (d : A) (f : A → ℕ) (l : List A) (i : ℕ) (w : A) → i < length l → total f (set l i w) + f (get_or l i d) ≡ total f l + f w
total-set d f [] i w h = absurd (omega arith)
total-set d f (x ∷ xs) zero w h = omega arith
total-set d f (x ∷ xs) (suc i) w h = let r = total-set d f xs i w (omega arith) in omega arith

pub total-le : {A : Type 0} (f h : A → ℕ) → ((x : A) → f x ≤ h x) → (l : List A) → total f l ≤ total h l
total-le f h le [] = omega arith
total-le f h le (x ∷ xs) = let a = le x in let r = total-le f h le xs in omega arith

pub total-zero : {A : Type 0} (f : A → ℕ) → ((x : A) → f x ≡ 0) → (l : List A) → total f l ≡ 0
total-zero f z [] = refl
total-zero f z (x ∷ xs) = let a = z x in let r = total-zero f z xs in omega arith

-- one place counts no more than all
pub total_one : {A : Type 0} (d : A) (f : A → ℕ) (l : List A) (i : ℕ) → i < length l → f (get_or l i d) ≤ total f l
total_one d f [] i h = absurd (omega arith)
total_one d f (x ∷ xs) zero h = omega arith
total_one d f (x ∷ xs) (suc i) h = let r = total_one d f xs i (omega arith) in omega arith

-- ---- mails

once_in-le : (p : Path) (o : Option Path) → once_in p o ≤ full o
once_in-le p None = omega arith
once_in-le p (Some q) = le_one (Rattle.std.specs.Str.bytes_eq p q)
  where
    le_one : (b : Rattle.std.proofs.Common.Bool) → Rattle.std.proofs.Common.cond b 1 0 ≤ 1
    le_one Rattle.std.proofs.Common.true = omega arith
    le_one Rattle.std.proofs.Common.false = omega arith

-- where none has a path, no path is in one
pub none_in : (p : Path) (l : List (Option Path)) → total full l ≡ 0 → total (once_in p) l ≡ 0
none_in p l z = let a = total-le (once_in p) full (once_in-le p) l in omega arith

-- ---- surpluses

pub surpluses-set : (l : List Node) (i : ℕ) (w : Node) → i < length l → (surpluses (set l i w) +ℤ (get_or l i idle).surplus) ≡ (surpluses l +ℤ w.surplus)
surpluses-set [] i w h = absurd (omega arith)
surpluses-set (x ∷ xs) zero w h = omega (arith, ints)
surpluses-set (x ∷ xs) (suc i) w h = let r = surpluses-set xs i w (omega arith) in omega (arith, ints)

pub surpluses-cut : (l : List Node) (k : ℕ) → (surpluses (take k l) +ℤ surpluses (drop k l)) ≡ surpluses l
surpluses-cut [] zero = refl
surpluses-cut [] (suc k) = refl
surpluses-cut (x ∷ xs) zero = omega (arith, ints)
surpluses-cut (x ∷ xs) (suc k) = let r = surpluses-cut xs k in omega (arith, ints)

pub before-set : (l : List Node) (k i : ℕ) (w : Node) → i < k → i < length l → (surpluses (take k (set l i w)) +ℤ (get_or l i idle).surplus) ≡ (surpluses (take k l) +ℤ w.surplus)
before-set [] k i w h b = absurd (omega arith)
before-set (x ∷ xs) zero i w h b = absurd (omega arith)
before-set (x ∷ xs) (suc k) zero w h b = omega (arith, ints)
before-set (x ∷ xs) (suc k) (suc i) w h b = let r = before-set xs k i w (omega arith) (omega arith) in omega (arith, ints)

pub before-else : (l : List Node) (k i : ℕ) (w : Node) → k ≤ i → surpluses (take k (set l i w)) ≡ surpluses (take k l)
before-else [] k i w h = refl
before-else (x ∷ xs) zero i w h = refl
before-else (x ∷ xs) (suc k) zero w h = absurd (omega arith)
before-else (x ∷ xs) (suc k) (suc i) w h = ap (λ (z : ℤ). x.surplus +ℤ z) (before-else xs k i w (omega arith))

pub behind-else : (l : List Node) (k i : ℕ) (w : Node) → i < k → surpluses (drop k (set l i w)) ≡ surpluses (drop k l)
behind-else [] k i w h = refl
behind-else (x ∷ xs) zero i w h = absurd (omega arith)
behind-else (x ∷ xs) (suc k) zero w h = refl
behind-else (x ∷ xs) (suc k) (suc i) w h = behind-else xs k i w (omega arith)

-- one more node behind the token
pub behind-step : (l : List Node) (k : ℕ) → k < length l → surpluses (drop k l) ≡ ((get_or l k idle).surplus +ℤ surpluses (drop (suc k) l))
behind-step [] k h = absurd (omega arith)
behind-step (x ∷ xs) zero h = refl
behind-step (x ∷ xs) (suc k) h = behind-step xs k (omega arith)

pub behind-none : (l : List Node) (k : ℕ) → length l ≤ k → surpluses (drop k l) ≡ pos 0
behind-none [] zero h = refl
behind-none [] (suc k) h = refl
behind-none (x ∷ xs) zero h = absurd (omega arith)
behind-none (x ∷ xs) (suc k) h = behind-none xs k (omega arith)

-- one more node before the token
pub before-step : (l : List Node) (k : ℕ) → k < length l → surpluses (take (suc k) l) ≡ (surpluses (take k l) +ℤ (get_or l k idle).surplus)
before-step l k h = let a = surpluses-cut l k in let b = surpluses-cut l (suc k) in let c = behind-step l k h in omega (arith, ints)

-- ---- the root and the children of splits are distinct

pub born_once : (g : Group) → ((p : Path) → total (parents_of p) g.nodes ≤ 1) → (p : Path) → once p [] + total (children_of p) g.nodes ≤ 1
born_once g d [] = let z = total-zero (children_of []) (λ x. no_root_child x.splits) g.nodes in omega arith
born_once g d (c ∷ cs) = let a = total-le (children_of (c ∷ cs)) (parents_of (older (c ∷ cs))) (λ x. often_all_children (c ∷ cs) x.splits) g.nodes in let b = d (older (c ∷ cs)) in omega arith

-- a list after a change at i, by its places
pub at_places : {A : Type 0} (d : A) (P : ℕ → A → Type 0) (l : List A) (i : ℕ) (w : A) → i < length l → P i w → ((j : ℕ) → j ≢ i → j < length l → P j (get_or l j d)) → (j : ℕ) → j < length (set l i w) → P j (get_or (set l i w) j d)
at_places d P l i w inside here there j h = let same_length = length-set l i w in dite (ℕ_discrete j i)
    (λ e. subst (λ (z : ℕ). P z (get_or (set l i w) z d)) (sym e) (subst (P i) (sym (get_or-set_same l i w d inside)) here))
    (λ n. subst (P j) (sym (get_or-set_other l i j w d n)) (there j n (omega arith)))
