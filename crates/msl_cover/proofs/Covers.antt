-- Paths in lists are counted, and splits keep the count.
use Rattle.std.proofs.Common.{◌≡◌, ◌<◌, ◌≤◌, ◌+◌, ◌⊎◌, ℕ, zero, suc, Bool, true, false, true≢false, cond, List, [], ◌∷◌, ◌++◌, length, Contains, IsPermutation, Decides, bytes_eq, refl, sym, ap, ◌∙◌, subst, inl, inr, arith}
use Rattle.std.proofs.lemmas.Bool.{cases_lt}
use Rattle.std.proofs.lemmas.List.{length_push, same_from_push}
use Rattle.std.proofs.lemmas.List.Elements.{Contains-append_left, Contains-append_right, Contains-push, Contains-push_cases, Contains-append_cases}
use Rattle.std.proofs.lemmas.List.Sorted.{sum_by-IsPermutation}
use Rattle.std.proofs.lemmas.List.Sums.{sum_by-cons, sum_by-append}
use Rattle.std.proofs.lemmas.Slice.Eq.{bytes_eq-Decides}
use Rattle.msl_base.specs.Covers.{Split, split, times, children, all_children, split_paths, Counts, Balanced, Covers, ComesUp}

-- ---- counting

abbrev one_if : Bool → ℕ
one_if b = cond b 1 0

-- 1 at the same path, 0 at another
abbrev pub here : List ℕ → List ℕ → ℕ
here p q = one_if (bytes_eq p q)

pub here-same : (p q : List ℕ) → p ≡ q → here p q ≡ 1
here-same p q is = ap one_if ((bytes_eq-Decides p q).1 is)

-- paths are the same or not
pub same_or_not : (p q : List ℕ) → ((p ≡ q) × (here p q ≡ 1)) ⊎ ((p ≡ q → ⊥) × (here p q ≡ 0))
same_or_not p q = go (bytes_eq p q) (bytes_eq-Decides p q)
  where
    go : (b : Bool) → Decides b (p ≡ q) → ((p ≡ q) × (one_if b ≡ 1)) ⊎ ((p ≡ q → ⊥) × (one_if b ≡ 0))
    go true d = inl (d.0 refl, refl)
    go false d = inr ((λ is. true≢false (sym (d.1 is))), refl)

pub here-other : (p q : List ℕ) → (p ≡ q → ⊥) → here p q ≡ 0
here-other p q not = go (same_or_not p q)
  where
    go : ((p ≡ q) × (here p q ≡ 1)) ⊎ ((p ≡ q → ⊥) × (here p q ≡ 0)) → here p q ≡ 0
    go (inl s) = absurd (not s.0)
    go (inr o) = o.1

pub times-cons : (p q : List ℕ) (qs : List (List ℕ)) → times p (q ∷ qs) ≡ here p q + times p qs
times-cons p q qs = sum_by-cons (λ (q : List ℕ). here p q) q qs

pub times-append : (p : List ℕ) (xs ys : List (List ℕ)) → times p (xs ++ ys) ≡ times p xs + times p ys
times-append p xs ys = sum_by-append (λ (q : List ℕ). here p q) xs ys

pub times-reordered : (p : List ℕ) (xs ys : List (List ℕ)) → IsPermutation xs ys → times p xs ≡ times p ys
times-reordered p xs ys h = sym (sum_by-IsPermutation (λ (q : List ℕ). here p q) xs ys h)

pub times-contains : (p : List ℕ) (xs : List (List ℕ)) → 1 ≤ times p xs → Contains xs p
times-contains p [] h = absurd (omega arith)
times-contains p (q ∷ xs) h = go (same_or_not p q) (times-contains p xs)
  where
    go : ((p ≡ q) × (here p q ≡ 1)) ⊎ ((p ≡ q → ⊥) × (here p q ≡ 0)) → (1 ≤ times p xs → Contains xs p) → Contains (q ∷ xs) p
    go (inl s) more = subst (λ (x : List ℕ). Contains (x ∷ xs) p) s.0 (Contains-append_left (p ∷ []) xs p (Contains-push [] p))
    go (inr o) more = Contains-append_right (q ∷ []) xs p (more (omega (arith, h, o.1, times-cons p q xs)))

-- an element of a list is its head or one of the others
pub contains-cases : {X : Type 0} (y : X) (xs : List X) (x : X) → Contains (y ∷ xs) x → (y ≡ x) ⊎ Contains xs x
contains-cases {X} y xs x h = go (Contains-append_cases (y ∷ []) xs x h)
  where
    first : Contains [] x ⊎ (y ≡ x) → (y ≡ x) ⊎ Contains xs x
    first (inl none) = absurd (omega (arith, none.1))
    first (inr is) = inl is

    go : Contains (y ∷ []) x ⊎ Contains xs x → (y ≡ x) ⊎ Contains xs x
    go (inl one) = first (Contains-push_cases [] y x one)
    go (inr more) = inr more

pub contains-times : (p : List ℕ) (xs : List (List ℕ)) → Contains xs p → 1 ≤ times p xs
contains-times p [] h = absurd (omega (arith, h.1))
contains-times p (q ∷ xs) h = go (contains-cases q xs p h) (contains-times p xs)
  where
    go : (q ≡ p) ⊎ Contains xs p → (Contains xs p → 1 ≤ times p xs) → 1 ≤ times p (q ∷ xs)
    go (inl is) some = omega (arith, here-same p q (sym is), times-cons p q xs)
    go (inr more) some = omega (arith, some more, times-cons p q xs)

-- ---- children

-- a child is no root, and no child of another path, and not its parent
pub child-not_root : (q : List ℕ) (j : ℕ) → [] ≡ q ++ j ∷ [] → ⊥
child-not_root q j is = let e = ap length is in omega (arith, e, length_push q j)

pub child-not_parent : (q : List ℕ) (j : ℕ) → q ≡ q ++ j ∷ [] → ⊥
child-not_parent q j is = let e = ap length is in omega (arith, e, length_push q j)

pub times-children_other : (x q : List ℕ) (k : ℕ) → ((j : ℕ) → x ≡ q ++ j ∷ [] → ⊥) → times x (children q k) ≡ 0
times-children_other x q zero not = refl
times-children_other x q (suc k) not = omega (arith, times-cons x (q ++ k ∷ []) (children q k), here-other x (q ++ k ∷ []) (not k), times-children_other x q k not)

pub times-children_past : (q : List ℕ) (j k : ℕ) → k ≤ j → times (q ++ j ∷ []) (children q k) ≡ 0
times-children_past q j zero past = refl
times-children_past q j (suc k) past =
    let none = here-other (q ++ j ∷ []) (q ++ k ∷ []) (λ is. omega (arith, (same_from_push q q j k is).1, past)) in
    omega (arith, times-cons (q ++ j ∷ []) (q ++ k ∷ []) (children q k), none, times-children_past q j k (omega (arith, past)))

pub times-children : (q : List ℕ) (j k : ℕ) → j < k → times (q ++ j ∷ []) (children q k) ≡ 1
times-children q j zero lt = absurd (omega (arith, lt))
times-children q j (suc k) lt = go (cases_lt j k) (times-children q j k)
  where
    go : (j < k) ⊎ (k ≤ j) → (j < k → times (q ++ j ∷ []) (children q k) ≡ 1) → times (q ++ j ∷ []) (children q (suc k)) ≡ 1
    go (inl less) before =
        let none = here-other (q ++ j ∷ []) (q ++ k ∷ []) (λ is. omega (arith, (same_from_push q q j k is).1, less)) in
        omega (arith, times-cons (q ++ j ∷ []) (q ++ k ∷ []) (children q k), none, before less)
    go (inr last) before =
        let one = here-same (q ++ j ∷ []) (q ++ k ∷ []) (ap (λ (i : ℕ). q ++ i ∷ []) (omega (arith, lt, last))) in
        omega (arith, times-cons (q ++ j ∷ []) (q ++ k ∷ []) (children q k), one, times-children_past q j k last)

pub times-children_most : (q : List ℕ) (j k : ℕ) → times (q ++ j ∷ []) (children q k) ≤ 1
times-children_most q j k = go (cases_lt j k)
  where
    go : (j < k) ⊎ (k ≤ j) → times (q ++ j ∷ []) (children q k) ≤ 1
    go (inl less) = omega (arith, times-children q j k less)
    go (inr past) = omega (arith, times-children_past q j k past)

pub times-root_children : (q : List ℕ) (k : ℕ) → times [] (children q k) ≡ 0
times-root_children q k = times-children_other [] q k (child-not_root q)

pub times-own_children : (q : List ℕ) (k : ℕ) → times q (children q k) ≡ 0
times-own_children q k = times-children_other q q k (child-not_parent q)

-- a path whose last step is j is among the children of the path without it alone
pub times-children_of_other : (q r : List ℕ) (j k : ℕ) → (q ≡ r → ⊥) → times (q ++ j ∷ []) (children r k) ≡ 0
times-children_of_other q r j k not = times-children_other (q ++ j ∷ []) r k (λ i is. not (same_from_push q r j i is).0)

pub contains-child : (p q : List ℕ) (k : ℕ) → Contains (children q k) p → (j : ℕ) × (j < k) × (p ≡ q ++ j ∷ [])
contains-child p q zero h = absurd (omega (arith, h.1))
contains-child p q (suc k) h = go (contains-cases (q ++ k ∷ []) (children q k) p h) (contains-child p q k)
  where
    go : (q ++ k ∷ [] ≡ p) ⊎ Contains (children q k) p → (Contains (children q k) p → (j : ℕ) × (j < k) × (p ≡ q ++ j ∷ [])) → (j : ℕ) × (j < suc k) × (p ≡ q ++ j ∷ [])
    go (inl is) before = (k, omega arith, sym is)
    go (inr more) before = let c = before more in (c.0, omega (arith, c.1), c.2)

-- ---- splits

pub times-all_children : (x : List ℕ) (s : Split) (splits : List Split) → times x (all_children (s ∷ splits)) ≡ times x (children s.path s.count) + times x (all_children splits)
times-all_children x s splits = times-append x (children s.path s.count) (all_children splits)

pub times-split_paths : (x : List ℕ) (s : Split) (splits : List Split) → times x (split_paths (s ∷ splits)) ≡ here x s.path + times x (split_paths splits)
times-split_paths x s splits = times-cons x s.path (split_paths splits)

pub times-root_all_children : (splits : List Split) → times [] (all_children splits) ≡ 0
times-root_all_children [] = refl
times-root_all_children (s ∷ splits) = omega (arith, times-all_children [] s splits, times-root_children s.path s.count, times-root_all_children splits)

-- a child comes up no more often than its parent is split
pub times-child_most : (q : List ℕ) (j : ℕ) (splits : List Split) → times (q ++ j ∷ []) (all_children splits) ≤ times q (split_paths splits)
times-child_most q j [] = omega arith
times-child_most q j (s ∷ splits) = go (same_or_not q s.path) (times-child_most q j splits)
  where
    go : ((q ≡ s.path) × (here q s.path ≡ 1)) ⊎ ((q ≡ s.path → ⊥) × (here q s.path ≡ 0))
        → times (q ++ j ∷ []) (all_children splits) ≤ times q (split_paths splits)
        → times (q ++ j ∷ []) (all_children (s ∷ splits)) ≤ times q (split_paths (s ∷ splits))
    go (inl is) more =
        let most = subst (λ (r : List ℕ). times (q ++ j ∷ []) (children r s.count) ≤ 1) is.0 (times-children_most q j s.count) in
        omega (arith, most, is.1, more, times-all_children (q ++ j ∷ []) s splits, times-split_paths q s splits)
    go (inr not) more = omega (arith, times-children_of_other q s.path j s.count not.0, not.1, more, times-all_children (q ++ j ∷ []) s splits, times-split_paths q s splits)

pub contains-split_path : (s : Split) (splits : List Split) → Contains splits s → Contains (split_paths splits) s.path
contains-split_path s [] h = absurd (omega (arith, h.1))
contains-split_path s (t ∷ splits) h = go (contains-cases t splits s h) (contains-split_path s splits)
  where
    go : (t ≡ s) ⊎ Contains splits s → (Contains splits s → Contains (split_paths splits) s.path) → Contains (split_paths (t ∷ splits)) s.path
    go (inl is) rest = times-contains s.path (split_paths (t ∷ splits)) (omega (arith, here-same s.path t.path (ap (λ (r : Split). r.path) (sym is)), times-split_paths s.path t splits))
    go (inr more) rest = Contains-append_right (t.path ∷ []) (split_paths splits) s.path (rest more)

pub contains-split : (p : List ℕ) (splits : List Split) → Contains (split_paths splits) p → (s : Split) × Contains splits s × (s.path ≡ p)
contains-split p [] h = absurd (omega (arith, h.1))
contains-split p (t ∷ splits) h = go (contains-cases t.path (split_paths splits) p h) (contains-split p splits)
  where
    go : (t.path ≡ p) ⊎ Contains (split_paths splits) p → (Contains (split_paths splits) p → (s : Split) × Contains splits s × (s.path ≡ p)) → (s : Split) × Contains (t ∷ splits) s × (s.path ≡ p)
    go (inl is) rest = (t, Contains-append_left (t ∷ []) splits t (Contains-push [] t), is)
    go (inr more) rest = let s = rest more in (s.0, Contains-append_right (t ∷ []) splits s.0 s.1, s.2)

-- ---- what comes up

pub times-comes_up : (splits : List Split) (p : List ℕ) → times p ([] ∷ all_children splits) ≡ here p [] + times p (all_children splits)
times-comes_up splits p = times-cons p [] (all_children splits)

pub root_comes_up : (splits : List Split) → ComesUp splits []
root_comes_up splits = omega (arith, times-comes_up splits [], here-same [] [] refl)

child-times : (splits : List Split) (s : Split) (j : ℕ) → Contains splits s → j < s.count → 1 ≤ times (s.path ++ j ∷ []) (all_children splits)
child-times [] s j h lt = absurd (omega (arith, h.1))
child-times (t ∷ splits) s j h lt = go (contains-cases t splits s h) (λ more. child-times splits s j more lt)
  where
    go : (t ≡ s) ⊎ Contains splits s → (Contains splits s → 1 ≤ times (s.path ++ j ∷ []) (all_children splits)) → 1 ≤ times (s.path ++ j ∷ []) (all_children (t ∷ splits))
    go (inl is) rest =
        let one = subst (λ (r : Split). times (s.path ++ j ∷ []) (children r.path r.count) ≡ 1) (sym is) (times-children s.path j s.count lt) in
        omega (arith, one, times-all_children (s.path ++ j ∷ []) t splits)
    go (inr more) rest = omega (arith, rest more, times-all_children (s.path ++ j ∷ []) t splits)

pub child_comes_up : (splits : List Split) (s : Split) (j : ℕ) → Contains splits s → j < s.count → ComesUp splits (s.path ++ j ∷ [])
child_comes_up splits s j h lt = omega (arith, child-times splits s j h lt, times-comes_up splits (s.path ++ j ∷ []))

-- p is a child of one of the splits
abbrev pub IsChild : List Split → List ℕ → Type 0
IsChild splits p = (s : Split) × (j : ℕ) × Contains splits s × (j < s.count) × (p ≡ s.path ++ j ∷ [])

pub contains-all_children : (splits : List Split) (p : List ℕ) → Contains (all_children splits) p → IsChild splits p
contains-all_children [] p h = absurd (omega (arith, h.1))
contains-all_children (t ∷ splits) p h = go (Contains-append_cases (children t.path t.count) (all_children splits) p h) (contains-all_children splits p)
  where
    go : Contains (children t.path t.count) p ⊎ Contains (all_children splits) p → (Contains (all_children splits) p → IsChild splits p) → IsChild (t ∷ splits) p
    go (inl one) rest = let c = contains-child p t.path t.count one in (t, c.0, Contains-append_left (t ∷ []) splits t (Contains-push [] t), c.1, c.2)
    go (inr more) rest = let c = rest more in (c.0, c.1, Contains-append_right (t ∷ []) splits c.0 c.2, c.3, c.4)

pub comes_up_cases : (splits : List Split) (p : List ℕ) → ComesUp splits p → (p ≡ []) ⊎ IsChild splits p
comes_up_cases splits p h = go (contains-cases [] (all_children splits) p (times-contains p ([] ∷ all_children splits) h))
  where
    go : ([] ≡ p) ⊎ Contains (all_children splits) p → (p ≡ []) ⊎ IsChild splits p
    go (inl is) = inl (sym is)
    go (inr more) = inr (contains-all_children splits p more)

-- ---- counting is enough

-- a path is the root, or it has a last step
pub last_step : (p : List ℕ) → (p ≡ []) ⊎ ((q : List ℕ) × (j : ℕ) × (p ≡ q ++ j ∷ []))
last_step [] = inl refl
last_step (i ∷ p) = go (last_step p)
  where
    go : (p ≡ []) ⊎ ((q : List ℕ) × (j : ℕ) × (p ≡ q ++ j ∷ [])) → (i ∷ p ≡ []) ⊎ ((q : List ℕ) × (j : ℕ) × (i ∷ p ≡ q ++ j ∷ []))
    go (inl none) = inr ([], i, ap (λ (t : List ℕ). i ∷ t) none)
    go (inr some) = inr (i ∷ some.0, some.1, ap (λ (t : List ℕ). i ∷ t) some.2)

module _ (splits : List Split) (leaves : List (List ℕ)) (counts : Counts splits leaves) where
  -- what comes up is a leaf or split
  pub counted : (p : List ℕ) → times p ([] ∷ all_children splits) ≡ times p leaves + times p (split_paths splits)
  counted p = counts p ∙ times-append p leaves (split_paths splits)

  pub root_once : times [] ([] ∷ all_children splits) ≡ 1
  root_once = omega (arith, times-comes_up splits [], here-same [] [] refl, times-root_all_children splits)

  once_below : (n : ℕ) (p : List ℕ) → length p ≤ n → times p ([] ∷ all_children splits) ≤ 1
  once_below zero p short = go (last_step p)
    where
      go : (p ≡ []) ⊎ ((q : List ℕ) × (j : ℕ) × (p ≡ q ++ j ∷ [])) → times p ([] ∷ all_children splits) ≤ 1
      go (inl is) = subst (λ (x : List ℕ). times x ([] ∷ all_children splits) ≤ 1) (sym is) (omega (arith, root_once))
      go (inr some) = absurd (omega (arith, short, ap length some.2, length_push some.0 some.1))
  once_below (suc n) p short = go (last_step p) (once_below n)
    where
      child : (q : List ℕ) (j : ℕ) → times q ([] ∷ all_children splits) ≤ 1 → times (q ++ j ∷ []) ([] ∷ all_children splits) ≤ 1
      child q j parent =
          let none = here-other (q ++ j ∷ []) [] (λ is. child-not_root q j (sym is)) in
          omega (arith, none, times-comes_up splits (q ++ j ∷ []), times-child_most q j splits, counted q, parent)

      go : (p ≡ []) ⊎ ((q : List ℕ) × (j : ℕ) × (p ≡ q ++ j ∷ [])) → ((q : List ℕ) → length q ≤ n → times q ([] ∷ all_children splits) ≤ 1) → times p ([] ∷ all_children splits) ≤ 1
      go (inl is) below = subst (λ (x : List ℕ). times x ([] ∷ all_children splits) ≤ 1) (sym is) (omega (arith, root_once))
      go (inr some) below =
          subst (λ (x : List ℕ). times x ([] ∷ all_children splits) ≤ 1) (sym some.2)
          (child some.0 some.1 (below some.0 (omega (arith, short, ap length some.2, length_push some.0 some.1))))

  pub comes_up_once : (p : List ℕ) → times p ([] ∷ all_children splits) ≤ 1
  comes_up_once p = once_below (length p) p (omega arith)

  pub balanced : Balanced splits leaves
  balanced = record { distinct = λ p. omega (arith, counted p, comes_up_once p); counts = counts }

-- ---- splitting

pub counts-start : Counts [] ([] ∷ [])
counts-start p = refl

-- leaves are counted
pub counts-same : (splits : List Split) (leaves others : List (List ℕ)) → Counts splits leaves → ((p : List ℕ) → times p leaves ≡ times p others) → Counts splits others
counts-same splits leaves others counts same p = omega (arith, counted splits leaves counts p, same p, times-append p others (split_paths splits))

pub counts-reordered : (splits : List Split) (leaves reordered : List (List ℕ)) → IsPermutation leaves reordered → Counts splits leaves → Counts splits reordered
counts-reordered splits leaves reordered h counts = counts-same splits leaves reordered counts (λ p. times-reordered p leaves reordered h)

-- a leaf is split: its children are leaves in its place
pub counts-split : (splits : List Split) (leaves others : List (List ℕ)) (p : List ℕ) (k : ℕ) → Counts splits leaves
    → ((x : List ℕ) → times x (p ∷ others) ≡ times x (children p k ++ leaves)) → Counts (split p k ∷ splits) others
counts-split splits leaves others p k counts same x =
    omega (
      arith,
      same x,
      times-cons x p others,
      times-append x (children p k) leaves,
      counted splits leaves counts x,
      times-comes_up splits x,
      times-comes_up (split p k ∷ splits) x,
      times-all_children x (split p k) splits,
      times-append x others (split_paths (split p k ∷ splits)),
      times-split_paths x (split p k) splits,
    )

pub counts-split_at : (splits : List Split) (front back : List (List ℕ)) (p : List ℕ) (k : ℕ) → Counts splits (front ++ p ∷ back)
    → Counts (split p k ∷ splits) (front ++ children p k ++ back)
counts-split_at splits front back p k counts = counts-split splits (front ++ p ∷ back) (front ++ children p k ++ back) p k counts (λ x.
    omega (
      arith,
      times-cons x p (front ++ children p k ++ back),
      times-append x (front ++ children p k) back,
      times-append x front (children p k),
      times-append x (children p k) (front ++ p ∷ back),
      times-append x front (p ∷ back),
      times-cons x p back,
    ))

-- ---- covers

pub once : (splits : List Split) (shut : List (List ℕ)) (p : List ℕ) → Covers splits shut → ComesUp splits p → times p (split_paths splits) + times p shut ≡ 1
once splits shut p covers up = omega (arith, up, counted splits shut covers.counts p, comes_up_once splits shut covers.counts p)

pub never : (splits : List Split) (shut : List (List ℕ)) (p : List ℕ) → Covers splits shut → (ComesUp splits p → ⊥) → times p (split_paths splits) + times p shut ≡ 0
never splits shut p covers not = go (cases_lt 0 (times p ([] ∷ all_children splits)))
  where
    go : (0 < times p ([] ∷ all_children splits)) ⊎ (times p ([] ∷ all_children splits) ≤ 0) → times p (split_paths splits) + times p shut ≡ 0
    go (inl some) = absurd (not (omega (arith, some)))
    go (inr none) = omega (arith, none, counted splits shut covers.counts p)

-- what comes up is split once and never shut, or shut once and never split
pub split_or_shut : (splits : List Split) (shut : List (List ℕ)) (p : List ℕ) → Covers splits shut → ComesUp splits p
    → ((times p (split_paths splits) ≡ 1) × (times p shut ≡ 0)) ⊎ ((times p (split_paths splits) ≡ 0) × (times p shut ≡ 1))
split_or_shut splits shut p covers up = go (cases_lt 0 (times p shut))
  where
    sum : times p (split_paths splits) + times p shut ≡ 1
    sum = once splits shut p covers up

    go : (0 < times p shut) ⊎ (times p shut ≤ 0) → ((times p (split_paths splits) ≡ 1) × (times p shut ≡ 0)) ⊎ ((times p (split_paths splits) ≡ 0) × (times p shut ≡ 1))
    go (inl some) = inr (omega (arith, some, sum), omega (arith, some, sum))
    go (inr none) = inl (omega (arith, none, sum), omega (arith, none, sum))

-- what comes up is split or shut, as an element
pub is_kept : (splits : List Split) (shut : List (List ℕ)) (p : List ℕ) → Covers splits shut → ComesUp splits p → Contains (split_paths splits) p ⊎ Contains shut p
is_kept splits shut p covers up = go (split_or_shut splits shut p covers up)
  where
    go : ((times p (split_paths splits) ≡ 1) × (times p shut ≡ 0)) ⊎ ((times p (split_paths splits) ≡ 0) × (times p shut ≡ 1)) → Contains (split_paths splits) p ⊎ Contains shut p
    go (inl s) = inl (times-contains p (split_paths splits) (omega (arith, s.0)))
    go (inr s) = inr (times-contains p shut (omega (arith, s.1)))

pub root_is_kept : (splits : List Split) (shut : List (List ℕ)) → Covers splits shut → Contains (split_paths splits) [] ⊎ Contains shut []
root_is_kept splits shut covers = is_kept splits shut [] covers (root_comes_up splits)

pub child_is_kept : (splits : List Split) (shut : List (List ℕ)) (s : Split) (j : ℕ) → Covers splits shut → Contains splits s → j < s.count
    → Contains (split_paths splits) (s.path ++ j ∷ []) ⊎ Contains shut (s.path ++ j ∷ [])
child_is_kept splits shut s j covers h lt = is_kept splits shut (s.path ++ j ∷ []) covers (child_comes_up splits s j h lt)

-- what is split or shut comes up
pub split_comes_up : (splits : List Split) (leaves : List (List ℕ)) (p : List ℕ) → Counts splits leaves → Contains (split_paths splits) p → ComesUp splits p
split_comes_up splits leaves p counts h = omega (arith, contains-times p (split_paths splits) h, counted splits leaves counts p)

pub leaf_comes_up : (splits : List Split) (leaves : List (List ℕ)) (p : List ℕ) → Counts splits leaves → Contains leaves p → ComesUp splits p
leaf_comes_up splits leaves p counts h = omega (arith, contains-times p leaves h, counted splits leaves counts p)
