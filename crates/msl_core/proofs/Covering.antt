-- The facts of a group in the words of covers.
use Rattle.std.proofs.Common.{◌≡◌, ℕ, suc, ◌+◌, ◌<◌, ◌≤◌, true, cond, List, [], ◌∷◌, ◌++◌, length, get_or, map, Option, Some, None, sym, refl, ap, ◌∙◌, subst, arith}
use Rattle.std.specs.List.{flat_map}
use Rattle.std.specs.Str.{bytes_eq}
use Rattle.std.proofs.lemmas.List.Recursion.{is_count_by}
use Rattle.msl_base.specs.Covers as covers
use Rattle.msl_base.specs.Covers.{times, children, all_children, split_paths, Balanced, Covers}
use Rattle.msl_core.specs.Groups.{Path, Node, Group, often, total, once_in, idle, mailed, Passive, leaves_of, children_of, parents_of, splits_of, shut_of, leaves, Kept}
use Rattle.msl_core.proofs.Counts.{often-append}
use Rattle.msl_core.proofs.Totals.{none_in}

cons_is : (b : Rattle.std.proofs.Common.Bool) (n : ℕ) → cond b 1 0 + n ≡ cond b (1 + n) n
cons_is true n = refl
cons_is Rattle.std.proofs.Common.false n = omega arith

times_is : (p : Path) (qs : List Path) → often p qs ≡ times p qs
times_is p qs = is_count_by (often p) (bytes_eq p) refl (λ q l. cons_is (bytes_eq p q) (often p l)) qs

often-flat_map : {A : Type 0} (p : Path) (f : A → List Path) (l : List A) → often p (flat_map f l) ≡ total (λ x. often p (f x)) l
often-flat_map p f [] = refl
often-flat_map p f (x ∷ xs) = let r = often-flat_map p f xs in let e = often-append p (f x) (flat_map f xs) in omega arith

often_mailed : (p : Path) (l : List (Option Path)) → often p (flat_map mailed l) ≡ total (once_in p) l
often_mailed p [] = refl
often_mailed p (None ∷ l) = let r = often_mailed p l in omega arith
often_mailed p (Some q ∷ l) = let r = often_mailed p l in omega arith

children-append : (p : Path) (ss ts : List covers.Split) → often p (all_children (ss ++ ts)) ≡ often p (all_children ss) + often p (all_children ts)
children-append p [] ts = omega arith
children-append p (s ∷ ss) ts = let r = children-append p ss ts in let a = often-append p (children s.path s.count) (all_children ss) in let b = often-append p (children s.path s.count) (all_children (ss ++ ts)) in omega arith

parents-append : (p : Path) (ss ts : List covers.Split) → often p (split_paths (ss ++ ts)) ≡ often p (split_paths ss) + often p (split_paths ts)
parents-append p [] ts = omega arith
parents-append p (s ∷ ss) ts = let r = parents-append p ss ts in omega arith

children_all : (p : Path) (l : List Node) → often p (all_children (flat_map (λ (x : Node). x.splits) l)) ≡ total (children_of p) l
children_all p [] = refl
children_all p (x ∷ xs) = let r = children_all p xs in let a = children-append p x.splits (flat_map (λ (y : Node). y.splits) xs) in omega arith

parents_all : (p : Path) (l : List Node) → often p (split_paths (flat_map (λ (x : Node). x.splits) l)) ≡ total (parents_of p) l
parents_all p [] = refl
parents_all p (x ∷ xs) = let r = parents_all p xs in let a = parents-append p x.splits (flat_map (λ (y : Node). y.splits) xs) in omega arith

leaves_all : (p : Path) (l : List Node) → often p (flat_map (λ (x : Node). x.held ++ (flat_map mailed x.lent ++ x.shut)) l) ≡ total (leaves_of p) l
leaves_all p [] = refl
leaves_all p (x ∷ xs) = let r = leaves_all p xs in
    let a = often-append p (x.held ++ (flat_map mailed x.lent ++ x.shut)) (flat_map (λ (y : Node). y.held ++ (flat_map mailed y.lent ++ y.shut)) xs) in
    let b = often-append p x.held (flat_map mailed x.lent ++ x.shut) in let d = often-append p (flat_map mailed x.lent) x.shut in let m = often_mailed p x.lent in omega arith

-- the leaves that are left of all but the splits
balanced_by : (g : Group) (l : List Path) → Kept g → ((p : Path) → often p l ≡ total (leaves_of p) g.nodes + total (once_in p) g.mails) → Balanced (splits_of g) l
balanced_by g l k counted = record {
  distinct = λ p. let a = times_is p (split_paths (splits_of g)) in let b = parents_all p g.nodes in let d = k.distinct p in omega arith;
  counts = λ p. sym (times_is p ([] ∷ all_children (splits_of g)))
      ∙ (let a = children_all p g.nodes in let b = parents_all p g.nodes in let d = k.balance p in let e = counted p in let f = often-append p l (split_paths (splits_of g)) in omega arith)
      ∙ times_is p (l ++ split_paths (splits_of g));
}

pub balanced : (g : Group) → Kept g → Balanced (splits_of g) (leaves g)
balanced g k = balanced_by g (leaves g) k (λ p. let a = leaves_all p g.nodes in let b = often_mailed p g.mails in
    let e = often-append p (flat_map (λ (x : Node). x.held ++ (flat_map mailed x.lent ++ x.shut)) g.nodes) (flat_map mailed g.mails) in omega arith)

all_shut : (p : Path) (l : List Node) → ((i : ℕ) → i < length l → Passive (get_or l i idle)) → total (leaves_of p) l ≡ total (λ (x : Node). often p x.shut) l
all_shut p [] h = refl
all_shut p (x ∷ xs) h = let r = all_shut p xs (λ i l. h (suc i) (omega arith)) in let a = h 0 (omega arith) in let b = ap (often p) a.0 in let c = none_in p x.lent a.1 in omega arith

all_none : (f : Option Path → ℕ) → f None ≡ 0 → (l : List (Option Path)) → ((i : ℕ) → i < length l → get_or l i None ≡ None) → total f l ≡ 0
all_none f z [] h = refl
all_none f z (x ∷ xs) h = let r = all_none f z xs (λ i l. h (suc i) (omega arith)) in let a = ap f (h 0 (omega arith)) in omega arith

pub covered : (g : Group) → Kept g → g.over ≡ true → Covers (splits_of g) (shut_of g)
covered g k o = let q = k.quiet o in balanced_by g (shut_of g) k (λ p. let a = all_shut p g.nodes q.0 in let b = all_none (once_in p) refl g.mails q.1 in let e = often-flat_map p (λ (x : Node). x.shut) g.nodes in omega arith)
