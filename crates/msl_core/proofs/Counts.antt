-- How often a path is in the lists of a node.
use Rattle.std.proofs.Common.{◌≡◌, ℕ, zero, suc, ◌+◌, ◌<◌, ◌≤◌, ◌≢◌, eqb, Bool, true, false, cond, ◌&&◌, List, [], ◌∷◌, ◌++◌, length, sym, refl, ap, ◌∙◌, subst, arith, eq-eqb, ne_eqb, length-append}
use Rattle.std.proofs.lemmas.Slice.Eq.{bytes_eq-Decides}
use Rattle.std.specs.Str.{bytes_eq}
use Rattle.msl_base.specs.Covers as covers
use Rattle.msl_base.specs.Covers.{children, all_children, split_paths}
use Rattle.msl_core.specs.Groups.{Path, once, often, older, newest, oldest, newer}

pub by_test : {P : Type 0} (b : Bool) → (b ≡ true → P) → (b ≡ false → P) → P
by_test true f g = f refl
by_test false f g = g refl

pub often-append : (p : Path) (xs ys : List Path) → often p (xs ++ ys) ≡ often p xs + often p ys
often-append p [] ys = omega arith
often-append p (x ∷ xs) ys = let r = often-append p xs ys in omega arith

-- ---- the ends of a list

abbrev last_of : {A : Type 0} → A → List A → A
last_of x [] = x
last_of x (y ∷ ys) = last_of y ys

parted : {A : Type 0} (x : A) (xs : List A) → older (x ∷ xs) ++ last_of x xs ∷ [] ≡ x ∷ xs
parted x [] = refl
parted x (y ∷ ys) = ap (λ l. x ∷ l) (parted y ys)

newest_is : (x : Path) (xs : List Path) → newest (x ∷ xs) ≡ last_of x xs
newest_is x [] = refl
newest_is x (y ∷ ys) = newest_is y ys

pub split_off : (ps : List Path) → 0 < length ps → older ps ++ newest ps ∷ [] ≡ ps
split_off [] h = absurd (omega arith)
split_off (x ∷ xs) h = ap (λ (l : Path). older (x ∷ xs) ++ l ∷ []) (newest_is x xs) ∙ parted x xs

pub often_off : (p : Path) (ps : List Path) → 0 < length ps → often p ps ≡ often p (older ps) + once p (newest ps)
often_off p ps h = let e = ap (often p) (split_off ps h) in let f = often-append p (older ps) (newest ps ∷ []) in omega arith

pub length_off : (ps : List Path) → 0 < length ps → length ps ≡ length (older ps) + 1
length_off ps h = let e = ap length (split_off ps h) in let f = length-append (older ps) (newest ps ∷ []) in omega arith

pub older-snoc : {A : Type 0} (xs : List A) (a : A) → older (xs ++ a ∷ []) ≡ xs
older-snoc [] a = refl
older-snoc (x ∷ []) a = refl
older-snoc (x ∷ (y ∷ ys)) a = ap (λ l. x ∷ l) (older-snoc (y ∷ ys) a)

pub newest-snoc : (xs : List Path) (a : Path) → newest (xs ++ a ∷ []) ≡ a
newest-snoc [] a = refl
newest-snoc (x ∷ []) a = refl
newest-snoc (x ∷ (y ∷ ys)) a = newest-snoc (y ∷ ys) a

pub often_first : (p : Path) (ps : List Path) → 0 < length ps → often p ps ≡ once p (oldest ps) + often p (newer ps)
often_first p [] h = absurd (omega arith)
often_first p (x ∷ xs) h = refl

pub length_newer : (ps : List Path) → 0 < length ps → length ps ≡ length (newer ps) + 1
length_newer [] h = absurd (omega arith)
length_newer (x ∷ xs) h = omega arith

-- ---- children

pub once_no : (p q : Path) → bytes_eq p q ≡ false → once p q ≡ 0
once_no p q e = ap (λ (b : Bool). cond b 1 0) e

pub once_yes : (p q : Path) → bytes_eq p q ≡ true → once p q ≡ 1
once_yes p q e = ap (λ (b : Bool). cond b 1 0) e

once_same : (p q : Path) → p ≡ q → once p q ≡ 1
once_same p q e = once_yes p q ((bytes_eq-Decides p q).1 e)

same_child : (q : Path) (a b : ℕ) → bytes_eq (q ++ a ∷ []) (q ++ b ∷ []) ≡ (eqb a b && true)
same_child [] a b = refl
same_child (x ∷ xs) a b = subst (λ (c : Bool). (c && bytes_eq (xs ++ a ∷ []) (xs ++ b ∷ [])) ≡ (eqb a b && true)) (sym (eq-eqb x x refl)) (same_child xs a b)

other_child : (q : Path) (a b : ℕ) → a ≢ b → once (q ++ a ∷ []) (q ++ b ∷ []) ≡ 0
other_child q a b n = once_no (q ++ a ∷ []) (q ++ b ∷ []) (same_child q a b ∙ ap (λ (c : Bool). c && true) (ne_eqb a b n))

not_among : (q : Path) (a k : ℕ) → k ≤ a → often (q ++ a ∷ []) (children q k) ≡ 0
not_among q a zero h = refl
not_among q a (suc k) h = let r = not_among q a k (omega arith) in let o = other_child q a k (λ e. absurd (omega arith)) in omega arith

often_children : (p q : Path) (k : ℕ) → often p (children q k) ≤ once (older p) q
often_children p q zero = omega arith
often_children p q (suc k) = by_test (bytes_eq p (q ++ k ∷ []))
    (λ yes. let e : p ≡ q ++ k ∷ [] = (bytes_eq-Decides p (q ++ k ∷ [])).0 yes in let z = not_among q k k (omega arith) in
    let z' : often p (children q k) ≡ 0 = subst (λ (x : Path). often x (children q k) ≡ 0) (sym e) z in
    let o : once (older p) q ≡ 1 = once_same (older p) q (ap older e ∙ older-snoc q k) in
    let i : once p (q ++ k ∷ []) ≡ 1 = once_yes p (q ++ k ∷ []) yes in omega arith)
    (λ no. let z = once_no p (q ++ k ∷ []) no in let r = often_children p q k in omega arith)

no_root : (q : Path) (k : ℕ) → often [] (children q k) ≡ 0
no_root q zero = refl
no_root [] (suc k) = let r = no_root [] k in omega arith
no_root (x ∷ xs) (suc k) = let r = no_root (x ∷ xs) k in omega arith

pub often_all_children : (p : Path) (ss : List covers.Split) → often p (all_children ss) ≤ often (older p) (split_paths ss)
often_all_children p [] = omega arith
often_all_children p (s ∷ ss) = let a = often_children p s.path s.count in let r = often_all_children p ss in let e = often-append p (children s.path s.count) (all_children ss) in omega arith

pub no_root_child : (ss : List covers.Split) → often [] (all_children ss) ≡ 0
no_root_child [] = refl
no_root_child (s ∷ ss) = let a = no_root s.path s.count in let r = no_root_child ss in let e = often-append [] (children s.path s.count) (all_children ss) in omega arith

pub children-snoc : (p : Path) (ss : List covers.Split) (s : covers.Split) → often p (all_children (ss ++ s ∷ [])) ≡ often p (all_children ss) + often p (children s.path s.count)
children-snoc p [] s = let e = often-append p (children s.path s.count) [] in omega arith
children-snoc p (x ∷ xs) s = let r = children-snoc p xs s in let e = often-append p (children x.path x.count) (all_children xs) in let f = often-append p (children x.path x.count) (all_children (xs ++ s ∷ [])) in omega arith

pub parents-snoc : (p : Path) (ss : List covers.Split) (s : covers.Split) → often p (split_paths (ss ++ s ∷ [])) ≡ often p (split_paths ss) + once p s.path
parents-snoc p [] s = omega arith
parents-snoc p (x ∷ xs) s = let r = parents-snoc p xs s in omega arith

pub length-children : (q : Path) (k : ℕ) → length (children q k) ≡ k
length-children q zero = refl
length-children q (suc k) = let r = length-children q k in omega arith

pub length_children-snoc : (ss : List covers.Split) (s : covers.Split) → length (all_children (ss ++ s ∷ [])) ≡ length (all_children ss) + s.count
length_children-snoc [] s = let e = length-append (children s.path s.count) [] in let c = length-children s.path s.count in omega arith
length_children-snoc (x ∷ xs) s = let r = length_children-snoc xs s in let e = length-append (children x.path x.count) (all_children xs) in let f = length-append (children x.path x.count) (all_children (xs ++ s ∷ [])) in omega arith
