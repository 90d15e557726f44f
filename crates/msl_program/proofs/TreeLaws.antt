-- The visits of a tree are those of the nodes that are reached, each once.
use Rattle.std.proofs.Common.{◌≡◌, ℕ, zero, suc, ◌+◌, ◌<◌, List, [], ◌∷◌, ◌++◌, length, Option, Some, None, Result, ◌⊎◌, inl, inr, refl, sym, ap, ◌∙◌, subst, arith, append_assoc, append-nil}
use Rattle.std.specs.Prelude.{slice_get}
use Rattle.msl_base.specs.declared.fault.Fault.{Fault}
use Rattle.msl_program.specs.Along.{Path}
use Rattle.msl_program.specs.Searches.{Node, Kind, Visit, children_in, all_from, further, node_behind, preorder_by}

abbrev pub Has : List Visit → Visit → Type 0
Has [] v = ⊥
Has (w ∷ ws) v = (w ≡ v) ⊎ Has ws v

pub has_left : (xs ys : List Visit) (v : Visit) → Has xs v → Has (xs ++ ys) v
has_left [] ys v h = absurd h
has_left (x ∷ xs) ys v (inl e) = inl e
has_left (x ∷ xs) ys v (inr h) = inr (has_left xs ys v h)

pub has_right : (xs ys : List Visit) (v : Visit) → Has ys v → Has (xs ++ ys) v
has_right [] ys v h = h
has_right (x ∷ xs) ys v h = inr (has_right xs ys v h)

pub has_either : (xs ys : List Visit) (v : Visit) → Has (xs ++ ys) v → Has xs v ⊎ Has ys v
has_either [] ys v h = inr h
has_either (x ∷ xs) ys v (inl e) = inl (inl e)
has_either (x ∷ xs) ys v (inr h) = elim (has_either xs ys v h) [ inl a ↦ inl (inr a) | inr b ↦ inr b ]

pub some_one : {A : Type 0} {a b : A} → Some a ≡ Some b → a ≡ b
some_one e = cc

module _ (visit : ℕ → Node → List Visit) where
  pub has_from : (cs : List Node) (k i : ℕ) (c : Node) (v : Visit) → slice_get cs i ≡ Some c → Has (visit (k + i) c) v → Has (all_from visit k cs) v
  has_from [] k i c v e h = cc
  has_from (d ∷ cs) k zero c v e h =
      let p : d ≡ c = some_one e in
      let q : k + 0 ≡ k = omega arith in
      has_left (visit k d) (all_from visit (k + 1) cs) v (subst (λ m. Has (visit m d) v) q (subst (λ x. Has (visit (k + 0) x) v) (sym p) h))
  has_from (d ∷ cs) k (suc i) c v e h =
      let q : k + suc i ≡ (k + 1) + i = omega arith in
      has_right (visit k d) (all_from visit (k + 1) cs) v (has_from cs (k + 1) i c v e (subst (λ m. Has (visit m c) v) q h))

  pub from_has : (cs : List Node) (k : ℕ) (v : Visit) → Has (all_from visit k cs) v → (i : ℕ) × (c : Node) × (slice_get cs i ≡ Some c) × Has (visit (k + i) c) v
  from_has [] k v h = absurd h
  from_has (d ∷ cs) k v h =
      elim (has_either (visit k d) (all_from visit (k + 1) cs) v h) [
        | inl a ↦ (let q : k ≡ k + 0 = omega arith in (0, d, refl, subst (λ m. Has (visit m d) v) q a))
        | inr b ↦ (let r = from_has cs (k + 1) v b in let q : (k + 1) + r.0 ≡ k + suc r.0 = omega arith in (suc r.0, r.1, r.2, subst (λ m. Has (visit m r.1) v) q r.3))
      ]

module _ (own : Path → Node → Result Kind Fault) where
  abbrev here : Path → Node → Visit
  here q p = (p.numbers, own q p)

  same : (q : Path) (k : ℕ) (rest : Path) → (q ++ k ∷ []) ++ rest ≡ q ++ k ∷ rest
  same q k rest = append_assoc q (k ∷ []) rest

  behind : (k : ℕ) (rest : Path) (n : ℕ) (q : Path) (p r : Node)
      → ((c : Node) → node_behind own rest (q ++ k ∷ []) c ≡ Some r → Has (preorder_by own n (q ++ k ∷ []) c) (here ((q ++ k ∷ []) ++ rest) r))
      → (o : Option Node) → slice_get (children_in (own q p)) k ≡ o → further o (λ c. node_behind own rest (q ++ k ∷ []) c) ≡ Some r
      → Has (preorder_by own (suc n) q p) (here (q ++ k ∷ rest) r)
  behind k rest n q p r deeper None is e = cc
  behind k rest n q p r deeper (Some c) is e =
      let z : k ≡ 0 + k = omega arith in
      inr (has_from (λ m. preorder_by own n (q ++ m ∷ [])) (children_in (own q p)) 0 k c (here (q ++ k ∷ rest) r) is
      (subst (λ m. Has (preorder_by own n (q ++ m ∷ []) c) (here (q ++ k ∷ rest) r)) z
      (subst (λ w. Has (preorder_by own n (q ++ k ∷ []) c) (here w r)) (same q k rest) (deeper c e))))

  -- each node behind another is visited, where there are levels enough
  pub complete : (rest : Path) (n : ℕ) (q : Path) (p r : Node) → node_behind own rest q p ≡ Some r → length rest < n → Has (preorder_by own n q p) (here (q ++ rest) r)
  complete rest zero q p r e h = absurd (omega (arith, h))
  complete [] (suc n) q p r e h = inl (let a : p ≡ r = some_one e in ap (λ x. here q x) a ∙ ap (λ w. here w r) (sym (append-nil q)))
  complete (k ∷ rest) (suc n) q p r e h =
      behind k rest n q p r (λ c f. complete rest n (q ++ k ∷ []) c r f (omega (arith, h))) (slice_get (children_in (own q p)) k) refl e

  -- the visit is one of a node behind the one at the path
  abbrev pub IsBehind : Path → Node → Visit → Type 0
  IsBehind q p v = (rest : Path) × (r : Node) × (node_behind own rest q p ≡ Some r) × (v ≡ here (q ++ rest) r)

  from_child : (k : ℕ) (q : Path) (p c : Node) (v : Visit) → slice_get (children_in (own q p)) k ≡ Some c → IsBehind (q ++ k ∷ []) c v → IsBehind q p v
  from_child k q p c v is (rest, r, e, w) = (k ∷ rest, r, rw (is, node_behind) e, w ∙ ap (λ l. here l r) (same q k rest))

  -- each visit is one of a node that is reached
  pub sound : (n : ℕ) (q : Path) (p : Node) (v : Visit) → Has (preorder_by own n q p) v → IsBehind q p v
  sound zero q p v h = absurd h
  sound (suc n) q p v (inl e) = ([], p, refl, sym e ∙ ap (λ w. here w p) (sym (append-nil q)))
  sound (suc n) q p v (inr h) =
      let f = from_has (λ k. preorder_by own n (q ++ k ∷ [])) (children_in (own q p)) 0 v h in
      let z : 0 + f.0 ≡ f.0 = omega arith in
      from_child f.0 q p f.1 v f.2 (sound n (q ++ f.0 ∷ []) f.1 v (subst (λ m. Has (preorder_by own n (q ++ m ∷ []) f.1) v) z f.3))

  -- ---- one step further

  on_from : (o : Option Node) → further o (λ n. Some n) ≡ o
  on_from None = refl
  on_from (Some n) = refl

  further_through : (j k : ℕ) (rest q : Path)
      → ((c : Node) → node_behind own (rest ++ k ∷ []) (q ++ j ∷ []) c ≡ further (node_behind own rest (q ++ j ∷ []) c) (λ r. slice_get (children_in (own ((q ++ j ∷ []) ++ rest) r)) k))
      → (o : Option Node) → further o (λ c. node_behind own (rest ++ k ∷ []) (q ++ j ∷ []) c)
      ≡ further (further o (λ c. node_behind own rest (q ++ j ∷ []) c)) (λ r. slice_get (children_in (own (q ++ j ∷ rest) r)) k)
  further_through j k rest q deeper None = refl
  further_through j k rest q deeper (Some c) =
      deeper c ∙ ap (λ w. further (node_behind own rest (q ++ j ∷ []) c) (λ r. slice_get (children_in (own w r)) k)) (same q j rest)

  -- the node behind one step more is a child
  pub one_further : (rest q : Path) (k : ℕ) (p : Node) → node_behind own (rest ++ k ∷ []) q p ≡ further (node_behind own rest q p) (λ r. slice_get (children_in (own (q ++ rest) r)) k)
  one_further [] q k p = on_from (slice_get (children_in (own q p)) k) ∙ ap (λ w. slice_get (children_in (own w p)) k) (sym (append-nil q))
  one_further (j ∷ rest) q k p = further_through j k rest q (λ c. one_further rest (q ++ j ∷ []) k c) (slice_get (children_in (own q p)) j)
