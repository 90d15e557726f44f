-- The answer of the search that drops nothing is a best one.
use Rattle.std.proofs.Common.{◌≡◌, ℕ, zero, suc, ◌+◌, ◌≤◌, ◌==◌, Bool, true, false, ◌&&◌, ◌||◌, ℤ, pos, negsuc, List, [], ◌∷◌, ◌++◌, length, Option, Some, None, Result, Ok, Err, inl, inr, refl, sym, ap, subst, ◌∙◌, arith, length-append, lt-ltb, zero-le}
use Rattle.std.proofs.lemmas.Bool.{eqb-false}
use Rattle.std.specs.Prelude.{slice_get, int_lt}
use Rattle.msl_base.specs.declared.fault.Fault.{Fault}
use Rattle.msl_base.specs.declared.fault.Fault.TheVariants.{Count, Depth}
use Rattle.msl_base.specs.Streams.{Record, Outcome}
use Rattle.msl_fun.specs.Meaning.{turns_of, holds, params_of}
use Rattle.msl_lists.specs.Whole.{◌>>=◌}
use Rattle.msl_fun.specs.declared.funs.Fun.{Fun}
use Rattle.msl_program.specs.Calls.{number_by}
use Rattle.msl_program.specs.declared.script.BnbSpec.{BnbSpec}
use Rattle.msl_program.specs.Along.{Path, most_levels}
use Rattle.msl_program.specs.Searches.{Kind, solution, inner, Node, node, refused_if, children_in, further, node_behind, own, as_inner, as_solution, by_solved, bound, children_of, most_children, preorder_by, reached, first_best_outcome, IsAnswer, IsSolution, IsFaulty, BestOf, AnswerBy, outcome_by}
use Rattle.msl_program.proofs.TreeLaws.{Has, complete, sound}
use Rattle.msl_program.proofs.BestLaws.{Said, said}

-- no children
record Barren (r : Result Kind Fault) : Type 0 where
  none : children_in r ≡ []

barren_fault : (f : Fault) → Barren (Err f)
barren_fault f = record { none = refl }

barren_solution : (v : ℤ) → Barren (Ok (solution v))
barren_solution v = record { none = refl }

barren_bind : {A : Type 0} (r : Result A Fault) (go : A → Result Kind Fault) → ((a : A) → Barren (go a)) → Barren (r >>= go)
barren_bind (Ok a) go h = h a
barren_bind (Err f) go h = barren_fault f

barren_refused : (b : Bool) (f : Fault) (r : Result Kind Fault) → Barren r → Barren (refused_if b f r)
barren_refused true f r h = barren_fault f
barren_refused false f r h = h

module _ (funs : List Fun) (b : BnbSpec) (stage : ℕ) where
  few_inner : (q : Path) (x : Record) (low c : ℤ) → Barren
      (refused_if (int_lt c (pos 0) || int_lt (pos most_children) c) (Count stage)
      (refused_if (int_lt (pos 0) c && true) (Depth stage q) (children_of funs b stage x (turns_of c) >>= λ xs. Ok (inner low xs))))
  few_inner q x low (pos zero) = record { none = refl }
  few_inner q x low (pos (suc n)) =
      let e : int_lt (pos 0) (pos (suc n)) ≡ true = lt-ltb 0 (suc n) (omega arith) in
      let children : Result Kind Fault = children_of funs b stage x (suc n) >>= (λ xs. Ok (inner low xs)) in
      let inmost : Barren (refused_if (int_lt (pos 0) (pos (suc n)) && true) (Depth stage q) children) = rw e (barren_fault (Depth stage q)) in
      barren_refused _ _ _ inmost
  few_inner q x low (negsuc n) = barren_fault (Count stage)

  inners : (q : Path) (p : Node) (low : ℤ) → (length q == most_levels) ≡ true → Barren (as_inner funs b stage q p.numbers low)
  inners q p low h = barren_bind (number_by funs stage b.count p.numbers) _ (λ c. rw h (few_inner q p.numbers low c))

  solutions : (q : Path) (p : Node) (low : ℤ) → Barren (as_solution funs b stage q p.numbers low)
  solutions q p low = barren_bind (number_by funs stage b.value p.numbers) _ (λ v. barren_refused (int_lt v low) _ _ (barren_refused _ _ _ (barren_solution v)))

  kinds : (q : Path) (p : Node) (low : ℤ) (t : Bool) → (length q == most_levels) ≡ true
      → Barren (by_solved funs b stage t q p.numbers low)
  kinds q p low true h = solutions q p low
  kinds q p low false h = inners q p low h

  -- at the greatest depth there are no children
  deepest : (q : Path) (p : Node) → (length q == most_levels) ≡ true → Barren (own funs b stage q p)
  deepest q p h =
      barren_bind (bound funs b stage p.numbers) _ (λ low. barren_refused _ _ _ (barren_bind (number_by funs stage b.solved p.numbers) _ (λ s. kinds q p low (holds s) h)))

  pick : (k : ℕ) (rest q : Path) (r : Node) (cs : List Node) → cs ≡ [] → further (slice_get cs k) (node_behind (own funs b stage) rest (q ++ k ∷ [])) ≡ Some r → ⊥
  pick k rest q r [] e h = cc
  pick k rest q r (c ∷ cs) e h = cc

  go_on : (k : ℕ) (rest q : Path) (p r : Node)
      → ((c : Node) → node_behind (own funs b stage) rest (q ++ k ∷ []) c ≡ Some r → length (q ++ k ∷ []) ≤ most_levels → length (q ++ k ∷ []) + length rest ≤ most_levels)
      → length q ≤ most_levels → (t : Bool) → (length q == most_levels) ≡ t
      → (o : Option Node) → slice_get (children_in (own funs b stage q p)) k ≡ o → further o (node_behind (own funs b stage) rest (q ++ k ∷ [])) ≡ Some r
      → length q + length (k ∷ rest) ≤ most_levels
  go_on k rest q p r deeper h true d o is e =
      absurd (pick k rest q r (children_in (own funs b stage q p)) (deepest q p d).none (ap (λ x. further x (node_behind (own funs b stage) rest (q ++ k ∷ []))) is ∙ e))
  go_on k rest q p r deeper h false d None is e = cc
  go_on k rest q p r deeper h false d (Some c) is e =
      let ne : length q ≡ 64 → ⊥ = eqb-false (length q) 64 d in
      let l : length (q ++ k ∷ []) ≡ length q + 1 = length-append q (k ∷ []) in
      let at : length (q ++ k ∷ []) ≤ most_levels = grind (arith, l, ne, h) in
      let m = deeper c e at in
      grind (arith, l, m)

  -- no node is deeper
  pub shallow : (rest q : Path) (p r : Node) → node_behind (own funs b stage) rest q p ≡ Some r → length q ≤ most_levels → length q + length rest ≤ most_levels
  shallow [] q p r e h = omega (arith, h)
  shallow (k ∷ rest) q p r e h =
      go_on k rest q p r (λ c f g. shallow rest (q ++ k ∷ []) c r f g) h (length q == most_levels) refl (slice_get (children_in (own funs b stage q p)) k) refl e

  module _ (x : Record) where
    seen : (q : Path) (p : Node) → reached funs b stage x q ≡ Some p → Has (preorder_by (own funs b stage) 65 [] (node x None)) (p.numbers, own funs b stage q p)
    seen q p e = complete (own funs b stage) q 65 [] (node x None) p e (let m = shallow q [] (node x None) p e (zero-le {n = 64}) in omega (arith, m))

    found_solution : (y : Record) (v : ℤ) → Has (preorder_by (own funs b stage) 65 [] (node x None)) (y, Ok (solution v)) → (q : Path) × IsSolution funs b stage x q y v
    found_solution y v h =
        let s = sound (own funs b stage) 65 [] (node x None) (y, Ok (solution v)) h in
        (s.0, (s.1, s.2, (sym (ap (λ w. w.0) s.3), sym (ap (λ w. w.1) s.3))))

    found_fault : (y : Record) (f : Fault) → Has (preorder_by (own funs b stage) 65 [] (node x None)) (y, Err f) → (q : Path) × IsFaulty funs b stage x q f
    found_fault y f h =
        let s = sound (own funs b stage) 65 [] (node x None) (y, Err f) h in
        (s.0, (s.1, s.2, sym (ap (λ w. w.1) s.3)))

    solution_seen : (q : Path) (z : Record) (w : ℤ) → IsSolution funs b stage x q z w → Has (preorder_by (own funs b stage) 65 [] (node x None)) (z, Ok (solution w))
    solution_seen q z w h = subst (λ v. Has (preorder_by (own funs b stage) 65 [] (node x None)) v) (λ i. (h.2.0 i, h.2.1 i)) (seen q h.0 h.1)

    fault_seen : (q : Path) (f : Fault) → (h : IsFaulty funs b stage x q f) → Has (preorder_by (own funs b stage) 65 [] (node x None)) (h.0.numbers, Err f)
    fault_seen q f h = subst (λ v. Has (preorder_by (own funs b stage) 65 [] (node x None)) v) (λ i. (h.0.numbers, h.2 i)) (seen q h.0 h.1)

    -- what is said of the visits is said of the tree
    answer : (R : Outcome) → Said None (preorder_by (own funs b stage) 65 [] (node x None)) R → IsAnswer funs b stage x R
    answer (Err f) s = found_fault s.0 f s.1
    answer (Ok []) s =
        record { none = λ q z w h. s.1 z w (solution_seen q z w h); whole = λ q f h. s.2 (h.0.numbers) f (fault_seen q f h) }
    answer (Ok (v ∷ y)) s =
        record {
          found = elim s.0 [ inl e ↦ (let n : ⊥ = cc in absurd n) | inr h ↦ found_solution y v h ];
          least = λ q z w h. s.2 z w (solution_seen q z w h);
          faults = λ q f h. absurd (s.3 (h.0.numbers) f (fault_seen q f h));
        }

    by_width : (t : Bool) → AnswerBy funs b stage t x (outcome_by funs b stage t x)
    by_width true = answer (outcome_by funs b stage true x) (said funs b stage None (preorder_by (own funs b stage) 65 [] (node x None)))
    by_width false = refl

    -- each record has an answer: that of the search which drops nothing
    pub first_best_is_best : BestOf funs b stage x (first_best_outcome funs b stage x)
    first_best_is_best = by_width (length x == params_of funs b.bound)
