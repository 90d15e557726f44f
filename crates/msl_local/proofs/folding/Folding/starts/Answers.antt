use Rattle.std.proofs.Common.{rules, ◌≡◌, ◌<◌, ◌≤◌, ◌+◌, ℕ, ℤ, pos, List, [], ◌∷◌, ◌++◌, length, slice_index_or, sym, ap, subst, ◌∙◌, arith, length-append, inl, inr, ◌⊎◌, FitsSigned, to_z, of_z}
use Rattle.std.specs.Int.{w128}
use Rattle.std.proofs.lemmas.Bool.{cases_lt}
use Rattle.std.proofs.lemmas.Int.{to_z-of_z}
use Rattle.std.proofs.lemmas.List.{get_or_append_left, get_or_push}
use Rattle.msl_ops.specs.Meaning.{fold_of}
use Rattle.msl_local.specs.Folds.{before, held_by}
use Rattle.msl_local.specs.Parts.{flat}
use Rattle.msl_local.proofs.FoldParts.{IsStep, hand_step, before_next}
use Rattle.msl_local.proofs.folding.Folding.starts.Goals as goal

step : (c : goal.After-combine-arg-1) → IsStep c.args.self.now.op (flat (before c.args.self.now.parts.now c.args.hands c.loop-h.h)) (flat (held_by c.args.self.now.parts.now c.args.hands c.loop-h.h)) (to_z w128 c.loop-h.total-bits) (to_z w128 (of_z w128 (slice_index_or c.args.folds.now c.loop-h.h (pos 0))))
step c =
    let w = c.args.self.now in
    let mine = slice_index_or c.args.folds.now c.loop-h.h (pos 0) in
    let fit : FitsSigned w128 mine = search rules in
    hand_step w.op w.parts.now w.few w.fit c.args.hands c.loop-h.h (to_z w128 c.loop-h.total-bits) (to_z w128 (of_z w128 mine)) c.loop-h.invariant.total
    (to_z-of_z w128 mine fit ∙ c.requires.each c.loop-h.h c.loop-h-test.true)

pub combine-total-requires-clause-a : goal.combine-total-requires-clause-a
combine-total-requires-clause-a c = (step c).total_in

pub combine-total-requires-clause-b : goal.combine-total-requires-clause-b
combine-total-requires-clause-b c = (step c).mine_in

pub combine-total-requires-clause-fits : goal.combine-total-requires-clause-fits
combine-total-requires-clause-fits c = (step c).fits

module _ (P : ℕ → ℤ → Type 0) where
  more : (xs : List ℤ) (x : ℤ) (n : ℕ) → length xs ≡ n → ((k : ℕ) → k < n → P k (slice_index_or xs k (pos 0))) → P n x
      → (k : ℕ) → k < n + 1 → P k (slice_index_or (xs ++ x ∷ []) k (pos 0))
  more xs x n len each last k lt = go (cases_lt k n)
    where
      go : (k < n) ⊎ (n ≤ k) → P k (slice_index_or (xs ++ x ∷ []) k (pos 0))
      go (inl h) = subst (P k) (sym (get_or_append_left xs (x ∷ []) (pos 0) k (omega (arith, h, len)))) (each k h)
      go (inr h) = let e : n ≡ k = omega (arith, h, lt) in subst (P k) (sym (get_or_push xs x (pos 0) k (len ∙ e))) (subst (λ z. P z x) e last)

pub loop-h-preserved : goal.loop-h-preserved
loop-h-preserved c =
    let w = c.args.self.now in
    let mine = slice_index_or c.args.folds.now c.loop-h.h (pos 0) in
    let fit : FitsSigned w128 mine = search rules in
    let s = hand_step w.op w.parts.now w.few w.fit c.args.hands c.loop-h.h (to_z w128 c.loop-h.total-bits) (to_z w128 (of_z w128 mine)) c.loop-h.invariant.total
    (to_z-of_z w128 mine fit ∙ c.requires.each c.loop-h.h c.loop-h-test.true) in
    let result : FitsSigned w128 c.combine-total.result = search rules in
    let x = to_z w128 c.loop-h.total-bits in
    let items : c.push_reserved.new.self.items ≡ c.loop-h.starts.items ++ x ∷ [] = search rules in
    let P : ℕ → ℤ → Type 0 = λ k z. z ≡ fold_of w.op.kind w.op.modulus (flat (before w.parts.now c.args.hands k)) in
    record {
      total = to_z-of_z w128 c.combine-total.result result ∙ c.combine-total.ensures ∙ s.next ∙ ap (fold_of w.op.kind w.op.modulus) (before_next w.parts.now c.args.hands c.loop-h.h);
      count = omega (arith, ap length items, length-append c.loop-h.starts.items (x ∷ []), c.loop-h.invariant.count);
      room = search rules;
      so_far = λ k lt. subst (λ ys. P k (slice_index_or ys k (pos 0))) (sym items) (more P c.loop-h.starts.items x c.loop-h.h c.loop-h.invariant.count c.loop-h.invariant.so_far c.loop-h.invariant.total k lt);
    }
