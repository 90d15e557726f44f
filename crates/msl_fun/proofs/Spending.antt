-- How an evaluation goes on against the limit.
use Rattle.std.proofs.Common.{◌≡◌, ℕ, suc, ◌+◌, ◌≤◌, nat_lt, cond, Result, Ok, Err, ap, arith, add_assoc}
use Rattle.std.proofs.lemmas.Bool.Decides.{nat_tests}
use Rattle.msl_fun.specs.declared.fault.EvalFault.{EvalFault}
use Rattle.msl_fun.specs.declared.fault.EvalFault.TheVariants.{Steps}
use Rattle.msl_fun.specs.Meaning.{Counted, free, node, after, ◌>>=◌}
use Rattle.msl_fun.specs.Budget.{ended, spend}

module _ {A : Type 0} where
  -- one more node
  pub spend-node : (s : ℕ) (m : Counted A) → spend s (node m) ≡ spend (s + 1) m
  unfolding spend
  spend-node s m =
      let e : s + suc m.begun ≡ s + 1 + m.begun = omega arith in
      ap (λ (k : ℕ). cond (nat_lt 10000000 k) (Err Steps) (ended m.outcome k)) e

  -- no more node may be begun
  pub spend-full : (s : ℕ) (m : Counted A) → 10000000 ≤ s → 1 ≤ m.begun → Err Steps ≡ spend s m
  unfolding spend
  spend-full s m full some = grind (arith, nat_tests)

  pub spend-free : (s : ℕ) (r : Result A EvalFault) → s ≤ 10000000 → ended r s ≡ spend s (free r)
  unfolding spend
  spend-free s r h = grind (arith, nat_tests)

  -- what was begun is within the limit
  pub spent_within : (s n : ℕ) (x : A) (m : Counted A) → Ok (x, n) ≡ spend s m → n ≤ 10000000
  unfolding spend
  spent_within s n x m h = of_outcome m.outcome m.begun h
    where
      of_outcome : (r : Result A EvalFault) (k : ℕ) → Ok (x, n) ≡ cond (nat_lt 10000000 (s + k)) (Err Steps) (ended r (s + k)) → n ≤ 10000000
      of_outcome (Ok y) k h = grind (arith, nat_tests)
      of_outcome (Err f) k h = grind (arith, nat_tests)

  module _ {B : Type 0} where
    -- the first step gives a value
    pub bind_ok : (s n : ℕ) (x : A) (m : Counted A) (go : A → Counted B) → Ok (x, n) ≡ spend s m → spend n (go x) ≡ spend s (m >>= go)
    unfolding spend
    bind_ok s n x m go h = of_outcome m.outcome m.begun h
      where
        of_outcome : (r : Result A EvalFault) (k : ℕ) → Ok (x, n) ≡ cond (nat_lt 10000000 (s + k)) (Err Steps) (ended r (s + k)) → spend n (go x) ≡ spend s (after r k go)
        of_outcome (Ok y) k h =
            let n_is : n ≡ s + k = grind (arith, nat_tests) in
            let x_is : x ≡ y = grind (arith, nat_tests) in
            rw (n_is, x_is) (ap (λ (j : ℕ). cond (nat_lt 10000000 j) (Err Steps) (ended (go y).outcome j)) (add_assoc s k (go y).begun))
        of_outcome (Err f) k h = grind (arith, nat_tests)

    -- the first step gives a fault
    pub bind_err : (s : ℕ) (f : EvalFault) (m : Counted A) (go : A → Counted B) → Err f ≡ spend s m → Err f ≡ spend s (m >>= go)
    unfolding spend
    bind_err s f m go h = of_outcome m.outcome m.begun h
      where
        of_outcome : (r : Result A EvalFault) (k : ℕ) → Err f ≡ cond (nat_lt 10000000 (s + k)) (Err Steps) (ended r (s + k)) → Err f ≡ spend s (after r k go)
        of_outcome (Ok y) k h = grind (arith, nat_tests)
        of_outcome (Err g) k h = grind (arith, nat_tests)
