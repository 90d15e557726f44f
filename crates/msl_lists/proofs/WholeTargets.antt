-- What the targets of a move are, or why it is refused.
use Rattle.std.proofs.Common.{◌≡◌, ◌≢◌, ◌<◌, ℕ, ℤ, pos, Bool, true, false, List, [], ◌∷◌, Result, Ok, Err, IsOk, is_ok, if◌then◌else◌, refl, sym, subst, ap, ◌∙◌, inl, inr}
use Rattle.std.specs.Prelude.{◌⊎◌}
use Rattle.std.proofs.lemmas.Bool.{cases_order}
use Rattle.msl_base.specs.declared.fault.Fault.{Fault}
use Rattle.msl_base.specs.declared.fault.Fault.TheVariants.{NotPermutation, Ragged}
use Rattle.msl_fun.specs.declared.fault.EvalFault.{EvalFault}
use Rattle.msl_fun.specs.declared.fault.EvalFault.TheVariants.{Overflow, DivZero, Steps}
use Rattle.msl_lists.specs.Whole.{Function, at, at_stage, each, is_bijection, targets_of, ◌>>=◌}
use Rattle.msl_lists.specs.WholeLaws.{IsEach, AnswersBelow, FaultsFirst, IsBijection}
use Rattle.msl_lists.proofs.WholeBijections.{AreValues, bijection_from_test, test_from_bijection}
use Rattle.msl_lists.proofs.WholeEach.{each_is}

-- ---- faults at a stage

value_at_stage : (stage : ℕ) (r : Result ℤ EvalFault) (x : ℤ) → at_stage stage r ≡ Ok x → r ≡ Ok x
value_at_stage stage (Ok y) x h = cc
value_at_stage stage (Err Overflow) x h = cc
value_at_stage stage (Err DivZero) x h = cc
value_at_stage stage (Err Steps) x h = cc

fault_at_stage : (stage : ℕ) (e : EvalFault) (f : Fault) → at_stage {A = ℤ} stage (Err e) ≡ Err f → ◌≡◌ {A = Result (List ℤ) Fault} (Err f) (at_stage stage (Err e))
fault_at_stage stage Overflow f h = cc
fault_at_stage stage DivZero f h = cc
fault_at_stage stage Steps f h = cc

no_permutation_fault : (stage s : ℕ) (r : Result ℤ EvalFault) → at_stage stage r ≡ Err (NotPermutation s) → ⊥
no_permutation_fault stage s (Ok x) h = cc
no_permutation_fault stage s (Err Overflow) h = cc
no_permutation_fault stage s (Err DivZero) h = cc
no_permutation_fault stage s (Err Steps) h = cc

no_ragged_fault : (stage s : ℕ) (r : Result ℤ EvalFault) → at_stage stage r ≡ Err (Ragged s) → ⊥
no_ragged_fault stage s (Ok x) h = cc
no_ragged_fault stage s (Err Overflow) h = cc
no_ragged_fault stage s (Err DivZero) h = cc
no_ragged_fault stage s (Err Steps) h = cc

no_fault : (stage : ℕ) (r : Result ℤ EvalFault) (f : Fault) → IsOk r → at_stage stage r ≡ Err f → ⊥
no_fault stage (Ok x) f ok h = cc
no_fault stage (Err e) f ok h = cc

is_value : (r : Result ℤ EvalFault) (x : ℤ) → r ≡ Ok x → IsOk r
is_value r x h = ap (λ (q : Result ℤ EvalFault). is_ok q) h

ok_at_stage : (stage : ℕ) (r : Result ℤ EvalFault) → IsOk (at_stage stage r) → IsOk r
ok_at_stage stage (Ok x) h = refl
ok_at_stage stage (Err Overflow) h = cc
ok_at_stage stage (Err DivZero) h = cc
ok_at_stage stage (Err Steps) h = cc

-- a fault ends what would come behind it
pub fault_then : {A B : Type 0} (stage : ℕ) (e : EvalFault) (go : A → Result B Fault) → (at_stage stage (Err e) >>= go) ≡ at_stage stage (Err e)
fault_then stage Overflow go = refl
fault_then stage DivZero go = refl
fault_then stage Steps go = refl

module _ (u : Function) (stage n : ℕ) where
  abbrev value_of : ℕ → Result ℤ Fault
  value_of i = at_stage stage (u (pos i ∷ []))

  abbrev chosen : Result (List ℤ) Fault → Result (List ℤ) Fault
  chosen r = r >>= λ targets. if is_bijection n targets then Ok targets else Err (NotPermutation stage)

  are_values : (ts : List ℤ) → IsEach n value_of (Ok ts) → AreValues u n ts
  are_values ts h = record { long = h.0; each = λ i lt. value_at_stage stage (u (pos i ∷ [])) (at ts i) (h.1 i lt) }

  -- ---- a fault

  first_fault : (r : Result (List ℤ) Fault) (e : EvalFault) → IsEach n value_of r → FaultsFirst u n e → r ≡ at_stage stage (Err e)
  first_fault (Ok ts) e h f = let t = (are_values ts h).each f.place f.below in let w = f.faults in cc
  first_fault (Err x) e h f = go (cases_order h.0 f.place)
    where
      go : (h.0 ≡ f.place) ⊎ ((h.0 < f.place) ⊎ (f.place < h.0)) → ◌≡◌ {A = Result (List ℤ) Fault} (Err x) (at_stage stage (Err e))
      go (inl same) = fault_at_stage stage e x (sym (ap value_of same ∙ ap (at_stage stage) f.faults) ∙ h.2)
      go (inr (inl lt)) = absurd (no_fault stage (u (pos h.0 ∷ [])) x (f.before h.0 lt) h.2)
      go (inr (inr lt)) =
          let wrong : false ≡ true = ap (λ (q : Result ℤ EvalFault). is_ok q) (sym f.faults) ∙ ok_at_stage stage (u (pos f.place ∷ [])) (h.3 f.place lt) in
          absurd (cc)

  pub fault_targets : (e : EvalFault) → FaultsFirst u n e → targets_of u stage n ≡ at_stage stage (Err e)
  fault_targets e f = ap chosen (first_fault (each n value_of) e (each_is n value_of) f) ∙ fault_then stage e (λ targets. if is_bijection n targets then Ok targets else Err (NotPermutation stage))

  -- ---- a bijection

  abbrev Found : Result (List ℤ) Fault → Type 0
  Found r = (targets : List ℤ) × AreValues u n targets × (chosen r ≡ Ok targets)

  found : (r : Result (List ℤ) Fault) → IsEach n value_of r → IsBijection u n → Found r
  found (Ok ts) h b = let t = are_values ts h in (ts, t, rw (test_from_bijection u n ts t b) refl)
  found (Err x) h b = let w = b.within h.0 h.1 in absurd (no_fault stage (u (pos h.0 ∷ [])) x (is_value (u (pos h.0 ∷ [])) (pos w.0) w.2) h.2)

  pub targets_found : IsBijection u n → Found (each n value_of)
  targets_found b = found (each n value_of) (each_is n value_of) b

  -- the targets that are answered are the function's values
  pub targets_are : (ts : List ℤ) → targets_of u stage n ≡ Ok ts → AreValues u n ts × IsBijection u n
  targets_are ts e = go (each n value_of) (each_is n value_of) e
    where
      chosen_one : (xs : List ℤ) (b : Bool) → is_bijection n xs ≡ b → chosen (Ok xs) ≡ Ok ts → (xs ≡ ts) × (is_bijection n xs ≡ true)
      chosen_one xs true e c = let is : Ok xs ≡ Ok ts = rw e at c in (cc, e)
      chosen_one xs false e c = let wrong = rw e at c in absurd (cc)

      go : (r : Result (List ℤ) Fault) → IsEach n value_of r → chosen r ≡ Ok ts → AreValues u n ts × IsBijection u n
      go (Ok xs) h c =
          let one = chosen_one xs (is_bijection n xs) refl c in
          let are = are_values xs h in
          (subst (AreValues u n) one.0 are, bijection_from_test u n xs are one.1)
      go (Err x) h c = absurd (cc)

  -- ---- no bijection

  not_chosen : (r : Result (List ℤ) Fault) → IsEach n value_of r → AnswersBelow u n → ¬ IsBijection u n → chosen r ≡ Err (NotPermutation stage)
  not_chosen (Ok ts) h all none = go (is_bijection n ts) refl
    where
      go : (b : Bool) → is_bijection n ts ≡ b → chosen (Ok ts) ≡ Err (NotPermutation stage)
      go true e = absurd (none (bijection_from_test u n ts (are_values ts h) e))
      go false e = rw e refl
  not_chosen (Err x) h all none = absurd (no_fault stage (u (pos h.0 ∷ [])) x (all h.0 h.1) h.2)

  refused_from : (r : Result (List ℤ) Fault) → IsEach n value_of r → chosen r ≡ Err (NotPermutation stage) → AnswersBelow u n × ¬ IsBijection u n
  refused_from (Ok ts) h e = (λ i lt. is_value (u (pos i ∷ [])) (at ts i) (t.each i lt), λ b. let found = test_from_bijection u n ts t b in let wrong = rw found at e in cc)
    where
      t : AreValues u n ts
      t = are_values ts h
  refused_from (Err x) h e = let same_fault : x ≡ NotPermutation stage = cc in absurd (no_permutation_fault stage stage (u (pos h.0 ∷ [])) (h.2 ∙ ap Err same_fault))

  pub refused_targets : AnswersBelow u n → ¬ IsBijection u n → targets_of u stage n ≡ Err (NotPermutation stage)
  refused_targets all none = not_chosen (each n value_of) (each_is n value_of) all none

  pub refused_targets_only : targets_of u stage n ≡ Err (NotPermutation stage) → AnswersBelow u n × ¬ IsBijection u n
  refused_targets_only e = refused_from (each n value_of) (each_is n value_of) e

  -- ---- values alone

  pub values_found : AnswersBelow u n → (values : List ℤ) × AreValues u n values × (each n value_of ≡ Ok values)
  values_found all = go (each n value_of) (each_is n value_of)
    where
      go : (r : Result (List ℤ) Fault) → IsEach n value_of r → (values : List ℤ) × AreValues u n values × (r ≡ Ok values)
      go (Ok ts) h = (ts, are_values ts h, refl)
      go (Err x) h = absurd (no_fault stage (u (pos h.0 ∷ [])) x (all h.0 h.1) h.2)

  pub fault_values : (e : EvalFault) → FaultsFirst u n e → each n value_of ≡ at_stage stage (Err e)
  fault_values e f = first_fault (each n value_of) e (each_is n value_of) f

  pub not_ragged_values : each n value_of ≢ Err (Ragged stage)
  not_ragged_values = go (each n value_of) (each_is n value_of)
    where
      go : (r : Result (List ℤ) Fault) → IsEach n value_of r → r ≢ Err (Ragged stage)
      go (Ok ts) h = λ e. absurd (cc)
      go (Err x) h = λ e. let same_fault : x ≡ Ragged stage = cc in no_ragged_fault stage stage (u (pos h.0 ∷ [])) (h.2 ∙ ap Err same_fault)

  -- ---- no other refusal

  not_ragged : (r : Result (List ℤ) Fault) → IsEach n value_of r → chosen r ≢ Err (Ragged stage)
  not_ragged (Ok ts) h = go (is_bijection n ts) refl
    where
      go : (b : Bool) → is_bijection n ts ≡ b → chosen (Ok ts) ≢ Err (Ragged stage)
      go true e = λ p. let wrong = rw e at p in absurd (cc)
      go false e = λ p. let wrong = rw e at p in absurd (cc)
  not_ragged (Err x) h = λ e. let same_fault : x ≡ Ragged stage = cc in no_ragged_fault stage stage (u (pos h.0 ∷ [])) (h.2 ∙ ap Err same_fault)

  pub not_ragged_targets : targets_of u stage n ≢ Err (Ragged stage)
  not_ragged_targets = not_ragged (each n value_of) (each_is n value_of)
