-- Folds, number by number.
use Rattle.std.proofs.Common.{◌≡◌, ◌<◌, ◌≤◌, ◌+◌, ℕ, zero, suc, ℤ, pos, List, [], ◌∷◌, ◌++◌, length, take, Result, Ok, Err, MatchResult, refl, sym, ap, ◌∙◌, arith}
use Rattle.std.specs.Prelude.{fold}
use Rattle.std.proofs.lemmas.List.Sums.{fold-append}
use Rattle.std.proofs.lemmas.List.{take_more}
use Rattle.msl_base.specs.declared.fault.Fault.{Fault}
use Rattle.msl_ops.specs.declared.op.Op.{Op}
use Rattle.msl_ops.specs.Meaning.{unit_of, lift_of, combine_of, fold_of}
use Rattle.msl_fun.specs.declared.fault.EvalFault.{EvalFault}
use Rattle.msl_fun.specs.declared.fault.EvalFault.TheVariants.{Overflow, DivZero, Steps}
use Rattle.msl_lists.specs.Whole.{Function, at_stage, at, foldl_all, ◌>>=◌}
use Rattle.msl_lists.specs.WholeLaws.{Combines, Passes}

fold_to : (h : ℤ → ℤ → ℤ) (unit : ℤ) (a : List ℤ) (c : ℕ → ℤ) → c 0 ≡ unit → ((i : ℕ) → i < length a → c (i + 1) ≡ h (c i) (at a i)) → (i : ℕ) → i ≤ length a → fold h unit (take i a) ≡ c i
fold_to h unit a c first next zero lt = sym first
fold_to h unit a c first next (suc i) lt =
    let below : i < length a = omega arith in
    let more : i + 1 ≡ suc i = omega arith in
    ap (λ n. fold h unit (take n a)) (sym more)
    ∙ ap (fold h unit) (take_more a i (pos 0) below)
    ∙ fold-append h unit (take i a) (at a i ∷ [])
    ∙ ap (λ x. h x (at a i)) (fold_to h unit a c first next i (omega arith))
    ∙ sym (next i below)
    ∙ ap c more

pub fold_up_to : (op : Op) (a : List ℤ) (c : ℕ → ℤ) → Combines op a c → (i : ℕ) → i ≤ length a → fold_of op.kind op.modulus (take i a) ≡ c i
fold_up_to op a c h = fold_to (λ x y. combine_of op.kind op.modulus x (lift_of op.kind op.modulus y)) (unit_of op.kind op.modulus) a c h.first h.next

-- ---- from the left, by a function

shifted : (u : Function) (s x : ℤ) (a : List ℤ) (n : ℕ) (g : ℕ → ℤ) → Passes u s (x ∷ a) (suc n) g → Passes u (g 1) a n (λ i. g (suc i))
shifted u s x a n g h = record {
  first = refl;
  next = λ i lt. let more : suc i + 1 ≡ suc (i + 1) = omega arith in h.next (suc i) (omega arith) ∙ ap (λ m. Ok (g m)) more;
}

first_value : (u : Function) (s x : ℤ) (a : List ℤ) (n : ℕ) (g : ℕ → ℤ) → Passes u s (x ∷ a) (suc n) g → u (s ∷ x ∷ []) ≡ Ok (g 1)
first_value u s x a n g h = ap (λ y. u (y ∷ x ∷ [])) (sym h.first) ∙ h.next 0 (omega arith)

pub passes_whole : (u : Function) (stage : ℕ) (s : ℤ) (a : List ℤ) (g : ℕ → ℤ) → Passes u s a (length a) g → foldl_all u stage s a ≡ Ok (g (length a))
passes_whole u stage s [] g h = ap Ok (sym h.first)
passes_whole u stage s (x ∷ a) g h =
    ap (λ r. at_stage stage r >>= λ y. foldl_all u stage y a) (first_value u s x a (length a) g h)
    ∙ passes_whole u stage (g 1) a (λ i. g (suc i)) (shifted u s x a (length a) g h)

pub passes_fault : (u : Function) (stage : ℕ) (s : ℤ) (a : List ℤ) (g : ℕ → ℤ) (i : ℕ) (e : EvalFault) → i < length a → Passes u s a i g → u (g i ∷ at a i ∷ []) ≡ Err e → foldl_all u stage s a ≡ at_stage stage (Err e)
passes_fault u stage s [] g i e lt h p = absurd (omega arith)
passes_fault u stage s (x ∷ a) g zero e lt h p =
    ap (λ r. at_stage stage r >>= λ y. foldl_all u stage y a) (ap (λ y. u (y ∷ x ∷ [])) (sym h.first) ∙ p) ∙ stops e
  where
    stops : (f : EvalFault) → (at_stage stage (Err f) >>= λ y. foldl_all u stage y a) ≡ at_stage stage (Err f)
    stops Overflow = refl
    stops DivZero = refl
    stops Steps = refl
passes_fault u stage s (x ∷ a) g (suc i) e lt h p =
    ap (λ r. at_stage stage r >>= λ y. foldl_all u stage y a) (first_value u s x a i g h)
    ∙ passes_fault u stage (g 1) a (λ j. g (suc j)) i e (omega arith) (shifted u s x a i g h) p

-- foldl over a and c goes on from its value over a
abbrev GoesOn : Function → ℕ → List ℤ → Result ℤ Fault → Result ℤ Fault → Type 0
GoesOn u stage c part whole = MatchResult part (λ g. whole ≡ foldl_all u stage g c) (λ e. whole ≡ Err e)

pub passes_parts : (u : Function) (stage : ℕ) (s : ℤ) (a c : List ℤ) → GoesOn u stage c (foldl_all u stage s a) (foldl_all u stage s (a ++ c))
passes_parts u stage s [] c = refl
passes_parts u stage s (x ∷ a) c = go (at_stage stage (u (s ∷ x ∷ []))) (λ y. passes_parts u stage y a c)
  where
    go : (r : Result ℤ Fault) → ((y : ℤ) → GoesOn u stage c (foldl_all u stage y a) (foldl_all u stage y (a ++ c)))
        → GoesOn u stage c (r >>= λ y. foldl_all u stage y a) (r >>= λ y. foldl_all u stage y (a ++ c))
    go (Ok y) more = more y
    go (Err e) more = refl
