-- The functions of the worked examples: they meet the rules, and what a long loop costs.
use Rattle.std.proofs.Common.{◌≡◌, ℕ, zero, suc, ◌+◌, lit<, lit≤, ℤ, pos, List, [], ◌∷◌, Ok, refl, ap, ◌∙◌, arith}
use Rattle.msl_fun.specs.Meaning.{Counted, counted, give, node, turns, mean, ◌>>=◌}
use Rattle.msl_fun.specs.Checks.{MayFollow}
use Rattle.msl_muscle_laws.specs.Rows.{sum_below, last_below, by_zero, shorts, calls}

pub rules_of_g : MayFollow [] sum_below
rules_of_g = record { few_funs = lit< tt; name = refl; params = refl; some_params = lit≤ tt; few_params = lit≤ tt; some_results = lit≤ tt; few_results = lit≤ tt; bodies = refl; depth = lit≤ tt; rank = lit≤ tt }

pub rules_of_h : MayFollow (sum_below ∷ []) last_below
rules_of_h = record { few_funs = lit< tt; name = refl; params = refl; some_params = lit≤ tt; few_params = lit≤ tt; some_results = lit≤ tt; few_results = lit≤ tt; bodies = refl; depth = lit≤ tt; rank = lit≤ tt }

pub rules_of_f : MayFollow (sum_below ∷ last_below ∷ []) by_zero
rules_of_f = record { few_funs = lit< tt; name = refl; params = refl; some_params = lit≤ tt; few_params = lit≤ tt; some_results = lit≤ tt; few_results = lit≤ tt; bodies = refl; depth = lit≤ tt; rank = lit≤ tt }

pub rules_of_b : MayFollow (sum_below ∷ last_below ∷ by_zero ∷ []) shorts
rules_of_b = record { few_funs = lit< tt; name = refl; params = refl; some_params = lit≤ tt; few_params = lit≤ tt; some_results = lit≤ tt; few_results = lit≤ tt; bodies = refl; depth = lit≤ tt; rank = lit≤ tt }

pub rules_of_c : MayFollow (sum_below ∷ last_below ∷ by_zero ∷ shorts ∷ []) calls
rules_of_c = record { few_funs = lit< tt; name = refl; params = refl; some_params = lit≤ tt; few_params = lit≤ tt; some_results = lit≤ tt; few_results = lit≤ tt; bodies = refl; depth = lit≤ tt; rank = lit≤ tt }

-- ---- a long loop

abbrev index : ℕ → ℤ → Counted ℤ
index i a = node (give (pos i))

-- the last turn gives its number, and each turn begins a node
index_turns : (n i : ℕ) (a : ℤ) → turns (suc n) index i a ≡ counted (Ok (pos (i + n))) (suc n)
index_turns zero i a = ap (λ (m : ℕ). counted (Ok (pos m)) 1) (omega arith)
index_turns (suc n) i a =
    let p : i + 1 + n ≡ i + suc n = omega arith in
    let q : 1 + suc n ≡ suc (suc n) = omega arith in
    ap (λ (m : Counted ℤ). counted m.outcome (1 + m.begun)) (index_turns n (i + 1) (pos i)) ∙ (λ j. counted (Ok (pos (p j))) (q j))

pub last_index : (n : ℕ) → mean (last_below ∷ []) 0 (pos (n + 1) ∷ []) ≡ counted (Ok (pos n ∷ [])) (n + 4)
last_index n =
    let whole : Counted ℤ → Counted (List ℤ) = λ m. node (counted m.outcome (1 + (1 + m.begun))) >>= λ x. give [] >>= λ xs. give (x ∷ xs) in
    let more : n + 1 ≡ suc n = omega arith in
    let value : 0 + n ≡ n = omega arith in
    let cost : suc (1 + (1 + suc n)) + (0 + 0) ≡ n + 4 = omega arith in
    ap (λ (m : ℕ). whole (turns m index 0 (pos 0))) more
    ∙ ap whole (index_turns n 0 (pos 0))
    ∙ (λ j. counted (Ok (pos (value j) ∷ [])) (cost j))
