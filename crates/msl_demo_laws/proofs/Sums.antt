-- What `tot` makes of three numbers.
use Rattle.std.proofs.Common.{arith, ◌≡◌, ℕ, ℤ, pos, negsuc, ◌+ℤ◌, [], ◌∷◌, Result, Ok, Err, ap, ◌∙◌, true, ◌&&◌}
use Rattle.std.proofs.lemmas.Bool.{cond-true, le-leb}
use Rattle.std.proofs.lemmas.Int.{ints}
use Rattle.std.specs.Int.{w64}
use Rattle.std.specs.Prelude.{FitsSigned}
use Rattle.msl_base.specs.declared.fault.Fault.{Fault}
use Rattle.msl_base.specs.declared.fault.Fault.TheVariants.{Overflow}
use Rattle.msl_base.specs.Streams.{Record, Outcome}
use Rattle.msl_ops.specs.Meaning.{settle, is_i64}
use Rattle.msl_lists.specs.Whole.{◌>>=◌, collect}
use Rattle.msl_program.specs.Data.{list, elements, value_of, with_elements, extended, data_outcome}
use Rattle.msl_demo_laws.specs.Script.{mix, tot}

settle_is : (stage : ℕ) (z : ℤ) → FitsSigned w64 z → settle stage z ≡ Ok z
settle_is stage (pos n) f = cond-true (is_i64 (pos n)) (Ok (pos n)) (Err (Overflow stage)) (le-leb n 9223372036854775807 (omega (arith, f.sfits)))
settle_is stage (negsuc n) f = cond-true (is_i64 (negsuc n)) (Ok (negsuc n)) (Err (Overflow stage)) (ap (λ b. b && true) (le-leb n 9223372036854775807 (omega (arith, f.sfits))))

-- by the outcomes of the three sums
abbrev by_sums : Record → Result ℤ Fault → Result ℤ Fault → Result ℤ Fault → Outcome
by_sums x r s t =
    ((collect (r ∷ s ∷ t ∷ []) >>= λ a. Ok (with_elements (list 2 x) a)) >>= λ v. extended (mix ∷ []) 2 x (list 2 x ∷ v ∷ []) []) >>= λ u. Ok (elements (value_of u 1))

-- the running sums
abbrev pub summed : Record → Record
summed (x ∷ y ∷ z ∷ []) = x ∷ (x +ℤ y) ∷ ((x +ℤ y) +ℤ z) ∷ []
summed _ = []

pub tot_gives : (x y z : ℤ) → FitsSigned w64 x → FitsSigned w64 (x +ℤ y) → FitsSigned w64 ((x +ℤ y) +ℤ z) → data_outcome (mix ∷ []) tot 2 (x ∷ y ∷ z ∷ []) ≡ Ok (summed (x ∷ y ∷ z ∷ []))
tot_gives x y z f g h =
    let r = x ∷ y ∷ z ∷ [] in
    let first : pos 0 +ℤ x ≡ x = omega (arith, ints) in
    ap (λ (u : ℤ). by_sums r (settle 2 u) (settle 2 (u +ℤ y)) (settle 2 ((u +ℤ y) +ℤ z))) first
    ∙ ap (λ o. by_sums r o (settle 2 (x +ℤ y)) (settle 2 ((x +ℤ y) +ℤ z))) (settle_is 2 x f)
    ∙ ap (λ o. by_sums r (Ok x) o (settle 2 ((x +ℤ y) +ℤ z))) (settle_is 2 (x +ℤ y) g)
    ∙ ap (by_sums r (Ok x) (Ok (x +ℤ y))) (settle_is 2 ((x +ℤ y) +ℤ z) h)
