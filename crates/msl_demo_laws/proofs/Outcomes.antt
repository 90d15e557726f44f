-- What `mix` makes of two numbers.
use Rattle.std.proofs.Common.{◌≡◌, ◌^◌, ℤ, pos, negsuc, ◌+ℤ◌, ◌-ℤ◌, ◌*ℤ◌, [], ◌∷◌, Result, Ok, Err, ap, ◌∙◌, ltb}
use Rattle.std.proofs.lemmas.Bool.{cond-true, lt-ltb}
use Rattle.std.specs.Int.{w64}
use Rattle.std.specs.Prelude.{FitsSigned}
use Rattle.msl_base.specs.Streams.{Record, Outcome}
use Rattle.msl_fun.specs.declared.fault.EvalFault.{EvalFault}
use Rattle.msl_fun.specs.declared.fault.EvalFault.TheVariants.{Overflow}
use Rattle.msl_fun.specs.Meaning.{checked, counted, give, limited, ◌>>=◌}
use Rattle.msl_lists.specs.Whole.{at_stage}
use Rattle.msl_program.specs.Calls.{atomic_outcome}
use Rattle.msl_demo_laws.specs.Script.{mix}

checked_is : (z : ℤ) → FitsSigned w64 z → checked z ≡ Ok z
checked_is (pos n) f = cond-true (ltb n (2 ^ 63)) (Ok (pos n)) (Err Overflow) (lt-ltb n (2 ^ 63) f.sfits)
checked_is (negsuc n) f = cond-true (ltb n (2 ^ 63)) (Ok (negsuc n)) (Err Overflow) (lt-ltb n (2 ^ 63) f.sfits)

-- by the outcomes of the three results, of which each begins three nodes
abbrev by_results : Result ℤ EvalFault → Result ℤ EvalFault → Result ℤ EvalFault → Outcome
by_results r s t =
    at_stage 1 (limited 0 (counted r 3 >>= λ u. (counted s 3 >>= λ v. (counted t 3 >>= λ w. give [] >>= λ xs. give (w ∷ xs)) >>= λ xs. give (v ∷ xs)) >>= λ xs. give (u ∷ xs)))

-- sum, product and difference
abbrev pub mixed : Record → Record
mixed (a ∷ b ∷ []) = (a +ℤ b) ∷ (a *ℤ b) ∷ (a -ℤ b) ∷ []
mixed _ = []

pub mix_gives : (a b : ℤ) → FitsSigned w64 (a +ℤ b) → FitsSigned w64 (a *ℤ b) → FitsSigned w64 (a -ℤ b) → atomic_outcome (mix ∷ []) 1 0 (a ∷ b ∷ []) ≡ Ok (mixed (a ∷ b ∷ []))
mix_gives a b f g h =
    ap (λ r. by_results r (checked (a *ℤ b)) (checked (a -ℤ b))) (checked_is (a +ℤ b) f)
    ∙ ap (λ s. by_results (Ok (a +ℤ b)) s (checked (a -ℤ b))) (checked_is (a *ℤ b) g)
    ∙ ap (by_results (Ok (a +ℤ b)) (Ok (a *ℤ b))) (checked_is (a -ℤ b) h)
