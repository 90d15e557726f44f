use Rattle.std.proofs.Common.{◌≡◌, ◌<◌, ◌≤◌, ℤ, List, Err, arith}
use Rattle.std.proofs.lemmas.Bool.Decides.{nat_tests}
use Rattle.msl_fun.specs.declared.fault.EvalFault.TheVariants.{Steps}
use Rattle.msl_fun.specs.Meaning.{Counted, limited}
use Rattle.msl_muscle_laws.proofs.laws.limits.Goals as goal

within : (m : Counted (List ℤ)) → m.begun ≤ 10000000 → limited 0 m ≡ m.outcome
within m h = grind (arith, nat_tests)

above : (m : Counted (List ℤ)) → 10000000 < m.begun → limited 0 m ≡ Err Steps
above m h = grind (arith, nat_tests)

pub returns : goal.returns
returns c = record { within = within; above = above }
