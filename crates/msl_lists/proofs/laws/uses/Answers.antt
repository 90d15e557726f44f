use Rattle.std.proofs.Common.{◌≡◌, ◌+◌, ◌++◌, ℕ, ℤ, List, Result, Ok, Err, MatchResult, Bool, true, false, nat_lt, refl, ap, arith}
use Rattle.msl_fun.specs.declared.fault.EvalFault.{EvalFault}
use Rattle.msl_fun.specs.declared.funs.Fun.{Fun}
use Rattle.msl_fun.specs.Meaning.{counted, after, give, limited, mean, Answers}
use Rattle.msl_lists.specs.Whole.{at, use_of}
use Rattle.msl_lists.proofs.laws.uses.Goals as goal

abbrev first_of : Result (List ℤ) EvalFault → ℕ → Result ℤ EvalFault
first_of o n = limited 0 (after o n (λ xs. give (at xs 0)))

first_is : (o : Result (List ℤ) EvalFault) (n : ℕ) (r : Result ℕ EvalFault) (out : List ℤ) (b : Bool) → nat_lt 10000000 (0 + n) ≡ b → Answers (counted o n) r out
    → MatchResult r (λ cost. first_of o n ≡ Ok (at out 0)) (λ e. first_of o n ≡ Err e)
first_is (Ok xs) n (Ok cost) out true e h = let wrong = rw e at h.0 in cc
first_is (Ok xs) n (Ok cost) out false e h =
    let same : n + 0 ≡ n = omega arith in
    let is = rw e at h.0 in
    let results : xs ≡ out = cc in rw (same, e) (ap (λ (ys : List ℤ). Ok (at ys 0)) results)
first_is (Err f) n (Ok cost) out true e h = let wrong = rw e at h.0 in cc
first_is (Err f) n (Ok cost) out false e h = let wrong = rw e at h.0 in cc
first_is (Ok xs) n (Err f) out true e h = let same : n + 0 ≡ n = omega arith in let is = rw e at h in rw (same, e) (cc)
first_is (Ok xs) n (Err f) out false e h = let wrong = rw e at h in cc
first_is (Err g) n (Err f) out true e h = let is = rw e at h in rw e (cc)
first_is (Err g) n (Err f) out false e h = let is = rw e at h in rw e (cc)

value_is : (funs : List Fun) (f : ℕ) (given args out : List ℤ) (r : Result ℕ EvalFault) → Answers (mean funs f (given ++ args)) r out → MatchResult r (λ cost. use_of funs f given args ≡ Ok (at out 0)) (λ e. use_of funs f given args ≡ Err e)
value_is funs f given args out r h = let m = mean funs f (given ++ args) in first_is m.outcome m.begun r out (nat_lt 10000000 (0 + m.begun)) refl h

pub returns : goal.returns
returns c = record { given = value_is; used = λ u. value_is u.f.funs.now u.f.at u.extra }
