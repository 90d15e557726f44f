-- The numbers of the stages in a plan, and that each has members.
use Rattle.std.proofs.Common.{◌≡◌, ◌<◌, ◌≤◌, ℕ, zero, suc, ◌+◌, ◌==◌, List, [], ◌∷◌, ◌++◌, Bool, cond, ap, sym, ◌∙◌, subst, refl, arith, inl, inr}
use Rattle.std.specs.List.{count_by, AllByRecursion}
use Rattle.std.proofs.lemmas.Bool.{eq-eqb}
use Rattle.std.proofs.lemmas.List.Elements.{All-from_recursion}
use Rattle.std.proofs.lemmas.List.Sums.{sum_by-cons, sum_by-append}
use Rattle.std.proofs.lemmas.Bool.{cases_lt}
use Rattle.msl_program.specs.declared.stage.Stage.{Stage, Row_of-Stage, end_of-Stage, more_of-Stage}
use Rattle.msl_program.specs.declared.stage.Stage.TheVariants.{Atomic, Filter, Data, DivCon, Bnb, Pipe'}
use Rattle.msl_program.specs.ProgramPromise.{IsBetween}
use Rattle.msl_program.specs.Script.{Script}
use Rattle.msl_program.specs.ScriptPromise.{IsSized, AreSized}
use Rattle.msl_program.specs.Stages.{farm, primitives_of, primitives_in}
use Rattle.msl_plan.specs.Plans.{Place, place, repeated, places_of, places_in, laid, plan_of}
use Rattle.msl_plan.specs.PlanLaws.{is_of, AreOfStages}
use Rattle.msl_plan.specs.declared.team.Team.{Team}
use Rattle.msl_plan.proofs.Members.{count-yes}

-- ---- lists of places

all-append : {X : Type 0} (P : X → Type 0) (a b : List X) → AllByRecursion P a → AllByRecursion P b → AllByRecursion P (a ++ b)
all-append P [] b h g = g
all-append P (x ∷ a) b h g = (h.0, all-append P a b h.1 g)

all-weaker : {X : Type 0} (P Q : X → Type 0) → ((x : X) → P x → Q x) → (xs : List X) → AllByRecursion P xs → AllByRecursion Q xs
all-weaker P Q f [] h = tt
all-weaker P Q f (x ∷ xs) h = (f x h.0, all-weaker P Q f xs h.1)

all-repeated : (P : Place → Type 0) (n : ℕ) (ps : List Place) → AllByRecursion P ps → AllByRecursion P (repeated n ps)
all-repeated P zero ps h = tt
all-repeated P (suc n) ps h = all-append P ps (repeated n ps) h (all-repeated P n ps h)

-- ---- members and numbers of places

pub record IsPlaced (low end : ℕ) (p : Place) : Type 0 where
  pub from : low ≤ p.stage
  pub within : p.stage < end
  pub filled : 1 ≤ p.count

abbrev ArePlaced : ℕ → ℕ → List Place → Type 0
ArePlaced low end = AllByRecursion (IsPlaced low end)

wider : (low end low' end' : ℕ) → low' ≤ low → end ≤ end' → (ps : List Place) → ArePlaced low end ps → ArePlaced low' end' ps
wider low end low' end' h g = all-weaker (IsPlaced low end) (IsPlaced low' end') (λ p is. record { from = omega (arith, is.from); within = omega (arith, is.within); filled = is.filled })

one_placed : (k n : ℕ) → 1 ≤ n → ArePlaced k (k + 1) (place k n ∷ [])
one_placed k n h = (record { from = omega arith; within = omega arith; filled = h }, tt)

mutual
  pub are_placed : (k : ℕ) (st : Stage) → IsSized st → ArePlaced k (k + primitives_of st) (places_of k st)
  are_placed k (Atomic f) h = one_placed k 1 (omega arith)
  are_placed k (Filter i) h = one_placed k 1 (omega arith)
  are_placed k (Data i on) h = one_placed k on h.0
  are_placed k (DivCon i on) h = one_placed k on h.0
  are_placed k (Bnb i on) h = one_placed k on h.0
  are_placed k (farm n st) h = all-repeated (IsPlaced k (k + primitives_of st)) n (places_of k st) (are_placed k st h.1)
  are_placed k (Pipe' _ sts) h = all_are_placed k sts h.1

  all_are_placed : {n : _} (k : ℕ) (sts : Row_of-Stage n) → AreSized sts → ArePlaced k (k + primitives_in sts) (places_in k sts)
  all_are_placed k end_of-Stage h = tt
  all_are_placed k (more_of-Stage st sts) h =
      let end = k + (primitives_of st + primitives_in sts) in
      let l = k + primitives_of st in
      all-append (IsPlaced k end) (places_of k st) (places_in l sts)
      (wider k l k end (omega arith) (omega arith) (places_of k st) (are_placed k st h.0))
      (wider l (l + primitives_in sts) k end (omega arith) (omega arith) (places_in l sts) (all_are_placed l sts h.1))

pub are_filled : (s : Script) → IsSized s.main → AllByRecursion (λ p. 1 ≤ p.count) (places_of 1 s.main)
are_filled s h = all-weaker (IsPlaced 1 (1 + primitives_of s.main)) (λ p. 1 ≤ p.count) (λ p is. is.filled) (places_of 1 s.main) (are_placed 1 s.main h)

-- ---- each number has a place

abbrev is_at : ℕ → Place → Bool
is_at k p = p.stage == k

abbrev at_of : ℕ → List Place → ℕ
at_of k = count_by (is_at k)

at-append : (k : ℕ) (a b : List Place) → at_of k (a ++ b) ≡ at_of k a + at_of k b
at-append k a b = sum_by-append (λ p. cond (is_at k p) 1 0) a b

one_at : (k j n : ℕ) → j ≤ k → k < j + 1 → 1 ≤ at_of k (place j n ∷ [])
one_at k j n h g = omega (arith, count-yes (is_at k) (place j n) [] (eq-eqb j k (omega arith)))

repeated_at : (k n : ℕ) (ps : List Place) → 1 ≤ n → 1 ≤ at_of k ps → 1 ≤ at_of k (repeated n ps)
repeated_at k zero ps h g = omega arith
repeated_at k (suc n) ps h g = omega (arith, at-append k ps (repeated n ps))

mutual
  stage_at : (k j : ℕ) (st : Stage) → IsSized st → j ≤ k → k < j + primitives_of st → 1 ≤ at_of k (places_of j st)
  stage_at k j (Atomic f) s h g = one_at k j 1 h g
  stage_at k j (Filter i) s h g = one_at k j 1 h g
  stage_at k j (Data i on) s h g = one_at k j on h g
  stage_at k j (DivCon i on) s h g = one_at k j on h g
  stage_at k j (Bnb i on) s h g = one_at k j on h g
  stage_at k j (farm n st) s h g = repeated_at k n (places_of j st) s.0.0 (stage_at k j st s.1 h g)
  stage_at k j (Pipe' _ sts) s h g = stages_at k j sts s.1 h g

  stages_at : {n : _} (k j : ℕ) (sts : Row_of-Stage n) → AreSized sts → j ≤ k → k < j + primitives_in sts → 1 ≤ at_of k (places_in j sts)
  stages_at k j end_of-Stage s h g = absurd (omega arith)
  stages_at k j (more_of-Stage st sts) s h g =
      let l = j + primitives_of st in
      let both = at-append k (places_of j st) (places_in l sts) in
      elim (cases_lt k l) [
        | inl here ↦ omega (arith, both, stage_at k j st s.0 h here)
        | inr behind ↦ omega (arith, both, stages_at k l sts s.1 behind (omega arith))
      ]

-- ---- the same of teams

laid_at : (k first : ℕ) (ps : List Place) → count_by (is_of k) (laid first ps) ≡ at_of k ps
laid_at k first [] = refl
laid_at k first (p ∷ ps) =
    let behind = first + p.count in
    sum_by-cons (λ t. cond (is_of k t) 1 0) (record { stage = p.stage; first = first; count = p.count }) (laid behind ps)
    ∙ ap (λ (n : ℕ). cond (is_at k p) 1 0 + n) (laid_at k behind ps)
    ∙ sym (sum_by-cons (λ q. cond (is_at k q) 1 0) p ps)

laid_numbers : (n first : ℕ) (ps : List Place) → ArePlaced 1 (1 + n) ps → AllByRecursion (λ (t : Team). IsBetween 1 n t.stage) (laid first ps)
laid_numbers n first [] h = tt
laid_numbers n first (p ∷ ps) h = ((h.0.from, omega (arith, h.0.within)), laid_numbers n (first + p.count) ps h.1)

pub of_stages : (s : Script) → IsSized s.main → AreOfStages (plan_of s) (primitives_of s.main)
of_stages s h = record {
  all = λ k is. subst (λ (n : ℕ). 1 ≤ n) (sym (laid_at k 1 (places_of 1 s.main))) (stage_at k 1 s.main h is.0 (omega (arith, is.1)));
  only = All-from_recursion (λ (t : Team). IsBetween 1 (primitives_of s.main) t.stage) (plan_of s) (laid_numbers (primitives_of s.main) 1 (places_of 1 s.main) (are_placed 1 s.main h));
}
