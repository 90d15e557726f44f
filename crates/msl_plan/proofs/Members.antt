-- Teams that are laid lie side by side, and a member is in one of them.
use Rattle.std.proofs.Common.{◌≡◌, ◌<◌, ◌≤◌, ℕ, ◌+◌, List, [], ◌∷◌, Bool, true, false, cond, ◌&&◌, nat_le, nat_lt, ap, ◌∙◌, subst, refl, arith, inl, inr}
use Rattle.std.specs.List.{count_by, sum_by, AllByRecursion}
use Rattle.std.proofs.lemmas.Bool.{lt-ltb, le-ltb, le-leb, lt-leb}
use Rattle.std.proofs.lemmas.List.Sums.{sum_by-cons}
use Rattle.std.proofs.Math.Bool.{and-false}
use Rattle.std.proofs.lemmas.Bool.{cases_lt}
use Rattle.msl_program.specs.Need.{need}
use Rattle.msl_program.specs.Script.{Script}
use Rattle.msl_plan.specs.Plans.{Place, places_of, laid, plan_of}
use Rattle.msl_plan.specs.Planning.{members_in}
use Rattle.msl_plan.specs.PlanLaws.{Adjoin, HasAllMembers, has, AreInOneTeam}
use Rattle.msl_plan.specs.declared.team.Team.{Team}
use Rattle.msl_plan.proofs.Places.{members_are_needed}

-- ---- counts

pub count-yes : {X : Type 0} (p : X → Bool) (x : X) (xs : List X) → p x ≡ true → count_by p (x ∷ xs) ≡ 1 + count_by p xs
count-yes p x xs h = sum_by-cons (λ y. cond (p y) 1 0) x xs ∙ ap (λ (b : Bool). cond b 1 0 + count_by p xs) h

pub count-no : {X : Type 0} (p : X → Bool) (x : X) (xs : List X) → p x ≡ false → count_by p (x ∷ xs) ≡ count_by p xs
count-no p x xs h =
    let none : 0 + count_by p xs ≡ count_by p xs = omega arith in
    sum_by-cons (λ y. cond (p y) 1 0) x xs ∙ ap (λ (b : Bool). cond b 1 0 + count_by p xs) h ∙ none

-- ---- side by side

pub laid_adjoin : (first : ℕ) (ps : List Place) → AllByRecursion (λ p. 1 ≤ p.count) ps → Adjoin first (laid first ps) (first + members_in ps)
laid_adjoin first [] h = omega arith
laid_adjoin first (p ∷ ps) h =
    let same : first + p.count + members_in ps ≡ first + (p.count + members_in ps) = omega arith in
    (refl, h.0, subst (Adjoin (first + p.count) (laid (first + p.count) ps)) same (laid_adjoin (first + p.count) ps h.1))

pub plan_adjoins : (s : Script) → AllByRecursion (λ p. 1 ≤ p.count) (places_of 1 s.main) → Adjoin 1 (plan_of s) (need s)
plan_adjoins s h = subst (Adjoin 1 (plan_of s)) (ap (λ (n : ℕ). 1 + n) (members_are_needed 1 s.main)) (laid_adjoin 1 (places_of 1 s.main) h)

laid_sum : (first : ℕ) (ps : List Place) → sum_by (λ (t : Team). t.count) (laid first ps) ≡ members_in ps
laid_sum first [] = refl
laid_sum first (p ∷ ps) =
    sum_by-cons (λ (t : Team). t.count) (record { stage = p.stage; first = first; count = p.count }) (laid (first + p.count) ps) ∙ ap (λ (n : ℕ). p.count + n) (laid_sum (first + p.count) ps)

pub all_members : (s : Script) → HasAllMembers s
all_members s = ap (λ (n : ℕ). 1 + n) (laid_sum 1 (places_of 1 s.main) ∙ members_are_needed 1 s.main)

-- ---- a member

has_none_below : (m : ℕ) (t : Team) → m < t.first → has m t ≡ false
has_none_below m t h = ap (λ b. b && nat_lt m (t.first + t.count)) (lt-leb t.first m h)

has_none_above : (m : ℕ) (t : Team) → t.first + t.count ≤ m → has m t ≡ false
has_none_above m t h = ap (λ b. nat_le t.first m && b) (le-ltb m (t.first + t.count) h) ∙ and-false (nat_le t.first m)

has_within : (m : ℕ) (t : Team) → t.first ≤ m → m < t.first + t.count → has m t ≡ true
has_within m t h g = λ i. le-leb t.first m h i && lt-ltb m (t.first + t.count) g i

none_below : (m first : ℕ) (ts : List Team) (end : ℕ) → Adjoin first ts end → m < first → count_by (has m) ts ≡ 0
none_below m first [] end h lt = refl
none_below m first (t ∷ ts) end h lt =
    count-no (has m) t ts (has_none_below m t (omega (arith, h.0))) ∙ none_below m (first + t.count) ts end h.2 (omega arith)

none_above : (m first : ℕ) (ts : List Team) (end : ℕ) → Adjoin first ts end → end ≤ m → count_by (has m) ts ≡ 0
none_above m first [] end h le = refl
none_above m first (t ∷ ts) end h le =
    count-no (has m) t ts (has_none_above m t (omega (arith, h.0, ends (first + t.count) ts end h.2))) ∙ none_above m (first + t.count) ts end h.2 le
  where
    ends : (first : ℕ) (ts : List Team) (end : ℕ) → Adjoin first ts end → first ≤ end
    ends first [] end h = omega (arith, h)
    ends first (t ∷ ts) end h = omega (arith, ends (first + t.count) ts end h.2)

one_within : (m first : ℕ) (ts : List Team) (end : ℕ) → Adjoin first ts end → first ≤ m → m < end → count_by (has m) ts ≡ 1
one_within m first [] end h le lt = absurd (omega (arith, h))
one_within m first (t ∷ ts) end h le lt =
    elim (cases_lt m (first + t.count)) [
      | inl below ↦ count-yes (has m) t ts (has_within m t (omega (arith, h.0)) (omega (arith, h.0))) ∙ ap (λ (n : ℕ). 1 + n) (none_below m (first + t.count) ts end h.2 below)
      | inr above ↦ count-no (has m) t ts (has_none_above m t (omega (arith, h.0))) ∙ one_within m (first + t.count) ts end h.2 above lt
    ]

pub in_one_team : (ts : List Team) (end : ℕ) → Adjoin 1 ts end → AreInOneTeam ts end
in_one_team ts end h = record {
  one = λ m le lt. one_within m 1 ts end h le lt;
  first = none_below 0 1 ts end h (omega arith);
  others = λ m le. none_above m 1 ts end h le;
}
