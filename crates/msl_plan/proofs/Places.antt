-- Places and teams by the parts of a stage, by the variants of the code.
use Rattle.std.proofs.Common.{◌≡◌, ◌<◌, ◌≤◌, ◌-◌, ℕ, zero, suc, ◌+◌, ◌*◌, List, [], ◌∷◌, ◌++◌, length, drop, refl, ap, sym, ◌∙◌, append_assoc, append-nil, arith}
use Rattle.std.proofs.Math.ListN.{drop_of_length-le}
use Rattle.msl_program.specs.declared.stage.Stage.{Stage, Row_of-Stage, end_of-Stage, more_of-Stage}
use Rattle.msl_program.specs.declared.stage.Stage.TheVariants.{Atomic, Filter, Data, DivCon, Bnb, Farm, Pipe, Pipe'}
use Rattle.msl_program.specs.Stages.{farm, row, primitives_of, primitives_in}
use Rattle.msl_program.specs.Need.{need_of, need_of_all}
use Rattle.msl_program.proofs.StageShapes.{farm_is, pipe_is}
use Rattle.msl_plan.specs.Plans.{Place, repeated, places_of, places_in, laid}
use Rattle.msl_plan.specs.Planning.{members_in, with_places}
use Rattle.msl_plan.specs.declared.planner.Planner.{Planner}

-- ---- parts

pub places-farm : (k n : ℕ) (st : Stage) → places_of k (Farm n st) ≡ repeated n (places_of k st)
places-farm k n st = ap (places_of k) (farm_is n st)

pub places-pipe : (k : ℕ) (sts : List Stage) → places_of k (Pipe sts) ≡ places_in k (row sts)
places-pipe k sts = ap (places_of k) (pipe_is sts)

pub primitives-farm : (n : ℕ) (st : Stage) → primitives_of (Farm n st) ≡ primitives_of st
primitives-farm n st = ap primitives_of (farm_is n st)

pub primitives-pipe : (sts : List Stage) → primitives_of (Pipe sts) ≡ primitives_in (row sts)
primitives-pipe sts = ap primitives_of (pipe_is sts)

pub none_left : (k : ℕ) (sts : List Stage) (i : ℕ) → length sts ≤ i → places_in k (row (drop i sts)) ≡ []
none_left k sts i h = ap (λ (ss : List Stage). places_in k (row ss)) (drop_of_length-le sts h)

pub no_primitives_left : (sts : List Stage) (i : ℕ) → length sts ≤ i → primitives_in (row (drop i sts)) ≡ 0
no_primitives_left sts i h = ap (λ (ss : List Stage). primitives_in (row ss)) (drop_of_length-le sts h)

-- ---- members

pub members-append : (a b : List Place) → members_in (a ++ b) ≡ members_in a + members_in b
members-append [] b = omega arith
members-append (p ∷ a) b = omega (arith, members-append a b)

pub members-repeated : (n : ℕ) (ps : List Place) → members_in (repeated n ps) ≡ n * members_in ps
members-repeated zero ps = omega arith
members-repeated (suc n) ps = omega (arith, members-append ps (repeated n ps), members-repeated n ps)

mutual
  -- a stage has as many members as it needs
  pub members_are_needed : (k : ℕ) (st : Stage) → members_in (places_of k st) ≡ need_of st
  members_are_needed k (Atomic f) = omega arith
  members_are_needed k (Filter i) = omega arith
  members_are_needed k (Data i on) = omega arith
  members_are_needed k (DivCon i on) = omega arith
  members_are_needed k (Bnb i on) = omega arith
  members_are_needed k (farm n st) = members-repeated n (places_of k st) ∙ ap (λ (m : ℕ). n * m) (members_are_needed k st)
  members_are_needed k (Pipe' _ sts) = all_members_are_needed k sts

  all_members_are_needed : {n : _} (k : ℕ) (sts : Row_of-Stage n) → members_in (places_in k sts) ≡ need_of_all sts
  all_members_are_needed k end_of-Stage = refl
  all_members_are_needed k (more_of-Stage st sts) =
      omega (arith, members-append (places_of k st) (places_in (k + primitives_of st) sts), members_are_needed k st, all_members_are_needed (k + primitives_of st) sts)

-- ---- teams

pub laid-append : (first : ℕ) (a b : List Place) → laid first (a ++ b) ≡ laid first a ++ laid (first + members_in a) b
laid-append first [] b = ap (λ (m : ℕ). laid m b) (omega arith)
laid-append first (p ∷ a) b =
    let same : first + p.count + members_in a ≡ first + (p.count + members_in a) = omega arith in
    ap (λ ts. record { stage = p.stage; first = first; count = p.count } ∷ ts) (laid-append (first + p.count) a b ∙ ap (λ (m : ℕ). laid (first + p.count) a ++ laid m b) same)

pub with-none : (t : Planner) → with_places t [] ≡ t
with-none t = λ i. record { teams = append-nil t.teams i; next = (let same : t.next + 0 ≡ t.next = omega arith in same) i }

-- places one behind the other
pub with-append : (t : Planner) (a b : List Place) → with_places t (a ++ b) ≡ with_places (with_places t a) b
with-append t a b =
    let teams = ap (λ ts. t.teams ++ ts) (laid-append t.next a b) ∙ sym (append_assoc t.teams (laid t.next a) (laid (t.next + members_in a) b)) in
    let next : t.next + members_in (a ++ b) ≡ t.next + members_in a + members_in b = omega (arith, members-append a b) in
    λ i. record { teams = teams i; next = next i }

-- ---- steps

-- more places behind those of a step
pub moved : (t u : Planner) (ps rest all : List Place) → u ≡ with_places t ps → all ≡ ps ++ rest → with_places u rest ≡ with_places t all
moved t u ps rest all step is = ap (λ v. with_places v rest) step ∙ sym (with-append t ps rest) ∙ ap (with_places t) (sym is)

-- all is done where no places are left
pub done : (t : Planner) (rest : List Place) → rest ≡ [] → t ≡ with_places t rest
done t rest none = sym (with-none t) ∙ ap (with_places t) (sym none)

-- there is room for the next places where there is for all
pub room : (t u : Planner) (ps rest left all : List Place) → left ≡ ps ++ rest → with_places t left ≡ with_places u all → t.next + members_in ps ≤ u.next + members_in all
room t u ps rest left all is same =
    omega (arith, ap members_in is, members-append ps rest, ap (λ (v : Planner). v.next) same)

pub one_worker : (n i : ℕ) (ps : List Place) → i < n → repeated (n - i) ps ≡ ps ++ repeated (n - (i + 1)) ps
one_worker n i ps h = let is : n - i ≡ suc (n - (i + 1)) = omega arith in ap (λ m. repeated m ps) is

pub first_worker : (n : ℕ) (ps : List Place) → 1 ≤ n → repeated n ps ≡ ps ++ repeated (n - 1) ps
first_worker n ps h = let is : n ≡ suc (n - 1) = omega arith in ap (λ m. repeated m ps) is

pub no_worker : (n i : ℕ) (ps : List Place) → n ≤ i → repeated (n - i) ps ≡ []
no_worker n i ps h = let is : n - i ≡ 0 = omega arith in ap (λ m. repeated m ps) is
