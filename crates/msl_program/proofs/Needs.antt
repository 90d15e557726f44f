-- How many processes the parts of a stage need, by the variants of the code, and that those of a script's stage are few.
use Rattle.std.proofs.Common.{◌≡◌, ◌≤◌, ℕ, suc, ◌+◌, ◌*◌, ◌^◌, max, List, ◌∷◌, length, drop, refl, ap, sym, ◌∙◌, subst, arith, add-one, ◌<◌, get_or}
use Rattle.std.proofs.lemmas.Nat.{mul-le}
use Rattle.std.proofs.lemmas.Grind.{pow_more}
use Rattle.std.proofs.Math.Nat.{le_refl, one-le-pow, pow-le-pow_right, mul_assoc, mul_comm, mul-add}
use Rattle.std.proofs.Math.Seq.{drop-cons}
use Rattle.std.proofs.Math.ListN.{drop_of_length-le}
use Rattle.msl_program.specs.declared.stage.Stage.{Stage, Row_of-Stage, end_of-Stage, more_of-Stage}
use Rattle.msl_program.specs.declared.stage.Stage.TheVariants.{Atomic, Filter, Data, DivCon, Bnb, Farm, Pipe, Pipe'}
use Rattle.msl_program.specs.Stages.{farm, row, primitives_of, primitives_in}
use Rattle.msl_program.specs.ScriptPromise.{IsSized, AreSized, IsMain, height, greatest_height}
use Rattle.msl_program.specs.Need.{need_of, need_of_all}
use Rattle.msl_program.proofs.StageShapes.{farm_is, pipe_is}

-- ---- parts

pub need-farm : (n : ℕ) (st : Stage) → need_of (Farm n st) ≡ n * need_of st
need-farm n st = ap need_of (farm_is n st)

pub sized-farm : (n : ℕ) (st : Stage) → IsSized (Farm n st) → (1 ≤ n) × IsSized st
sized-farm n st h = let g = subst IsSized (farm_is n st) h in (g.0.0, g.1)

pub height-farm : (n : ℕ) (st : Stage) → height (Farm n st) ≡ suc (height st)
height-farm n st = ap height (farm_is n st)

pub need-pipe : (sts : List Stage) → need_of (Pipe sts) ≡ need_of_all (row sts)
need-pipe sts = ap need_of (pipe_is sts)

pub sized-pipe : (sts : List Stage) → IsSized (Pipe sts) → AreSized (row sts)
sized-pipe sts h = (subst IsSized (pipe_is sts) h).1

pub height-pipe : (sts : List Stage) → height (Pipe sts) ≡ suc (greatest_height (row sts))
height-pipe sts = ap height (pipe_is sts)

pub part_of_farm : (n : ℕ) (st : Stage) → 1 ≤ n → need_of st ≤ need_of (Farm n st)
part_of_farm n st h = omega (arith, need-farm n st, mul-le 1 (need_of st) n (need_of st) h (le_refl (need_of st)))

-- the next stage of a pipe, and those behind it
pub next : (sts : List Stage) (k : ℕ) (st : Stage) → k < length sts → st ≡ get_or sts k st → drop k sts ≡ st ∷ drop (k + 1) sts
next sts k st h is = rw (add-one) (drop-cons sts k st h ∙ ap (λ (s : Stage). s ∷ drop (suc k) sts) (sym is))

pub none_left : (sts : List Stage) (k : ℕ) → length sts ≤ k → need_of_all (row (drop k sts)) ≡ 0
none_left sts k h = ap (λ (ss : List Stage). need_of_all (row ss)) (drop_of_length-le sts h)

-- ---- few

-- 64 members wherever a number of them is said
unfoldable most : ℕ → ℕ
most h = 64 ^ suc h

most-suc : (h : ℕ) → most (suc h) ≡ 64 * most h
unfolding most
most-suc h = rw (add-one) at (pow_more 64 (suc h)) ∙ mul_comm (64 ^ suc h) 64

one-most : (h : ℕ) → 64 ≤ most h
unfolding most
one-most h =
    let more : 64 ^ suc h ≡ 64 ^ h * 64 = rw (add-one) at (pow_more 64 h) in
    let one = one-le-pow h 64 (omega arith) in
    omega (arith, more, one)

most-le : (h i : ℕ) → h ≤ i → most h ≤ most i
unfolding most
most-le h i le = pow-le-pow_right (omega arith) (omega arith)

most-4 : most 4 ≡ 1073741824
unfolding most
most-4 = refl

-- a higher bound is one too
fewer : (need h i p : ℕ) → h ≤ i → need ≤ most h * p → need ≤ most i * p
fewer need h i p le few = omega (arith, few, mul-le (most h) p (most i) p (most-le h i le) (le_refl p))

farm_few : (n need h p : ℕ) → n ≤ 64 → need ≤ most h * p → n * need ≤ most (suc h) * p
farm_few n need h p le few =
    let each : n * need ≤ 64 * (most h * p) = mul-le n need 64 (most h * p) le few in
    let same : most (suc h) * p ≡ 64 * (most h * p) = ap (λ (m : ℕ). m * p) (most-suc h) ∙ mul_assoc 64 (most h) p in
    omega (arith, each, same)

mutual
  few_of : (st : Stage) → IsSized st → need_of st ≤ most (height st) * primitives_of st
  few_of (Atomic f) h = omega (arith, one-most 0)
  few_of (Filter i) h = omega (arith, one-most 0)
  few_of (Data i on) h = omega (arith, one-most 0, h.1)
  few_of (DivCon i on) h = omega (arith, one-most 0, h.1)
  few_of (Bnb i on) h = omega (arith, one-most 0, h.1)
  few_of (farm n st) h = farm_few n (need_of st) (height st) (primitives_of st) h.0.1 (few_of st h.1)
  few_of (Pipe' _ sts) h = fewer (need_of_all sts) (greatest_height sts) (suc (greatest_height sts)) (primitives_in sts) (omega arith) (few_of_all sts h.1)

  few_of_all : {n : _} (sts : Row_of-Stage n) → AreSized sts → need_of_all sts ≤ most (greatest_height sts) * primitives_in sts
  few_of_all end_of-Stage h = omega arith
  few_of_all (more_of-Stage st sts) h =
      let m = max (height st) (greatest_height sts) in
      let first = fewer (need_of st) (height st) m (primitives_of st) (omega arith) (few_of st h.0) in
      let others = fewer (need_of_all sts) (greatest_height sts) m (primitives_in sts) (omega arith) (few_of_all sts h.1) in
      omega (arith, mul-add (most m) (primitives_of st) (primitives_in sts), first, others)

pub few : (st : Stage) → IsMain st → need_of st ≤ 2 ^ 36
few st h = omega (arith, few_of st h.sized, mul-le (most (height st)) (primitives_of st) (most 4) 64 (most-le (height st) 4 h.low) h.few_primitives, most-4)
