use Rattle.std.proofs.Common.{rules, ◌≡◌, ◌<◌, ◌+◌, ℕ, ℤ, pos, unsigned_abs, length, set, slice_index_or, refl, sym, subst, ap, ◌∙◌, arith, FitsSigned, w64, of_z, to_z}
use Rattle.std.proofs.lemmas.Int.{to_z-of_z}
use Rattle.msl_lists.specs.Whole.{at}
use Rattle.msl_array.specs.Moves.{ArePut}
use Rattle.msl_array.proofs.Moved.{put_none, put_more, to_inside}
use Rattle.msl_array.proofs.targets.put_part.Goals as goal

-- the target that is read, and its place
module _ (c : goal.After-t12-1) where
  abbrev target : ℤ
  target = to_z w64 (of_z w64 (slice_index_or c.args.targets.now c.loop-i.i (pos 0)))

  kept : target ≡ at c.args.targets.now c.loop-i.i
  kept = let fit : FitsSigned w64 (slice_index_or c.args.targets.now c.loop-i.i (pos 0)) = search rules in to_z-of_z w64 (slice_index_or c.args.targets.now c.loop-i.i (pos 0)) fit

  number : to_z w64 (of_z w64 (slice_index_or c.args.xs.now c.loop-i.i (pos 0))) ≡ at c.args.xs.now c.loop-i.i
  number = let fit : FitsSigned w64 (slice_index_or c.args.xs.now c.loop-i.i (pos 0)) = search rules in to_z-of_z w64 (slice_index_or c.args.xs.now c.loop-i.i (pos 0)) fit

  inside : c.loop-i.i < length c.args.targets.now
  inside = omega (arith, c.loop-i-test.true, c.requires.long)

  place : (to : ℕ) × (to < length c.args.all.now) × (at c.args.targets.now c.loop-i.i ≡ pos to)
  place = c.requires.places.within c.loop-i.i inside

  is_place : unsigned_abs target ≡ place.0
  is_place = ap unsigned_abs (kept ∙ place.2)

  below : unsigned_abs target < length c.loop-i.all
  below = omega (arith, is_place, to_inside c.args.all.now c.args.targets.now c.args.xs.now c.loop-i.all c.loop-i.i place.0 (at c.args.xs.now c.loop-i.i) c.requires.places inside place.2 refl c.loop-i.invariant)

pub loop-i-init : goal.loop-i-init
loop-i-init c = put_none c.args.all.now c.args.targets.now c.args.xs.now

pub overflow_cast-targets : goal.overflow_cast-targets
overflow_cast-targets c =
    let e : to_z w64 (of_z w64 (slice_index_or c.args.targets.now c.loop-i.i (pos 0))) ≡ pos (place c).0 = kept c ∙ (place c).2 in
    let fit : FitsSigned w64 (slice_index_or c.args.targets.now c.loop-i.i (pos 0)) = search rules in
    search rules

pub offset_bounds-all-targets : goal.offset_bounds-all-targets
offset_bounds-all-targets c = record { fits = omega (arith, below c, c.loop-i.invariant.long, c.requires.few) }

pub bounds-all-targets : goal.bounds-all-targets
bounds-all-targets c = below c

pub loop-i-preserved : goal.loop-i-preserved
loop-i-preserved c =
    let put = put_more c.args.all.now c.args.targets.now c.args.xs.now c.loop-i.all c.loop-i.i (place c).0 (to_z w64 (of_z w64 (slice_index_or c.args.xs.now c.loop-i.i (pos 0)))) c.requires.places (inside c) (place c).2 (number c) c.loop-i.invariant in
    subst (λ k. ArePut c.args.all.now c.args.targets.now c.args.xs.now (c.loop-i.i + 1) (set c.loop-i.all k (to_z w64 (of_z w64 (slice_index_or c.args.xs.now c.loop-i.i (pos 0)))))) (sym (is_place c)) put

pub returns : goal.returns
returns c =
    let last : c.loop-i.i ≡ length c.args.xs.now = omega (arith, c.loop-i.auto.i-end, c.loop-i-test.false) in
    subst (λ n. ArePut c.args.all.now c.args.targets.now c.args.xs.now n c.loop-i.all) last c.loop-i.invariant
