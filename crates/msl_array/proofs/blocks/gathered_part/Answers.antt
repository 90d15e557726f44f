use Rattle.std.proofs.Common.{rules, ◌≡◌, ◌+◌, ◌*◌, ◌≤◌, ℕ, ℤ, pos, unsigned_abs, List, length, take, slice_index_or, sym, subst, ap, ◌∙◌, FitsSigned, w64, of_z, to_z, take_all}
use Rattle.std.proofs.lemmas.Int.{to_z-of_z}
use Rattle.msl_lists.specs.Whole.{at}
use Rattle.msl_local.specs.Parts.{flat}
use Rattle.msl_array.specs.Moves.{IsGathered}
use Rattle.msl_array.proofs.Gathered.{gathered_none, gathered_more}
use Rattle.msl_array.proofs.blocks.gathered_part.Goals as goal

-- the number that is read
module _ (c : goal.After-block_at-arg-1) where
  abbrev number : ℤ
  number = slice_index_or c.args.numbers.now c.loop-j.j-index (pos 0)

  kept : to_z w64 (of_z w64 number) ≡ number
  kept = let fit : FitsSigned w64 (slice_index_or c.args.numbers.now c.loop-j.j-index (pos 0)) = search rules in to_z-of_z w64 number fit

  names : (j : ℕ) × (j * c.args.size + c.args.size ≤ length (flat c.args.parts.now)) × (number ≡ pos j)
  names = c.requires.numbers c.loop-j.j-index c.loop-j-test.true

pub loop-j-init : goal.loop-j-init
loop-j-init c = subst (λ (xs : List ℤ). IsGathered c.args.size (take 0 c.args.numbers.now) (flat c.args.parts.now) xs) (sym (c.in_ok-part.ensures.items)) (gathered_none c.args.size (flat c.args.parts.now))

pub overflow_cast-j : goal.overflow_cast-j
overflow_cast-j c = let e : to_z w64 (of_z w64 (slice_index_or c.args.numbers.now c.loop-j.j-index (pos 0))) ≡ pos (names c).0 = kept c ∙ (names c).2 in let fit : FitsSigned w64 (slice_index_or c.args.numbers.now c.loop-j.j-index (pos 0)) = search rules in search rules

pub block_at-requires-clause-within : goal.block_at-requires-clause-within
block_at-requires-clause-within c =
    let j = (names c).0 in
    let e : to_z w64 (of_z w64 (slice_index_or c.args.numbers.now c.loop-j.j-index (pos 0))) ≡ pos j = kept c ∙ (names c).2 in
    let same : unsigned_abs (to_z w64 (of_z w64 (slice_index_or c.args.numbers.now c.loop-j.j-index (pos 0)))) ≡ j = ap unsigned_abs e in
    subst (λ n. n * c.args.size + c.args.size ≤ length (flat c.args.parts.now)) (sym same) (names c).1

pub loop-j-preserved : goal.loop-j-preserved
loop-j-preserved c =
    let j = (named c).0 in
    let same : unsigned_abs (to_z w64 (of_z w64 (slice_index_or c.args.numbers.now c.loop-j.j-index (pos 0)))) ≡ j = ap unsigned_abs (held c ∙ (named c).2) in
    subst (λ (xs : List ℤ). IsGathered c.args.size (take (c.loop-j.j-index + 1) c.args.numbers.now) (flat c.args.parts.now) xs) (sym c.in_ok-extend_from_slice.ensures.items)
    (gathered_more c.args.size (flat c.args.parts.now) c.args.numbers.now c.loop-j.part.items c.block_at.result.now c.loop-j.j-index j c.loop-j-test.true (named c).2 c.block_at.ensures.long
    (λ t lt. c.block_at.ensures.block t lt ∙ ap (λ n. at (flat c.args.parts.now) (n * c.args.size + t)) same) c.loop-j.invariant)
  where
    named : (c : goal.In_ok-extend_from_slice) → (j : ℕ) × (j * c.args.size + c.args.size ≤ length (flat c.args.parts.now)) × (slice_index_or c.args.numbers.now c.loop-j.j-index (pos 0) ≡ pos j)
    named c = c.requires.numbers c.loop-j.j-index c.loop-j-test.true

    held : (c : goal.In_ok-extend_from_slice) → to_z w64 (of_z w64 (slice_index_or c.args.numbers.now c.loop-j.j-index (pos 0))) ≡ slice_index_or c.args.numbers.now c.loop-j.j-index (pos 0)
    held c = let fit : FitsSigned w64 (slice_index_or c.args.numbers.now c.loop-j.j-index (pos 0)) = search rules in to_z-of_z w64 (slice_index_or c.args.numbers.now c.loop-j.j-index (pos 0)) fit

pub returns : goal.returns
returns c = subst (λ (xs : List ℤ). IsGathered c.args.size xs (flat c.args.parts.now) c.loop-j.part.items) (take_all c.loop-j.j-index c.args.numbers.now c.loop-j-test.false) c.loop-j.invariant
