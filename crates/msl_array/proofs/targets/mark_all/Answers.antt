use Rattle.std.proofs.Common.{rules, ◌≡◌, ◌+◌, ◌++◌, ℤ, pos, false, List, length, take, drop, slice_index_or, sym, subst, ap, ◌∙◌, FitsSigned, w64, of_z, to_z, take_all}
use Rattle.std.proofs.lemmas.Int.{to_z-of_z}
use Rattle.std.proofs.lemmas.List.{append-nil}
use Rattle.msl_lists.specs.Whole.{is_bijection}
use Rattle.msl_array.specs.Moves.{AreMarked}
use Rattle.msl_array.proofs.Marks.{more_marked, next_seen, refused, split_at}
use Rattle.msl_array.proofs.targets.mark_all.Goals as goal

pub loop-target-init : goal.loop-target-init
loop-target-init c = λ seen h. subst (AreMarked c.args.marks.now) (sym (append-nil seen)) h

pub returns-then-not-mark-clause-marks : goal.returns-then-not-mark-clause-marks
returns-then-not-mark-clause-marks c = λ seen h rest long.
    let xs = c.args.targets.now in
    let i = c.loop-target.target-index in
    let n = length c.args.marks.now in
    let t = to_z w64 (of_z w64 (slice_index_or c.args.targets.now c.loop-target.target-index (pos 0))) in
    let fit : FitsSigned w64 (slice_index_or c.args.targets.now c.loop-target.target-index (pos 0)) = search rules in
    let is : t ≡ slice_index_or xs i (pos 0) = to_z-of_z w64 (slice_index_or xs i (pos 0)) fit in
    let split = split_at seen xs i t c.loop-target-test.true is rest in
    subst (λ (ys : List ℤ). is_bijection n ys ≡ false) (sym split)
    (refused c.loop-target.marks (seen ++ take i xs) (c.loop-target.invariant seen h) t n (drop (i + 1) xs ++ rest) (sym c.loop-target.auto.marks) c.if-not-mark.ensures.marks (ap length (sym split) ∙ long))

pub loop-target-preserved : goal.loop-target-preserved
loop-target-preserved c = λ seen h.
    let xs = c.args.targets.now in
    let i = c.loop-target.target-index in
    let t = to_z w64 (of_z w64 (slice_index_or c.args.targets.now c.loop-target.target-index (pos 0))) in
    let fit : FitsSigned w64 (slice_index_or c.args.targets.now c.loop-target.target-index (pos 0)) = search rules in
    let is : t ≡ slice_index_or xs i (pos 0) = to_z-of_z w64 (slice_index_or xs i (pos 0)) fit in
    subst (AreMarked c.mark.new.marks) (next_seen seen xs i t c.loop-target-test.true is)
    (more_marked c.loop-target.marks (seen ++ take i xs) (c.loop-target.invariant seen h) t c.mark.new.marks c.if-not-mark.ensures.marks)

pub returns-clause-marks : goal.returns-clause-marks
returns-clause-marks c = λ seen h. subst (λ (xs : List ℤ). AreMarked c.loop-target.marks (seen ++ xs)) (take_all c.loop-target.target-index c.args.targets.now c.loop-target-test.false) (c.loop-target.invariant seen h)
