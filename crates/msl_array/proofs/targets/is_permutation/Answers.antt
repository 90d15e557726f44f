use Rattle.std.proofs.Common.{rules, ◌≡◌, ◌+◌, ◌++◌, [], ℤ, Bool, false, List, length, take, drop, replicate, refl, sym, subst, ap, ◌∙◌, arith}
use Rattle.std.proofs.lemmas.List.{length-replicate, with_items_is}
use Rattle.std.specs.Vec.{with_items}
use Rattle.msl_lists.specs.Whole.{is_bijection}
use Rattle.msl_local.specs.Parts.{flat}
use Rattle.msl_array.specs.Moves.{AreMarked, ArePlaces}
use Rattle.msl_array.proofs.Shares.{flat_read, flat_all}
use Rattle.msl_array.proofs.Marks.{none_marked, split_parts, test_passes}
use Rattle.msl_array.proofs.targets.is_permutation.Goals as goal

pub loop-part-init : goal.loop-part-init
loop-part-init c =
    let all : c.in_ok-marks.marks.items ≡ replicate c.number_of.result false = search rules in
    record {
      marked = subst (λ (m : List Bool). AreMarked m []) (sym all) (none_marked c.number_of.result);
      long = ap length all ∙ length-replicate c.number_of.result false ∙ c.number_of.ensures;
    }

pub returns-then-not-mark_all : goal.returns-then-not-mark_all
returns-then-not-mark_all c =
    let parts = c.args.targets.now in
    let i = c.loop-part.part-index in
    let v = c.part-item.result in
    let n = length (flat parts) in
    let rest = flat (drop (i + 1) parts) in
    let before : AreMarked c.as_mut_slice.result.now (flat (take i parts)) = subst (λ (m : List Bool). AreMarked m (flat (take i parts))) (sym c.as_mut_slice.ensures.value) c.loop-part.invariant.marked in
    let many : length c.as_mut_slice.result.now ≡ n = ap length c.as_mut_slice.ensures.value ∙ c.loop-part.invariant.long in
    let whole : flat (take i parts) ++ c.as_slice.result.now ++ rest ≡ flat parts =
    ap (λ (xs : List ℤ). flat (take i parts) ++ xs ++ rest) c.as_slice.ensures.value ∙ split_parts parts i v c.loop-part-test.true c.part-item.is in
    let no : is_bijection (length c.as_mut_slice.result.now) (flat (take i parts) ++ c.as_slice.result.now ++ rest) ≡ false =
    c.if-not-mark_all.ensures.marks (flat (take i parts)) before rest (ap length whole ∙ sym many) in
    sym (sym (ap (λ k. is_bijection k (flat parts)) many) ∙ sym (ap (is_bijection (length c.as_mut_slice.result.now)) whole) ∙ no)

pub loop-part-preserved : goal.loop-part-preserved
loop-part-preserved c =
    let parts = c.args.targets.now in
    let i = c.loop-part.part-index in
    let v = c.part-item.result in
    let before : AreMarked c.as_mut_slice.result.now (flat (take i parts)) = subst (λ (m : List Bool). AreMarked m (flat (take i parts))) (sym c.as_mut_slice.ensures.value) c.loop-part.invariant.marked in
    let next : flat (take i parts) ++ c.as_slice.result.now ≡ flat (take (i + 1) parts) =
    ap (λ (xs : List ℤ). flat (take i parts) ++ xs) c.as_slice.ensures.value ∙ sym (flat_read parts i v c.loop-part-test.true c.part-item.is) in
    let many : length c.mark_all.new.marks ≡ length c.loop-part.marks.items = c.mark_all.ensures.long ∙ ap length c.as_mut_slice.ensures.value in
    let kept : (with_items c.loop-part.marks c.mark_all.new.marks).items ≡ c.mark_all.new.marks = with_items_is c.loop-part.marks c.mark_all.new.marks (omega (arith, many, c.loop-part.marks.ok.0)) in
    record {
      marked = subst (λ (m : List Bool). AreMarked m (flat (take (i + 1) parts))) (sym kept) (subst (AreMarked c.mark_all.new.marks) next (c.if-not-mark_all.ensures.marks (flat (take i parts)) before));
      long = ap length kept ∙ many ∙ c.loop-part.invariant.long;
    }

pub returns : goal.returns
returns c =
    let parts = c.args.targets.now in
    let all : AreMarked c.loop-part.marks.items (flat parts) = subst (AreMarked c.loop-part.marks.items) (flat_all parts c.loop-part.part-index c.loop-part-test.false) c.loop-part.invariant.marked in
    sym (test_passes (length (flat parts)) (flat parts) refl (subst (λ n. ArePlaces n (flat parts)) c.loop-part.invariant.long all.places))
