use Rattle.std.proofs.Common.{rules, ◌≡◌, ◌<◌, ◌≤◌, ◌+◌, ℕ, ℤ, pos, List, length, replicate, sym, subst, ap, ◌∙◌, arith}
use Rattle.std.specs.Vec.{with_items}
use Rattle.std.proofs.lemmas.List.{length-replicate, with_items_is}
use Rattle.msl_lists.specs.Whole.{at}
use Rattle.msl_local.specs.Parts.{flat, start}
use Rattle.msl_local.proofs.Lists.{size, at_part, flat_alike, many_alike, size_alike, start_alike, start_last, start_next, start_within}
use Rattle.msl_array.specs.Moves.{ArePlaces, ArePut}
use Rattle.msl_array.proofs.Moved.{part_places, put_none, put_both}
use Rattle.msl_array.proofs.targets.moved.Goals as goal

pub loop-m-init : goal.loop-m-init
loop-m-init c =
    let n = length (flat c.args.xs.now) in
    let none : c.in_ok-all.all.items ≡ replicate c.number_of.result (pos 0) = search rules in
    let all : c.in_ok-all.all.items ≡ replicate n (pos 0) = none ∙ ap (λ k. replicate k (pos 0)) c.number_of.ensures in
    subst (ArePut (replicate n (pos 0)) (flat c.args.targets.now) (flat c.args.xs.now) 0) (sym all) (put_none (replicate n (pos 0)) (flat c.args.targets.now) (flat c.args.xs.now))

module _ (c : goal.After-as_slice-in-loop-m) where
  pub long : length c.as_slice.result.now ≡ length c.as_slice-in-loop-m.result.now
  long =
      let alike = size_alike c.args.xs.now c.args.targets.now c.loop-m.m c.index-targets-m.result c.index-xs-m.result c.requires.alike c.loop-m-test.true in
      ap length c.as_slice.ensures.value ∙ ap size c.index-targets-m.is ∙ alike ∙ sym (ap size c.index-xs-m.is) ∙ sym (ap length c.as_slice-in-loop-m.ensures.value)

  pub inside : c.loop-m.m < length c.args.targets.now
  inside = omega (arith, c.loop-m-test.true, many_alike c.args.xs.now c.args.targets.now c.requires.alike)

  pub many : length c.as_mut_slice.result.now ≡ length (flat c.args.xs.now)
  many = ap length c.as_mut_slice.ensures.value ∙ c.loop-m.invariant.long ∙ length-replicate (length (flat c.args.xs.now)) (pos 0)

  pub places : ArePlaces (length c.as_mut_slice.result.now) c.as_slice.result.now
  places =
      subst (λ (xs : List ℤ). ArePlaces (length c.as_mut_slice.result.now) xs) (sym c.as_slice.ensures.value)
      (subst (λ n. ArePlaces n c.index-targets-m.result.items) (sym many) (part_places (length (flat c.args.xs.now)) c.args.targets.now c.loop-m.m c.index-targets-m.result inside c.index-targets-m.is c.requires.places))

pub put_part-requires-clause-long : goal.put_part-requires-clause-long
put_part-requires-clause-long c = long c

pub put_part-requires-clause-places : goal.put_part-requires-clause-places
put_part-requires-clause-places c = places c

pub put_part-requires-clause-few : goal.put_part-requires-clause-few
put_part-requires-clause-few c = omega (arith, many c, c.requires.few)

pub loop-m-preserved : goal.loop-m-preserved
loop-m-preserved c =
    let T = c.args.targets.now in
    let A = c.args.xs.now in
    let m = c.loop-m.m in
    let n = length (flat A) in
    let v = c.as_slice.result.now in
    let w = c.as_slice-in-loop-m.result.now in
    let after = c.put_part.new.all in
    let in_targets : m < length T = omega (arith, c.loop-m-test.true, many_alike A T c.requires.alike) in
    let next : start A (m + 1) ≡ start A m + length w = start_next A m c.index-xs-m.result c.loop-m-test.true ∙ ap (λ k. start A m + k) (sym (ap size c.index-xs-m.is) ∙ sym (ap length c.as_slice-in-loop-m.ensures.value)) in
    let fits : start A m + length w ≤ length (flat T) = omega (arith, next, start_within A (m + 1), flat_alike A T c.requires.alike) in
    let targets_long : length v ≡ length w = ap length c.as_slice.ensures.value ∙ ap size c.index-targets-m.is ∙ size_alike A T m c.index-targets-m.result c.index-xs-m.result c.requires.alike c.loop-m-test.true
    ∙ sym (ap size c.index-xs-m.is) ∙ sym (ap length c.as_slice-in-loop-m.ensures.value) in
    let theirs : (k : ℕ) → k < length w → at (flat T) (start A m + k) ≡ at v k = λ k lt.
    ap (λ s. at (flat T) (s + k)) (sym (start_alike A T m c.requires.alike))
    ∙ at_part T m k c.index-targets-m.result in_targets (omega (arith, lt, targets_long, ap length c.as_slice.ensures.value, ap size c.index-targets-m.is))
    ∙ ap (λ (x : _). at x.items k) (sym c.index-targets-m.is) ∙ ap (λ (xs : List ℤ). at xs k) (sym c.as_slice.ensures.value) in
    let numbers : (k : ℕ) → k < length w → at (flat A) (start A m + k) ≡ at w k = λ k lt.
    at_part A m k c.index-xs-m.result c.loop-m-test.true (omega (arith, lt, ap length c.as_slice-in-loop-m.ensures.value, ap size c.index-xs-m.is))
    ∙ ap (λ (x : _). at x.items k) (sym c.index-xs-m.is) ∙ ap (λ (xs : List ℤ). at xs k) (sym c.as_slice-in-loop-m.ensures.value) in
    let before = subst (ArePut (replicate n (pos 0)) (flat T) (flat A) (start A m)) (sym c.as_mut_slice.ensures.value) c.loop-m.invariant in
    let many_places = subst (λ k. ArePlaces k (flat T)) (sym (length-replicate n (pos 0))) c.requires.places in
    let put = put_both (replicate n (pos 0)) (flat T) (flat A) c.as_mut_slice.result.now v w after (start A m) many_places fits theirs numbers before c.put_part.ensures in
    let kept : (with_items c.loop-m.all after).items ≡ after = with_items_is c.loop-m.all after (omega (arith, c.put_part.ensures.long, ap length c.as_mut_slice.ensures.value, c.loop-m.all.ok.0)) in
    subst (ArePut (replicate n (pos 0)) (flat T) (flat A) (start A (m + 1))) (sym kept) (subst (λ s. ArePut (replicate n (pos 0)) (flat T) (flat A) s after) (sym next) put)

pub returns : goal.returns
returns c =
    let A = c.args.xs.now in
    let last : start A c.loop-m.m ≡ length (flat A) = start_last A c.loop-m.m c.loop-m-test.false in
    record {
      long = c.loop-m.invariant.long ∙ length-replicate (length (flat A)) (pos 0);
      lands = λ i to lt e. c.loop-m.invariant.lands i to (omega (arith, lt, last)) e;
    }
