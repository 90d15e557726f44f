use Rattle.std.proofs.Common.{◌≡◌, ◌++◌, [], ◌∷◌, ℤ, pos, List, length, sym, subst, ap, ap₂, ◌∙◌, arith, IfOk, w64}
use Rattle.std.proofs.lemmas.Int.{to_z_pos}
use Rattle.std.proofs.lemmas.List.FromFn.{map-range_with_len_more}
use Rattle.msl_lists.specs.Whole.{list_by}
use Rattle.msl_lists.proofs.WholeMoves.{long_by}
use Rattle.msl_local.specs.Parts.{flat}
use Rattle.msl_array.proofs.blocks.numbered.Goals as goal

pub loop-i-init : goal.loop-i-init
loop-i-init c = record { list = c.in_ok-numbers.ensures.items; room = c.in_ok-numbers.ensures.capacity }

pub push_reserved-requires : goal.push_reserved-requires
push_reserved-requires c = omega (arith, ap length c.loop-i.invariant.list, long_by c.loop-i.i pos, c.loop-i.invariant.room, c.loop-i-test.true, c.loop-i.numbers.ok.0)

pub loop-i-preserved : goal.loop-i-preserved
loop-i-preserved c = record {
  list = c.push_reserved.ensures.items ∙ ap₂ (λ (xs : List ℤ) (x : ℤ). xs ++ x ∷ []) c.loop-i.invariant.list (to_z_pos w64 c.loop-i.i (omega (arith, c.loop-i-test.true, c.requires))) ∙ sym (map-range_with_len_more pos 0 c.loop-i.i c.loop-i.i (omega arith));
  room = omega (arith, c.loop-i.invariant.room, c.push_reserved.ensures.capacity);
}

pub returns : goal.returns
returns c =
    let all : c.loop-i.i ≡ c.args.n = omega (arith, c.loop-i.auto.i-end, c.loop-i-test.false) in
    subst (λ (xs : List ℤ). IfOk c.laid.result (λ v. flat v.items ≡ xs)) (c.as_slice.ensures.value ∙ c.loop-i.invariant.list ∙ ap (λ n. list_by n pos) all) c.laid.ensures.list
