use Rattle.std.proofs.Common.{rules, ◌<◌, length, slice_index_or, sym, ap, ◌∙◌, arith, FitsSigned, to_z, of_z}
use Rattle.std.specs.Int.{w128}
use Rattle.std.proofs.lemmas.Int.{to_z-of_z}
use Rattle.msl_ops.specs.Meaning.{fold_of}
use Rattle.msl_local.specs.Parts.{flat, between}
use Rattle.msl_local.proofs.Lists.{flat_more}
use Rattle.msl_local.proofs.FoldParts.{IsStep, part_step}
use Rattle.msl_local.proofs.folding.Folding.between.Goals as goal

step : (c : goal.After-fold) → IsStep c.args.self.now.op (flat (between c.args.self.now.parts.now c.args.from c.loop-m.m)) ((slice_index_or c.args.self.now.parts.now c.loop-m.m c.index-self-m.result).items) (to_z w128 c.loop-m.total-bits) (to_z w128 (of_z w128 c.fold.result))
step c =
    let w = c.args.self.now in
    let fit : FitsSigned w128 c.fold.result = search rules in
    part_step w.op w.parts.now w.few w.fit c.args.from c.loop-m.m c.index-self-m.result (to_z w128 c.loop-m.total-bits) (to_z w128 (of_z w128 c.fold.result))
    c.loop-m.invariant.order (omega (arith, c.loop-m-test.true, c.requires.within)) c.loop-m.invariant.total
    (to_z-of_z w128 c.fold.result fit ∙ c.fold.ensures ∙ ap (fold_of w.op.kind w.op.modulus) c.as_slice.ensures.value)

pub combine-total-requires-clause-a : goal.combine-total-requires-clause-a
combine-total-requires-clause-a c = (step c).total_in

pub combine-total-requires-clause-b : goal.combine-total-requires-clause-b
combine-total-requires-clause-b c = (step c).mine_in

pub combine-total-requires-clause-fits : goal.combine-total-requires-clause-fits
combine-total-requires-clause-fits c = (step c).fits

pub loop-m-preserved : goal.loop-m-preserved
loop-m-preserved c =
    let w = c.args.self.now in
    let fit : FitsSigned w128 c.fold.result = search rules in
    let lt : c.loop-m.m < length w.parts.now = omega (arith, c.loop-m-test.true, c.requires.within) in
    let s = part_step w.op w.parts.now w.few w.fit c.args.from c.loop-m.m c.index-self-m.result (to_z w128 c.loop-m.total-bits) (to_z w128 (of_z w128 c.fold.result))
    c.loop-m.invariant.order lt c.loop-m.invariant.total
    (to_z-of_z w128 c.fold.result fit ∙ c.fold.ensures ∙ ap (fold_of w.op.kind w.op.modulus) c.as_slice.ensures.value) in
    let result : FitsSigned w128 c.combine-total.result = search rules in
    record {
      total = to_z-of_z w128 c.combine-total.result result ∙ c.combine-total.ensures ∙ s.next ∙ ap (fold_of w.op.kind w.op.modulus) (sym (flat_more w.parts.now c.args.from c.loop-m.m c.index-self-m.result c.loop-m.invariant.order lt));
      order = omega (arith, c.loop-m.invariant.order);
    }
