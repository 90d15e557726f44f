use Rattle.std.proofs.Common.{rules, ◌∙◌, FitsSigned, of_z, to_z}
use Rattle.std.specs.Int.{w128}
use Rattle.std.proofs.lemmas.Int.{to_z-of_z}
use Rattle.msl_ops.proofs.Parts.{IsTurn, fold_turn}
use Rattle.msl_local.proofs.folding.fold.Given.{Over}
use Rattle.msl_local.proofs.folding.fold.Goals as goal

turn : (g : Over) (c : goal.After-lift g) → IsTurn (g.L.Lawful.IsInDomain c.args.op.now) (g.L.Lawful.unit c.args.op.now) (g.L.Lawful.lift c.args.op.now) (g.L.Lawful.combine c.args.op.now) c.args.xs.now c.loop-x.x-index (to_z w128 c.loop-x.total-bits) (to_z w128 (of_z w128 c.lift.result))
turn g c =
    fold_turn (g.L.Lawful.IsInDomain c.args.op.now) (g.L.Lawful.unit c.args.op.now) (g.L.Lawful.lift c.args.op.now) (g.L.Lawful.combine c.args.op.now) (g.met.L.Lawful.laws c.args.op.now)
    c.args.xs.now c.loop-x.x-index (to_z w128 c.loop-x.total-bits) c.lift.result
    c.loop-x-test.true c.requires c.loop-x.invariant.total c.loop-x.invariant.fit (search rules) (search rules) c.lift.ensures

pub combine-total-requires-clause-a : goal.combine-total-requires-clause-a
combine-total-requires-clause-a g c = (turn g c).total_in

pub combine-total-requires-clause-b : goal.combine-total-requires-clause-b
combine-total-requires-clause-b g c = (turn g c).lifted_in

pub combine-total-requires-clause-fits : goal.combine-total-requires-clause-fits
combine-total-requires-clause-fits g c = (turn g c).fits

pub loop-x-preserved : goal.loop-x-preserved
loop-x-preserved g c =
    let turn = fold_turn (g.L.Lawful.IsInDomain c.args.op.now) (g.L.Lawful.unit c.args.op.now) (g.L.Lawful.lift c.args.op.now) (g.L.Lawful.combine c.args.op.now) (g.met.L.Lawful.laws c.args.op.now)
    c.args.xs.now c.loop-x.x-index (to_z w128 c.loop-x.total-bits) c.lift.result
    c.loop-x-test.true c.requires c.loop-x.invariant.total c.loop-x.invariant.fit (search rules) (search rules) c.lift.ensures in
    let result_fits : FitsSigned w128 c.combine-total.result = search rules in
    record {
      total = to_z-of_z w128 c.combine-total.result result_fits ∙ c.combine-total.ensures ∙ turn.next;
      fit = turn.all_fit;
    }
