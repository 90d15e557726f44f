use Rattle.std.proofs.Common.{rules, ◌≡◌, pos, slice_index_or, ap, ◌∙◌, arith, FitsSigned, to_z, of_z}
use Rattle.std.specs.Int.{w128}
use Rattle.std.proofs.lemmas.Int.{to_z-of_z}
use Rattle.msl_ops.specs.Meaning.{fold_of, settle}
use Rattle.msl_local.specs.Folds.{before, held_by}
use Rattle.msl_local.specs.Parts.{flat}
use Rattle.msl_local.proofs.FoldParts.{IsStep, hand_step, before_next, before_all}
use Rattle.msl_local.proofs.folding.Folding.of_hands.Goals as goal

step : (c : goal.After-combine-arg-1) → IsStep c.args.self.now.op (flat (before c.args.self.now.parts.now c.args.hands c.loop-h.h)) (flat (held_by c.args.self.now.parts.now c.args.hands c.loop-h.h)) (to_z w128 c.loop-h.total-bits) (to_z w128 (of_z w128 (slice_index_or c.args.folds.now c.loop-h.h (pos 0))))
step c =
    let w = c.args.self.now in
    let mine = slice_index_or c.args.folds.now c.loop-h.h (pos 0) in
    let fit : FitsSigned w128 mine = search rules in
    hand_step w.op w.parts.now w.few w.fit c.args.hands c.loop-h.h (to_z w128 c.loop-h.total-bits) (to_z w128 (of_z w128 mine)) c.loop-h.invariant
    (to_z-of_z w128 mine fit ∙ c.requires.folds.each c.loop-h.h c.loop-h-test.true)

pub combine-total-requires-clause-a : goal.combine-total-requires-clause-a
combine-total-requires-clause-a c = (step c).total_in

pub combine-total-requires-clause-b : goal.combine-total-requires-clause-b
combine-total-requires-clause-b c = (step c).mine_in

pub combine-total-requires-clause-fits : goal.combine-total-requires-clause-fits
combine-total-requires-clause-fits c = (step c).fits

pub loop-h-preserved : goal.loop-h-preserved
loop-h-preserved c =
    let w = c.args.self.now in
    let mine = slice_index_or c.args.folds.now c.loop-h.h (pos 0) in
    let fit : FitsSigned w128 mine = search rules in
    let s = hand_step w.op w.parts.now w.few w.fit c.args.hands c.loop-h.h (to_z w128 c.loop-h.total-bits) (to_z w128 (of_z w128 mine)) c.loop-h.invariant
    (to_z-of_z w128 mine fit ∙ c.requires.folds.each c.loop-h.h c.loop-h-test.true) in
    let result : FitsSigned w128 c.combine-total.result = search rules in
    to_z-of_z w128 c.combine-total.result result ∙ c.combine-total.ensures ∙ s.next ∙ ap (fold_of w.op.kind w.op.modulus) (before_next w.parts.now c.args.hands c.loop-h.h)

pub returns : goal.returns
returns c =
    let w = c.args.self.now in
    let e : c.loop-h.h ≡ c.args.hands = omega (arith, c.loop-h-test.false, c.loop-h.auto.h-end) in
    let all : to_z w128 c.loop-h.total-bits ≡ fold_of w.op.kind w.op.modulus (flat w.parts.now) =
    c.loop-h.invariant ∙ ap (fold_of w.op.kind w.op.modulus) (ap (λ h. flat (before w.parts.now c.args.hands h)) e ∙ before_all w.parts.now c.args.hands c.requires.some) in
    c.settle.ensures ∙ ap (settle w.stage) all
