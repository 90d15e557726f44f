use Rattle.std.proofs.Common.{◌≡◌, ◌<◌, ◌++◌, [], ◌∷◌, List, ℤ, pos, length, take, All, Ok, Err, sym, ap, subst, ◌∙◌, arith}
use Rattle.std.proofs.lemmas.List.{length-set, take_more_set}
use Rattle.std.proofs.lemmas.List.Elements.{All-push}
use Rattle.msl_program.specs.Calls.{run}
use Rattle.msl_stage.specs.declared.one.Halted.{Halted}
use Rattle.msl_bounding.specs.Nodes.{Tells}
use Rattle.msl_bounding.specs.declared.bounding.Bounding.{Bounding}
use Rattle.msl_bounding.proofs.Nodes.{children_next, children_fault}
use Rattle.msl_bounding.proofs.Visits.{told_on}
use Rattle.msl_bounding.proofs.bounding.Bounding.children.Goals as goal

pub returns-in_err-room-clause-children : goal.returns-in_err-room-clause-children
returns-in_err-room-clause-children c =
    let s = c.args.self.now in
    let x = c.args.x.now in
    let k = c.loop-k.k in
    let told : Tells {B = Halted} (run s.calls s.stage s.spec.now.branch (x ++ pos k ∷ [])) (Err c.in_err-room.field-0.0) c.child.new.why =
    subst (λ (n : Bounding). Tells {B = Halted} (run n.calls n.stage n.spec.now.branch (x ++ pos k ∷ [])) (Err c.in_err-room.field-0.0) c.child.new.why) c.loop-k.invariant.same c.in_err-room.ensures.child in
    let lt : k < length c.args.room.now = omega (arith, c.loop-k-test.true, c.loop-k.auto.k-end, c.loop-k.invariant.room) in
    told_on _ _ _ c.in_err-room.field-0.0 (λ f e. children_fault s.calls s.spec.now s.stage x (length c.args.room.now) k (take k c.loop-k.room) f lt c.loop-k.invariant.made e) _ c.from_residual.result c.child.new.why c.from_residual.ensures.1 told

pub loop-k-preserved : goal.loop-k-preserved
loop-k-preserved c =
    let s = c.args.self.now in
    let x = c.args.x.now in
    let k = c.loop-k.k in
    let y = c.in_ok-room.field-0 in
    let lt : k < length c.loop-k.room = omega (arith, c.loop-k-test.true, c.loop-k.auto.k-end, c.loop-k.invariant.room) in
    let made : run s.calls s.stage s.spec.now.branch (x ++ pos k ∷ []) ≡ Ok y =
    subst (λ (n : Bounding). run n.calls n.stage n.spec.now.branch (x ++ pos k ∷ []) ≡ Ok y) c.loop-k.invariant.same c.in_ok-room.ensures.child in
    let more = take_more_set c.loop-k.room k y lt in
    record {
      same = c.in_ok-room.ensures.same ∙ c.loop-k.invariant.same;
      room = length-set c.loop-k.room k y ∙ c.loop-k.invariant.room;
      made = children_next s.calls s.spec.now s.stage x k (take k c.loop-k.room) y c.loop-k.invariant.made made ∙ ap Ok (sym more);
      long = subst (All (λ (z : List ℤ). length z ≡ length x)) (sym more) (All-push (λ (z : List ℤ). length z ≡ length x) (take k c.loop-k.room) y c.loop-k.invariant.long c.in_ok-room.ensures.long);
    }
