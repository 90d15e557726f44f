use Rattle.std.proofs.Common.{◌≡◌, ◌++◌, ◌∷◌, [], pos, FitsSigned, w64, Some, None, Ok, Err, sym, ap, subst, ◌∙◌, rules}
use Rattle.std.proofs.lemmas.Int.{to_z-of_z}
use Rattle.msl_base.specs.Streams.{Record}
use Rattle.msl_program.specs.Along.{along}
use Rattle.msl_program.specs.Calls.{run}
use Rattle.msl_program.specs.Searches.{node, reached}
use Rattle.msl_stage.specs.declared.one.Halted.{Halted}
use Rattle.msl_bounding.specs.Nodes.{Tells, low_of}
use Rattle.msl_bounding.specs.declared.bounding.Bounding.{Bounding}
use Rattle.msl_pruning.proofs.Replays.{has_parent, low_alone, child_is, tells_ok, tells_err}
use Rattle.msl_pruning.proofs.pruning.replayed.Goals as goal

pub returns-in_err-x : goal.returns-in_err-x
returns-in_err-x c p at =
    let s = c.args.nodes.now in
    let steps = c.as_slice.ensures.steps in
    let cases = c.in-Some.ensures.cases.0 in
    let split : c.args.path.now ≡ c.in-Some.front.now ++ c.in-Some.last.now ∷ [] = cc in
    let h = has_parent s.calls s.spec.now s.stage c.args.root c.in-Some.front.now c.in-Some.last.now p (subst (λ q. reached s.calls s.spec.now s.stage c.args.root q ≡ Some p) split at) in
    absurd (tells_err (along s.calls s.stage s.spec.now.branch c.args.root c.in-Some.front.now) h.parent c.in_err-x.field-0.0 c.numbers_along.new.why h.is_parent c.in_err-x.ensures.numbers)

pub returns-in_err-low : goal.returns-in_err-low
returns-in_err-low c p at =
    let s = c.args.nodes.now in
    let steps = c.as_slice.ensures.steps in
    let cases = c.in-Some.ensures.cases.0 in
    let split : c.args.path.now ≡ c.in-Some.front.now ++ c.in-Some.last.now ∷ [] = cc in
    let h = has_parent s.calls s.spec.now s.stage c.args.root c.in-Some.front.now c.in-Some.last.now p (subst (λ q. reached s.calls s.spec.now s.stage c.args.root q ≡ Some p) split at) in
    let x : c.as_slice-2.result.now ≡ h.parent = c.as_slice-2.ensures.numbers ∙ tells_ok Halted (along s.calls s.stage s.spec.now.branch c.args.root c.in-Some.front.now) h.parent c.in_ok-x.x c.numbers_along.new.why h.is_parent c.in_ok-x.ensures.numbers in
    let Told : Bounding → Record → Type 0 = λ n y. Tells {B = Halted} (low_of n.calls n.spec.now n.stage c.args.path.now (node y None)) (Err c.in_err-low.field-0.0) c.low.new.why in
    absurd (tells_err (low_of s.calls s.spec.now s.stage c.args.path.now (node h.parent None)) h.low c.in_err-low.field-0.0 c.low.new.why
    (low_alone s.calls s.spec.now s.stage c.args.root c.args.path.now h.parent h.low h.is_low) (subst (Told s) x (subst (λ n. Told n c.as_slice-2.result.now) c.in_ok-x.ensures.same c.in_err-low.ensures.low)))

pub returns-in_err-numbers : goal.returns-in_err-numbers
returns-in_err-numbers c p at =
    let s = c.args.nodes.now in
    let steps = c.as_slice.ensures.steps in
    let cases = c.in-Some.ensures.cases.0 in
    let split : c.args.path.now ≡ c.in-Some.front.now ++ c.in-Some.last.now ∷ [] = cc in
    let h = has_parent s.calls s.spec.now s.stage c.args.root c.in-Some.front.now c.in-Some.last.now p (subst (λ q. reached s.calls s.spec.now s.stage c.args.root q ≡ Some p) split at) in
    let x : c.as_slice-3.result.now ≡ h.parent = c.as_slice-3.ensures.numbers ∙ tells_ok Halted (along s.calls s.stage s.spec.now.branch c.args.root c.in-Some.front.now) h.parent c.in_ok-x.x c.numbers_along.new.why h.is_parent c.in_ok-x.ensures.numbers in
    let Told : Bounding → Record → Type 0 = λ n y. Tells {B = Halted} (run n.calls n.stage n.spec.now.branch (y ++ pos c.in-Some.last.now ∷ [])) (Err c.in_err-numbers.field-0.0) c.child.new.why in
    absurd (tells_err (run s.calls s.stage s.spec.now.branch (h.parent ++ pos c.in-Some.last.now ∷ [])) p.numbers c.in_err-numbers.field-0.0 c.child.new.why
    h.is_child (subst (Told s) x (subst (λ n. Told n c.as_slice-3.result.now) (c.in_ok-low.ensures.same ∙ c.in_ok-x.ensures.same) c.in_err-numbers.ensures.child)))

pub returns : goal.returns
returns c p at =
    let s = c.args.nodes.now in
    let steps = c.as_slice.ensures.steps in
    let cases = c.in-Some.ensures.cases.0 in
    let split : c.args.path.now ≡ c.in-Some.front.now ++ c.in-Some.last.now ∷ [] = cc in
    let h = has_parent s.calls s.spec.now s.stage c.args.root c.in-Some.front.now c.in-Some.last.now p (subst (λ q. reached s.calls s.spec.now s.stage c.args.root q ≡ Some p) split at) in
    let is_x = tells_ok Halted (along s.calls s.stage s.spec.now.branch c.args.root c.in-Some.front.now) h.parent c.in_ok-x.x c.numbers_along.new.why h.is_parent c.in_ok-x.ensures.numbers in
    let x : c.as_slice-2.result.now ≡ h.parent = c.as_slice-2.ensures.numbers ∙ is_x in
    let y : c.as_slice-3.result.now ≡ h.parent = c.as_slice-3.ensures.numbers ∙ is_x in
    let low = c.in_ok-low.low in
    let fit : FitsSigned w64 low = search rules in
    let Low : Bounding → Record → Type 0 = λ n y. low_of n.calls n.spec.now n.stage c.args.path.now (node y None) ≡ Ok low in
    let is_low : low ≡ h.low = tells_ok Halted (low_of s.calls s.spec.now s.stage c.args.path.now (node h.parent None)) h.low low c.low.new.why
    (low_alone s.calls s.spec.now s.stage c.args.root c.args.path.now h.parent h.low h.is_low) (subst (Low s) x (subst (λ n. Low n c.as_slice-2.result.now) c.in_ok-x.ensures.same c.in_ok-low.ensures.low)) in
    let Child : Bounding → Record → Type 0 = λ n y. run n.calls n.stage n.spec.now.branch (y ++ pos c.in-Some.last.now ∷ []) ≡ Ok c.in_ok-numbers.numbers in
    let numbers = tells_ok Halted (run s.calls s.stage s.spec.now.branch (h.parent ++ pos c.in-Some.last.now ∷ [])) p.numbers c.in_ok-numbers.numbers c.child.new.why
    h.is_child (subst (Child s) y (subst (λ n. Child n c.as_slice-3.result.now) (c.in_ok-low.ensures.same ∙ c.in_ok-x.ensures.same) c.in_ok-numbers.ensures.child)) in
    child_is s.calls s.spec.now s.stage c.args.root p c.in_ok-numbers.numbers _ (sym numbers) (h.is_above ∙ ap Some (sym (to_z-of_z w64 low fit ∙ is_low)))
