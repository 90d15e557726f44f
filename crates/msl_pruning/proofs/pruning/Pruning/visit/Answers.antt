use Rattle.std.proofs.Common.{◌≡◌, ◌<◌, ◌++◌, FitsSigned, w64, to_z, of_z, ℤ, ℕ, length, take, drop, All, Ok, Err, inl, inr, refl, sym, ap, subst, ◌∙◌, arith, rules}
use Rattle.std.proofs.Math.Seq.{take-append_seam}
use Rattle.std.proofs.lemmas.Int.{to_z-of_z}
use Rattle.std.proofs.lemmas.List.{length-take-le}
use Rattle.msl_base.specs.Streams.{Record}
use Rattle.msl_program.specs.Searches.{children_of, node}
use Rattle.msl_stage.specs.declared.one.Halted.{Halted}
use Rattle.msl_bounding.specs.Nodes.{HasRoom, Tells, found, low_of}
use Rattle.msl_bounding.specs.declared.bounding.Bounding.{Bounding}
use Rattle.msl_bounding.specs.declared.bounding.Found.TheVariants.{Children}
use Rattle.msl_bounding.proofs.Nodes.{own_found_fault}
use Rattle.msl_pruning.specs.Pruned.{better_by}
use Rattle.msl_pruning.specs.Visiting.{IsBranched}
use Rattle.msl_pruning.proofs.Found.{told_on, is_taken, is_barren, is_branched}
use Rattle.msl_pruning.proofs.pruning.Pruning.visit.Goals as goal

pub returns-in_err-value-clause-visited : goal.returns-in_err-value-clause-visited
returns-in_err-value-clause-visited g c =
    let s = c.args.self.now.nodes in
    let best = c.args.self.now.best in
    let q = c.args.at.now.path in
    let p = node c.args.at.now.node.numbers c.args.at.now.node.above in
    let low = c.in_ok-low.low in
    let fit : FitsSigned w64 low = search rules in
    let why = c.found.new.why in
    let x = c.as_slice-x.ensures.numbers in
    let is_low = subst (λ (y : Record). low_of s.calls s.spec.now s.stage q (node y p.above) ≡ Ok low) x c.in_ok-low.ensures.low in
    let Told : Bounding → Record → ℤ → Type 0 = λ n y z. Tells {B = Halted} (found n.calls n.spec.now n.stage q y z) (Err c.in_err-value.field-0.0) why in
    let told = subst (Told s p.numbers) (to_z-of_z w64 low fit) (subst (λ y. Told s y (to_z w64 (of_z w64 low))) x (subst (λ n. Told n c.as_slice-x.result.now (to_z w64 (of_z w64 low))) c.low.ensures.same c.in_err-value.ensures.found)) in
    told_on s.calls s.spec.now s.stage q p (found s.calls s.spec.now s.stage q p.numbers low) c.in_err-value.field-0.0 (λ f e. own_found_fault s.calls s.spec.now s.stage q p low is_low f e) best best c.args.self.now.children _ c.from_residual-in_err-value.result why c.from_residual-in_err-value.ensures.1 told

pub returns-in-Solution-clause-visited : goal.returns-in-Solution-clause-visited
returns-in-Solution-clause-visited g c =
    let s = c.args.self.now.nodes in
    let best = c.args.self.now.best in
    let q = c.args.at.now.path in
    let p = node c.args.at.now.node.numbers c.args.at.now.node.above in
    let low = c.in_ok-low.low in
    let fit : FitsSigned w64 low = search rules in
    let x = c.as_slice-x.ensures.numbers in
    let is_low = subst (λ (y : Record). low_of s.calls s.spec.now s.stage q (node y p.above) ≡ Ok low) x c.in_ok-low.ensures.low in
    let v = c.in-Solution.value in
    let fits : FitsSigned w64 v = search rules in
    let Is : Bounding → Record → ℤ → Type 0 = λ n y z. found n.calls n.spec.now n.stage q y z ≡ Ok c.in_ok-value.field-0 in
    let is_found = subst (Is s p.numbers) (to_z-of_z w64 low fit) (subst (λ y. Is s y (to_z w64 (of_z w64 low))) x (subst (λ n. Is n c.as_slice-x.result.now (to_z w64 (of_z w64 low))) c.low.ensures.same c.in_ok-value.ensures.found)) in
    let offered = subst (λ z. c.offer.new.self.best ≡ better_by best z p.numbers) (to_z-of_z w64 v fits) c.offer.ensures.best in
    inl (is_taken s.calls s.spec.now s.stage q p low is_low v best c.offer.new.self.best (is_found ∙ ap Ok c.in-Solution.is) offered)

pub returns-in-Children-eq0-clause-visited : goal.returns-in-Children-eq0-clause-visited
returns-in-Children-eq0-clause-visited g c =
    let s = c.args.self.now.nodes in
    let best = c.args.self.now.best in
    let q = c.args.at.now.path in
    let p = node c.args.at.now.node.numbers c.args.at.now.node.above in
    let low = c.in_ok-low.low in
    let fit : FitsSigned w64 low = search rules in
    let x = c.as_slice-x.ensures.numbers in
    let is_low = subst (λ (y : Record). low_of s.calls s.spec.now s.stage q (node y p.above) ≡ Ok low) x c.in_ok-low.ensures.low in
    let Is : Bounding → Record → ℤ → Type 0 = λ n y z. found n.calls n.spec.now n.stage q y z ≡ Ok c.in_ok-value.field-0 in
    let is_found = subst (Is s p.numbers) (to_z-of_z w64 low fit) (subst (λ y. Is s y (to_z w64 (of_z w64 low))) x (subst (λ n. Is n c.as_slice-x.result.now (to_z w64 (of_z w64 low))) c.low.ensures.same c.in_ok-value.ensures.found)) in
    inr (is_barren s.calls s.spec.now s.stage q p low is_low best best (is_found ∙ ap Ok c.in-Children-eq0.is ∙ ap (λ n. Ok (Children n)) (omega (arith, c.in-Children-eq0.field-0-test))) refl)

pub returns-in_ok-children-in-Children-clause-visited : goal.returns-in_ok-children-in-Children-clause-visited
returns-in_ok-children-in-Children-clause-visited g c =
    let s = c.args.self.now.nodes in
    let best = c.args.self.now.best in
    let q = c.args.at.now.path in
    let p = node c.args.at.now.node.numbers c.args.at.now.node.above in
    let low = c.in_ok-low.low in
    let fit : FitsSigned w64 low = search rules in
    let x = c.as_slice-x.ensures.numbers in
    let is_low = subst (λ (y : Record). low_of s.calls s.spec.now s.stage q (node y p.above) ≡ Ok low) x c.in_ok-low.ensures.low in
    let Is : Bounding → Record → ℤ → Type 0 = λ n y z. found n.calls n.spec.now n.stage q y z ≡ Ok c.in_ok-value.field-0 in
    let is_found = subst (Is s p.numbers) (to_z-of_z w64 low fit) (subst (λ y. Is s y (to_z w64 (of_z w64 low))) x (subst (λ n. Is n c.as_slice-x.result.now (to_z w64 (of_z w64 low))) c.low.ensures.same c.in_ok-value.ensures.found)) in
    let n = c.in-Children.count in
    let xs = c.children.new.room in
    let same = c.found.ensures.same ∙ c.low.ensures.same in
    let room : HasRoom q (Children n) = subst (HasRoom q) c.in-Children.is c.in_ok-value.ensures.room in
    let whole : length c.args.self.now.children ≡ 64 = search rules in
    let m = length (take c.from.result c.args.self.now.children) in
    let old : length (take c.from.result c.args.self.now.children) ≡ n = length-take-le c.from.result c.args.self.now.children (omega (arith, whole, room.0, c.from.ensures)) ∙ c.from.ensures in
    let count : length xs ≡ n = omega (arith, c.children.auto.room, old) in
    let some : 0 < n = omega (arith, c.in-Children.count-test) in
    let All_of : Bounding → Record → ℕ → Type 0 = λ t y k. children_of t.calls t.spec.now t.stage y k ≡ Ok xs in
    let all = subst (All_of s p.numbers) old (subst (λ (y : Record). All_of s y m) x (subst (λ (t : Bounding). All_of t c.as_slice-x.result.now m) same c.in_ok-children-in-Children.ensures.children)) in
    let long = subst (λ (y : Record). All (λ (z : Record). length z ≡ length y) xs) x c.in_ok-children-in-Children.ensures.long in
    let branched = is_branched s.calls s.spec.now s.stage q p low is_low n xs best best (is_found ∙ ap Ok c.in-Children.is) room some all count long refl in
    let front : take n (xs ++ drop c.from.result c.args.self.now.children) ≡ xs = ap (λ k. take k (xs ++ drop c.from.result c.args.self.now.children)) (sym count) ∙ take-append_seam xs (drop c.from.result c.args.self.now.children) in (
      subst (λ z. IsBranched s.calls s.spec.now s.stage q p best best z (take n (xs ++ drop c.from.result c.args.self.now.children))) (sym (to_z-of_z w64 low fit)) (subst (IsBranched s.calls s.spec.now s.stage q p best best low) (sym front) branched),
      ap length front ∙ count,
    )
