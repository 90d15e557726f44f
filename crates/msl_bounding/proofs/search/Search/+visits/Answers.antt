use Rattle.std.proofs.Common.{◌≡◌, ◌<◌, ◌+◌, ◌++◌, [], ◌∷◌, FitsSigned, w64, to_z, of_z, length, get_or, drop, Some, Result, Ok, Err, sym, ap, subst, ◌∙◌, arith, rules}
use Rattle.std.proofs.lemmas.Int.{to_z-of_z}
use Rattle.std.proofs.lemmas.List.{get_or_read}
use Rattle.msl_base.specs.declared.fault.Fault.{Fault}
use Rattle.msl_lists.specs.Whole.{◌>>=◌}
use Rattle.msl_base.specs.Streams.{Record}
use Rattle.msl_program.specs.Along.{Path}
use Rattle.msl_program.specs.Searches.{node, solution}
use Rattle.msl_stage.specs.declared.one.Halted.{Halted}
use Rattle.msl_bounding.specs.Nodes.{Tells, Leaves, found}
use Rattle.msl_bounding.specs.Visits.{Best, best_after, best_below, better_by, visits, visits_from}
use Rattle.msl_bounding.specs.declared.bounding.Bounding.{Bounding}
use Rattle.msl_bounding.proofs.Visits.{told_on, left_on, found_faults, found_solution, found_children, next_child}
use Rattle.msl_bounding.proofs.search.Search.+visits.Goals as goal

pub visit-returns-in_err-found-clause-best : goal.visit-returns-in_err-found-clause-best
visit-returns-in_err-found-clause-best t c =
    let s = c.args.self.now.nodes in
    let q = c.args.path.now in
    let p = node c.args.x.now c.args.above in
    let low = c.in_ok-low.low in
    let fit : FitsSigned w64 low = search rules in
    let is_low = to_z-of_z w64 low fit in
    let why = c.found.new.why in
    let told = subst (λ z. Tells {B = Halted} (found s.calls s.spec.now s.stage q p.numbers z) (Err c.in_err-found.field-0.0) why) is_low
    (subst (λ (n : Bounding). Tells {B = Halted} (found n.calls n.spec.now n.stage q p.numbers (to_z w64 (of_z w64 low))) (Err c.in_err-found.field-0.0) why) c.low.ensures.same c.in_err-found.ensures.found) in
    told_on _ _ _ c.in_err-found.field-0.0 (λ f e. found_faults s c.args.self.now.best q p low c.in_ok-low.ensures.low f e) _ c.from_residual-in_err-found.result why c.from_residual-in_err-found.ensures.1 told

pub visit-returns-in-Solution-clause-best : goal.visit-returns-in-Solution-clause-best
visit-returns-in-Solution-clause-best t c =
    let s = c.args.self.now.nodes in
    let best = c.args.self.now.best in
    let q = c.args.path.now in
    let p = node c.args.x.now c.args.above in
    let low = c.in_ok-low.low in
    let fit : FitsSigned w64 low = search rules in
    let is_low = to_z-of_z w64 low fit in
    let v = c.in-Solution.value in
    let fits : FitsSigned w64 v = search rules in
    let is_v = to_z-of_z w64 v fits in
    let is_found = subst (λ (n : Bounding). found n.calls n.spec.now n.stage q p.numbers low ≡ Ok c.in_ok-found.found) c.low.ensures.same (rw is_low at c.in_ok-found.ensures.found) ∙ ap Ok c.in-Solution.is in
    let offered = subst (λ (n : Bounding). c.offer.new.self.best ≡ better_by n best p.numbers (solution v)) (c.found.ensures.same ∙ c.low.ensures.same) (rw is_v at c.offer.ensures.best) in
    found_solution s best q p low c.in_ok-low.ensures.low v is_found ∙ ap Ok (sym offered)

pub visit-returns-in-Children-clause-best : goal.visit-returns-in-Children-clause-best
visit-returns-in-Children-clause-best t c =
    let s = c.args.self.now.nodes in
    let best = c.args.self.now.best in
    let q = c.args.path.now in
    let p = node c.args.x.now c.args.above in
    let low = c.in_ok-low.low in
    let fit : FitsSigned w64 low = search rules in
    let is_low = to_z-of_z w64 low fit in
    let n = c.in-Children.n in
    let is_found = subst (λ (m : Bounding). found m.calls m.spec.now m.stage q p.numbers low ≡ Ok c.in_ok-found.found) c.low.ensures.same (rw is_low at c.in_ok-found.ensures.found) ∙ ap Ok c.in-Children.is in
    let left = subst (λ (m : Bounding). Leaves (best_below m best q p.numbers low n) c.visit_few.new.self.best c.visit_few.result c.visit_few.new.why) (c.found.ensures.same ∙ c.low.ensures.same) (rw is_low at c.visit_few.ensures.best) in
    subst (λ w. Leaves w c.visit_few.new.self.best c.visit_few.result c.visit_few.new.why) (sym (found_children s best q p low c.in_ok-low.ensures.low n is_found)) left

pub visit-returns-in-Children-2-clause-best : goal.visit-returns-in-Children-2-clause-best
visit-returns-in-Children-2-clause-best t c =
    let s = c.args.self.now.nodes in
    let best = c.args.self.now.best in
    let q = c.args.path.now in
    let p = node c.args.x.now c.args.above in
    let low = c.in_ok-low.low in
    let fit : FitsSigned w64 low = search rules in
    let is_low = to_z-of_z w64 low fit in
    let n = c.in-Children-2.n in
    let is_found = subst (λ (m : Bounding). found m.calls m.spec.now m.stage q p.numbers low ≡ Ok c.in_ok-found.found) c.low.ensures.same (rw is_low at c.in_ok-found.ensures.found) ∙ ap Ok c.in-Children-2.is in
    let left = subst (λ (m : Bounding). Leaves (best_below m best q p.numbers low n) c.visit_many.new.self.best c.visit_many.result c.visit_many.new.why) (c.found.ensures.same ∙ c.low.ensures.same) (rw is_low at c.visit_many.ensures.best) in
    subst (λ w. Leaves w c.visit_many.new.self.best c.visit_many.result c.visit_many.new.why) (sym (found_children s best q p low c.in_ok-low.ensures.low n is_found)) left

pub visit_all-returns-clause-best : goal.visit_all-returns-clause-best
visit_all-returns-clause-best t c =
    let s = c.args.self.now.nodes in
    let best = c.args.self.now.best in
    let q = c.args.path.now in
    let low = c.args.low in
    let is_low = to_z-of_z w64 low c.ranges.low in
    let left = subst (λ (m : Bounding). Leaves (best_after m best (visits_from m q low 0 c.children.new.room)) c.visit_each.new.self.best c.visit_each.result c.visit_each.new.why) c.children.ensures.same (rw is_low at c.visit_each.ensures.best) in
    subst (λ w. Leaves w c.visit_each.new.self.best c.visit_each.result c.visit_each.new.why) (sym (ap (λ r. r >>= λ xs. best_after s best (visits_from s q low 0 xs)) c.in_ok-children.ensures.children)) left

pub visit_each-returns-in_err-visit-clause-best : goal.visit_each-returns-in_err-visit-clause-best
visit_each-returns-in_err-visit-clause-best t c =
    let s = c.args.self.now.nodes in
    let q = c.args.path.now in
    let low = to_z w64 (of_z w64 c.args.low) in
    let is_low : low ≡ c.args.low = to_z-of_z w64 c.args.low c.ranges.low in
    let k = c.loop-k.k in
    let xs = c.args.children.now in
    let lt : k < length xs = omega (arith, c.loop-k-test.true, c.loop-k.auto.k-end) in
    let there : c.unwrap-at.result ≡ q ++ k ∷ [] = search rules in
    let y : c.as_slice.result.now ≡ get_or xs k [] = c.as_slice.ensures.numbers ∙ get_or_read xs k _ lt c.index-children-k.is [] in
    let deep = c.requires.deep (omega (arith, lt)) in
    let rest : Best → Result Best Fault = λ b. best_after s b (visits_from s q low (k + 1) (drop (k + 1) xs)) in
    let step = next_child s q deep low c.loop-k.self.best xs k lt in
    let m = c.loop-k.self.nodes in
    let Left : Bounding → Path → Record → Type 0 =
    λ n at y. Leaves {B = Unit {0}} (best_after n c.loop-k.self.best (visits n at (node y (Some low)))) c.visit.new.self.best (Err c.in_err-visit.field-0.0) c.visit.new.why in
    let child = subst (λ (n : Bounding). Left n (q ++ k ∷ []) (get_or xs k [])) c.loop-k.invariant.same (subst (λ z. Left m (q ++ k ∷ []) z) y (subst (λ at. Left m at c.as_slice.result.now) there c.in_err-visit.ensures.best)) in
    left_on _ _ _ c.in_err-visit.field-0.0 (λ f e. ap (λ z. best_after s c.args.self.now.best (visits_from s q z 0 xs)) (sym is_low) ∙ sym c.loop-k.invariant.rest ∙ step ∙ ap (λ r. r >>= rest) e) _ (Unit {0}) c.visit.new.self.best c.from_residual.result c.visit.new.why c.from_residual.ensures.1 child

pub visit_each-loop-k-preserved : goal.visit_each-loop-k-preserved
visit_each-loop-k-preserved t c =
    let s = c.args.self.now.nodes in
    let q = c.args.path.now in
    let low = to_z w64 (of_z w64 c.args.low) in
    let is_low : low ≡ c.args.low = to_z-of_z w64 c.args.low c.ranges.low in
    let k = c.loop-k.k in
    let xs = c.args.children.now in
    let lt : k < length xs = omega (arith, c.loop-k-test.true, c.loop-k.auto.k-end) in
    let there : c.unwrap-at.result ≡ q ++ k ∷ [] = search rules in
    let y : c.as_slice.result.now ≡ get_or xs k [] = c.as_slice.ensures.numbers ∙ get_or_read xs k _ lt c.index-children-k.is [] in
    let deep = c.requires.deep (omega (arith, lt)) in
    let rest : Best → Result Best Fault = λ b. best_after s b (visits_from s q low (k + 1) (drop (k + 1) xs)) in
    let step = next_child s q deep low c.loop-k.self.best xs k lt in
    let child = subst (λ (n : Bounding). best_after n c.loop-k.self.best (visits n (q ++ k ∷ []) (node (get_or xs k []) (Some low))) ≡ Ok c.visit.new.self.best) c.loop-k.invariant.same
    (rw there at (rw y at c.in_ok-visit.ensures.best)) in
    record {
      same = c.visit.ensures.same ∙ c.loop-k.invariant.same;
      rest = sym (ap (λ r. r >>= rest) child) ∙ sym step ∙ c.loop-k.invariant.rest;
    }
