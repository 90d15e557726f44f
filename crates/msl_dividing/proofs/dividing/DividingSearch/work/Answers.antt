use Rattle.std.proofs.Common.{◌≡◌, ◌≤◌, length, Option, Some, None, Result, Ok, Err, IfOk, refl, sym, subst, inl, inr, arith}
use Rattle.msl_base.specs.Streams.{Record, Outcome}
use Rattle.msl_base.specs.declared.answer.Halt.{Halt}
use Rattle.msl_base.specs.declared.answer.Halt.TheVariants as halt
use Rattle.msl_dividing.specs.Dividing.{value_of, Finds}
use Rattle.msl_dividing.proofs.Finding.{finds_of, still_problem, splits_all, shuts}
use Rattle.msl_fun.specs.Meaning.{results_of}
use Rattle.msl_program.proofs.AlongLaws.{has_all_parts}
use Rattle.msl_dividing.proofs.dividing.DividingSearch.work.Goals as goal
use Rattle.msl_dividing.proofs.dividing.DividingSearch.work.Goals.{in-Ok-Some, in-Err+in-Fault}

pub returns-in-Ok-None-clause-works : goal.returns-in-Ok-None-clause-works
returns-in-Ok-None-clause-works g c =
    let k = g.K.Task in
    let me = c.args.self.now in
    let at = c.args.at.now in
    let parts = c.solve_or_divide.new.parts in
    let divided = finds_of k.funs k.spec k.stage k.root me.division me.funs.now me.root at.path at.node parts (Ok None) c.requires
    (subst (λ (o : Option Record). Finds me.division.calls me.division.spec.now me.division.stage at.path at.node parts (Ok o)) c.in-Ok-None.field-0-is c.in-Ok-None.ensures.found) in
    let here = still_problem k.funs k.spec k.stage k.root me.division c.solve_or_divide.new.division me.funs.now me.funs.now me.root me.root at.path at.node c.in-Ok-None.ensures.same refl refl c.requires in
    let few : length parts ≤ 64 = omega (arith, has_all_parts k.funs k.spec k.stage at.node parts divided.divides, c.requires.fits.few_parts) in
    inr (splits_all k.funs k.spec k.stage k.root c.solve_or_divide.new.division me.funs.now me.root at.path at.node parts c.args.held.now.items c.hold.new.held.items me.splits c.add.new.self me.solved
    here divided few c.in_ok-hold-in-Ok-None.ensures c.in_ok-add-in-Ok-None.ensures.ok)

pub returns-clause-works : goal.returns-clause-works
returns-clause-works g c =
    let k = g.K.Task in
    let me = c.args.self.now in
    let at = c.args.at.now in
    let parts = c.solve_or_divide.new.parts in
    let v : Outcome = c.match-solve_or_divide.value in
    let finds : Result (Option Record) Halt → Type 0 = Finds me.division.calls me.division.spec.now me.division.stage at.path at.node parts in
    let is_value : Outcome → Type 0 = λ r. (r ≡ value_of k.funs k.spec k.stage at.path at.node) × IfOk r (λ y. length y ≡ results_of k.funs k.spec.solve) in
    let of = finds_of k.funs k.spec k.stage k.root me.division me.funs.now me.root at.path at.node parts in
    let found : is_value v =
    elim c.match-solve_or_divide.branch [
      | in-Ok-Some w ↦
          let f = of (Ok (Some w.in-Ok-Some.value)) c.requires (subst (λ (o : Option Record). finds (Ok o)) w.in-Ok-Some.field-0-is w.in-Ok-Some.ensures.found) in
          let is : v ≡ Ok w.in-Ok-Some.value = rw w.in-Ok-Some.field-0-is at w.value-is in
          subst is_value (sym is) (sym f.0, f.1)
      | in-Err+in-Fault w ↦
          let f = of (Err (halt.Fault w.in-Fault.fault)) c.requires (subst (λ (h : Halt). finds (Err h)) w.in-Fault.is w.in-Err.ensures.found) in
          subst is_value (sym w.value-is) (sym f, tt)
    ] in
    inl (shuts k.funs k.spec k.stage k.root _ at.path at.node v c.args.held.now.items c.args.held.now.items me.splits me.solved c.add-2.new.self refl c.in_ok-add.ensures.ok c.requires.met found.0 found.1)
