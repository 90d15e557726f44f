use Rattle.std.proofs.Common.{arith, ◌<◌, ◌≤◌, ◌%◌, List, length, sym, subst}
use Rattle.msl_stage.specs.Answers.{MayMake, made_by}
use Rattle.msl_stage.specs.Lines.{AnyOf}
use Rattle.msl_stage.proofs.Steps.{any_makes}
use Rattle.msl_stage.proofs.step.Workers.work.Goals as goal

pub returns-clause-made : goal.returns-clause-made
returns-clause-made g c =
    let all = c.self.inside.workers.items in
    let k = c.self.inside.next % c.len.result in
    let some : 1 ≤ length all = subst (λ (ws : List g.row.O.Denot). 1 ≤ length ws) (sym c.self.view_is) c.requires.some in
    let lt : k < length all = omega (arith, some, c.len.ensures, c.self.inside.workers.ok.0) in
    subst (λ (ws : List g.row.O.Denot). MayMake (AnyOf g.O.OneToOne.one ws c.args.x.now.numbers) c.work.new.x.numbers (made_by c.work.result c.work.new.why)) c.self.view_is
    (any_makes g.O.OneToOne.one (Unit {0}) all k c.index_mut.result.now c.args.x.now.numbers c.work.new.x.numbers (made_by c.work.result c.work.new.why) lt c.index_mut.ensures.value c.work.ensures.made)
