use Rattle.std.proofs.Common.{Ok, sym, ap, subst}
use Rattle.msl_bounding.specs.declared.bounding.Bounding.{Bounding}
use Rattle.msl_program.specs.Searches.{node}
use Rattle.msl_pruning.specs.Visiting.{IsVisited}
use Rattle.msl_pruning.proofs.Works.{can_hold, works, still_live}
use Rattle.msl_pruning.proofs.pruning.PruningSearch.work.Goals as goal

pub hold_all-requires-clause-room : goal.hold_all-requires-clause-room
hold_all-requires-clause-room g c =
    let task = g.K.Task in
    let old = c.args.self.now in
    let new = c.visit.new.self in
    let q = c.args.at.now.path in
    let n = c.args.at.now.node in
    let live = still_live task.funs task.spec task.stage task.root old.nodes new.nodes old.funs.now new.funs.now old.root new.root c.visit.ensures.nodes (ap (λ f. f.now) c.visit.ensures.funs) c.visit.ensures.root q n c.requires in
    let visited = subst (λ (s : Bounding). IsVisited s.calls s.spec.now s.stage q (node n.numbers n.above) old.best new.best new.children (Ok c.in-Ok.inner)) (sym c.visit.ensures.nodes) c.in-Ok.ensures.visited in
    can_hold task.funs task.spec task.stage task.root new.nodes new.funs.now new.root q n live old.best new.best new.children c.in-Ok.inner visited

pub returns-in_ok-hold_all-in-Ok-clause-works : goal.returns-in_ok-hold_all-in-Ok-clause-works
returns-in_ok-hold_all-in-Ok-clause-works g c =
    let task = g.K.Task in
    let old = c.args.self.now in
    let new = c.visit.new.self in
    let q = c.args.at.now.path in
    let n = c.args.at.now.node in
    let live = still_live task.funs task.spec task.stage task.root old.nodes new.nodes old.funs.now new.funs.now old.root new.root c.visit.ensures.nodes (ap (λ f. f.now) c.visit.ensures.funs) c.visit.ensures.root q n c.requires in
    let visited = subst (λ (s : Bounding). IsVisited s.calls s.spec.now s.stage q (node n.numbers n.above) old.best new.best new.children (Ok c.in-Ok.inner)) (sym c.visit.ensures.nodes) c.in-Ok.ensures.visited in
    works task.funs task.spec task.stage task.root new.nodes new.funs.now new.root q n live old.best new.best new.children c.args.held.now.items c.hold_all.new.held.items c.in-Ok.inner visited c.in_ok-hold_all-in-Ok.ensures
