use Rattle.msl_dividing.proofs.Finding.{covers, combines, answers}
use Rattle.msl_dividing.proofs.rounds.in_turns.Goals as goal

pub combine_cover-requires-clause-covers : goal.combine_cover-requires-clause-covers
combine_cover-requires-clause-covers g c =
    let k = g.K.Task in
    let found = c.by_turns.new.search in
    let done = c.in-Ok.ensures.done in
    covers k.funs k.spec k.stage k.root found.splits found.solved done.0 done.1 done.2 done.3

pub returns-in-Ok : goal.returns-in-Ok
returns-in-Ok g c =
    let k = g.K.Task in
    let found = c.by_turns.new.search in
    let done = c.in-Ok.ensures.done in
    answers k.funs k.spec k.stage k.root c.args.funs.now c.args.d.now c.args.stage found.splits found.solved _ c.combine_cover.result c.requires.funs c.requires.spec c.requires.stage
    (combines k.funs k.spec k.stage k.root found.splits found.solved done.0 done.1 done.2 done.3) c.combine_cover.ensures
