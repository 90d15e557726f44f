use Rattle.msl_pruning.proofs.Ends.{whole}
use Rattle.msl_pruning.proofs.rounds.in_turns.Goals as goal

pub returns-in-Ok : goal.returns-in-Ok
returns-in-Ok g c = whole g.K.Task.funs g.K.Task.spec g.K.Task.stage g.K.Task.root c.by_turns.new.search.best c.in-Ok.ensures.done c.answer.result c.answer.ensures
