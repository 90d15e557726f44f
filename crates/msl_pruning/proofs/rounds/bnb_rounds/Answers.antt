use Rattle.std.proofs.Common.{◌≡◌, length, subst, rules}
use Rattle.msl_base.specs.Streams.{Record}
use Rattle.msl_fun.specs.Meaning.{params_of}
use Rattle.msl_program.specs.Searches.{IsAnswer}
use Rattle.msl_stage.specs.Answers.{MayAnswer}
use Rattle.msl_pruning.proofs.Ends.{of_width}
use Rattle.msl_pruning.proofs.rounds.bnb_rounds.Goals as goal

pub returns : goal.returns
returns c =
    let funs = c.args.funs.now in
    let b = c.args.b.now in
    let x = c.args.xs.now in
    let wide : length x ≡ params_of funs b.bound = search rules in
    of_width funs b c.args.stage x wide c.in_turns.result (subst (λ (r : Record). MayAnswer (IsAnswer funs b c.args.stage r) c.in_turns.result) c.of.ensures c.in_turns.ensures)
