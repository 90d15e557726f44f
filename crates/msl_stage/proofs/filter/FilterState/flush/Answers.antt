use Rattle.std.proofs.Common.{sym, ◌∙◌, subst}
use Rattle.msl_stage.specs.Answers.{Gives}
use Rattle.msl_stage.proofs.Filtering.{flushed_is, outputs_at}
use Rattle.msl_stage.proofs.filter.FilterState.flush.Goals as goal

pub returns : goal.returns
returns c =
    let w = c.args.self.now in
    let f = w.spec.now in
    let same = outputs_at c.args.funs.now c.calls.result.funs.now w.stage c.calls.result.stage w.state c.scope-scope.result f.flush f.last c.calls.ensures.funs c.calls.ensures.stage c.scope-scope.ensures.state in
    record { flush = subst (λ want. Gives want c.outputs.result) (same ∙ sym (flushed_is c.args.funs.now f w.stage w.state)) c.outputs.ensures.outs }
