use Rattle.std.proofs.Common.{List, subst}
use Rattle.msl_fun.specs.declared.funs.Fun.{Fun}
use Rattle.msl_line.specs.Duties.{Does}
use Rattle.msl_line.specs.Lines.{Means}
use Rattle.msl_stage.specs.Endings.{RanTold as EndedTold, ends}
use Rattle.msl_stage.specs.Lines.{LineRuns}
use Rattle.msl_run.proofs.Endings.{is_ran, starved}
use Rattle.msl_run.proofs.run.run_script.Goals as goal

pub returns-in_default-clause-ran : goal.returns-in_default-clause-ran
returns-in_default-clause-ran g c =
    starved c.args.how c.args.script.now c.main.ensures.whole (g.S.Source.left c.args.src.now) (g.K.Sink.held c.args.out.now)

pub returns-clause-ran : goal.returns-clause-ran
returns-clause-ran g c =
    let s = c.args.script.now in
    let line = c.in-Ok.line.items in
    let e = ends (g.S.Source.left c.args.src.now) (g.S.Source.left c.run_rounds.new.src) (g.K.Sink.held c.args.out.now) (g.K.Sink.held c.run_rounds.new.out) in
    let ran = subst (λ (funs : List Fun). EndedTold (LineRuns Does funs line) e c.run_rounds.result) c.funs.ensures c.run_rounds.ensures.ran in
    is_ran c.of_end.result c.run_rounds.result c.of_end.ensures (LineRuns Does s.funs line) (Means c.args.how s) e c.in-Ok.ensures.runs ran
