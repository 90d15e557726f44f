use Rattle.msl_run.specs.Causes.{count}
use Rattle.msl_stage.specs.Endings.{ends}
use Rattle.msl_words.specs.Words.{command}
use Rattle.msl_run.proofs.Scripts.{complete}
use Rattle.msl_run.proofs.run.muesli_plain.Goals as goal

pub returns-clause-complete : goal.returns-clause-complete
returns-clause-complete g c = λ runnable l r w.
    let run = c.run_words-status in
    complete (count (g.L.Library.faults c.args.lib.now) (g.L.Library.faults run.new.lib)) (count (g.S.Source.faults c.args.src.now) (g.S.Source.faults run.new.src)) (count (g.K.Sink.faults c.args.out.now) (g.K.Sink.faults run.new.out)) l r w
    (ends (g.S.Source.left c.args.src.now) (g.S.Source.left run.new.src) (g.K.Sink.held c.args.out.now) (g.K.Sink.held run.new.out)) run.result run.ensures.cause
    (command c.args.words.now) (g.L.Library.file c.args.lib.now) run.ensures.ran runnable
