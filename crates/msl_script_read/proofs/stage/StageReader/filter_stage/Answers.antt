use Rattle.std.proofs.Common.{◌∙◌, ◌+◌}
use Rattle.msl_program.specs.declared.stage.Stage.TheVariants.{Filter}
use Rattle.msl_grammar.proofs.Exits.{is_err}
use Rattle.msl_script_read.proofs.StageLeaves.{along, filter_goes}
use Rattle.msl_script_read.proofs.stage.StageReader.filter_stage.Goals as goal

pub returns-in_err-f-clause-read : goal.returns-in_err-f-clause-read
returns-in_err-f-clause-read c =
    let now = c.in_ok-counts.counts in
    let read = rw c.filters.ensures at c.in_err-f.ensures.read in
    rw (is_err c.from_residual-in_err-f.result c.from_residual-in_err-f.ensures.1)
    (λ k. along _ _ _ (filter_goes c.args.self.now.known.now c.args.nest c.args.counts k c.args.c.now c.more.new.c now c.in_ok-counts.ensures.tested c.requires.said c.if-nest.false c.if-counts-ge-MOST_FILTERS.false)
    (read (λ f. k (record now { filters = now.filters + 1 }, Filter f))))

pub returns-clause-read : goal.returns-clause-read
returns-clause-read c =
    let now = c.in_ok-counts.counts in
    let read = rw c.filters.ensures at c.in_ok-f.ensures.read in
    λ k. filter_goes c.args.self.now.known.now c.args.nest c.args.counts k c.args.c.now c.more.new.c now c.in_ok-counts.ensures.tested c.requires.said c.if-nest.false c.if-counts-ge-MOST_FILTERS.false
    ∙ read (λ f. k (record now { filters = now.filters + 1 }, Filter f))
