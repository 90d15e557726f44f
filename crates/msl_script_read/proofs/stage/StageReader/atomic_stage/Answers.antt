use Rattle.std.proofs.Common.{◌∙◌}
use Rattle.msl_program.specs.declared.stage.Stage.TheVariants.{Atomic}
use Rattle.msl_grammar.proofs.Exits.{is_err}
use Rattle.msl_script_read.proofs.StageLeaves.{along, atomic_goes}
use Rattle.msl_script_read.proofs.stage.StageReader.atomic_stage.Goals as goal

pub returns-in_err-f-clause-read : goal.returns-in_err-f-clause-read
returns-in_err-f-clause-read c =
    let now = c.in_ok-counts.counts in
    rw (is_err c.from_residual-in_err-f.result c.from_residual-in_err-f.ensures.1)
    (λ nest k. along _ _ _ (atomic_goes c.args.self.now.known.now nest c.args.counts k c.args.c.now c.more.new.c now c.in_ok-counts.ensures.tested c.requires.said) (c.in_err-f.ensures.read (λ f. k (now, Atomic f))))

pub returns-clause-read : goal.returns-clause-read
returns-clause-read c =
    let now = c.in_ok-counts.counts in
    λ nest k. atomic_goes c.args.self.now.known.now nest c.args.counts k c.args.c.now c.more.new.c now c.in_ok-counts.ensures.tested c.requires.said ∙ c.in_ok-f.ensures.read (λ f. k (now, Atomic f))
