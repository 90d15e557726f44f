use Rattle.std.proofs.Common.{◌∙◌}
use Rattle.msl_program.specs.declared.stage.Stage.TheVariants.{DivCon}
use Rattle.msl_grammar.proofs.Exits.{is_err}
use Rattle.msl_script_read.proofs.StageLeaves.{along, divcon_goes}
use Rattle.msl_script_read.proofs.stage.StageReader.divcon_stage.Goals as goal

pub returns-in_err-d-clause-read : goal.returns-in_err-d-clause-read
returns-in_err-d-clause-read c =
    let now = c.in_ok-counts.counts in
    let read = rw c.divcons.ensures at c.in_err-d.ensures.read in
    rw (is_err c.from_residual-in_err-d.result c.from_residual-in_err-d.ensures.1)
    (λ nest k. along _ _ _ (divcon_goes c.args.self.now.known.now nest c.args.counts k c.args.c.now c.more.new.c now c.in_ok-counts.ensures.tested c.requires.said) (read (λ r. k (now, DivCon r.0 r.1))))

pub returns-clause-read : goal.returns-clause-read
returns-clause-read c =
    let now = c.in_ok-counts.counts in
    let read = rw c.divcons.ensures at c.in_ok-d.ensures.read in
    λ nest k. divcon_goes c.args.self.now.known.now nest c.args.counts k c.args.c.now c.more.new.c now c.in_ok-counts.ensures.tested c.requires.said ∙ read (λ r. k (now, DivCon r.0 r.1))
