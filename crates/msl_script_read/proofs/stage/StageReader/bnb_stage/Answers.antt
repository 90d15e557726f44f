use Rattle.std.proofs.Common.{◌∙◌}
use Rattle.msl_program.specs.declared.stage.Stage.TheVariants.{Bnb}
use Rattle.msl_grammar.proofs.Exits.{is_err}
use Rattle.msl_script_read.proofs.StageLeaves.{along, bnb_goes}
use Rattle.msl_script_read.proofs.stage.StageReader.bnb_stage.Goals as goal

pub returns-in_err-b-clause-read : goal.returns-in_err-b-clause-read
returns-in_err-b-clause-read c =
    let now = c.in_ok-counts.counts in
    let read = rw c.bnbs.ensures at c.in_err-b.ensures.read in
    rw (is_err c.from_residual-in_err-b.result c.from_residual-in_err-b.ensures.1)
    (λ nest k. along _ _ _ (bnb_goes c.args.self.now.known.now nest c.args.counts k c.args.c.now c.more.new.c now c.in_ok-counts.ensures.tested c.requires.said) (read (λ r. k (now, Bnb r.0 r.1))))

pub returns-clause-read : goal.returns-clause-read
returns-clause-read c =
    let now = c.in_ok-counts.counts in
    let read = rw c.bnbs.ensures at c.in_ok-b.ensures.read in
    λ nest k. bnb_goes c.args.self.now.known.now nest c.args.counts k c.args.c.now c.more.new.c now c.in_ok-counts.ensures.tested c.requires.said ∙ read (λ r. k (now, Bnb r.0 r.1))
