use Rattle.msl_grammar.specs.ScriptGrammar as grammar
use Rattle.msl_grammar.proofs.Exits.{is_err}
use Rattle.msl_data_read.proofs.ProgramLeaves.{goes_on}
use Rattle.msl_data_read.proofs.step.array.Goals as goal

pub returns-in_err-blocks-clause-read : goal.returns-in_err-blocks-clause-read
returns-in_err-blocks-clause-read c = rw (is_err c.from_residual.result c.from_residual.ensures.1) (λ k. c.in_err-blocks.ensures.read _)

pub returns-clause-read : goal.returns-clause-read
returns-clause-read c = goes_on c.args.c.now c.number.new.c c.maybe_part.new.c grammar.array_rule (grammar.maybe_part c.in_ok-blocks.blocks) c.maybe_part.result (λ k. c.in_ok-blocks.ensures.read _) c.maybe_part.ensures.read
