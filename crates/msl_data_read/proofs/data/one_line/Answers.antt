use Rattle.msl_grammar.proofs.Exits.{is_err}
use Rattle.msl_data_read.proofs.ProgramLeaves.{line_goes_on}
use Rattle.msl_data_read.proofs.data.one_line.Goals as goal

pub returns-in_err-name-clause-read : goal.returns-in_err-name-clause-read
returns-in_err-name-clause-read c = rw (is_err c.from_residual.result c.from_residual.ensures.1) (λ k. c.in_err-name.ensures.read c.args.known.now k)

pub returns-clause-read : goal.returns-clause-read
returns-clause-read c =
    line_goes_on c.args.known.now c.args.program.now c.line_rest.new.program c.in_ok-name.name c.args.c.now c.line_name.new.c c.line_rest.new.c c.line_rest.result
    (λ k. c.in_ok-name.ensures.read c.args.known.now k) c.line_rest.ensures.read
