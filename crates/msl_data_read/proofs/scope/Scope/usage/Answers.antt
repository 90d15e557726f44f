use Rattle.msl_grammar.specs.ScriptGrammar.{a_use, maybe_args}
use Rattle.msl_grammar.proofs.Exits.{is_err}
use Rattle.msl_data_read.proofs.ProgramLeaves.{goes_on}
use Rattle.msl_data_read.proofs.scope.Scope.usage.Goals as goal

pub returns-in_err-used-clause-read : goal.returns-in_err-used-clause-read
returns-in_err-used-clause-read c = rw (is_err c.from_residual.result c.from_residual.ensures.1) (λ k. c.in_err-used.ensures.read _)

pub returns-clause-read : goal.returns-clause-read
returns-clause-read c =
    let m = c.args.self.now.known.now in
    let p = c.args.self.now.program.now in
    goes_on c.args.c.now c.use_name.new.c c.maybe_args.new.c (a_use m p) (maybe_args p c.in_ok-used.used) c.maybe_args.result (λ k. c.in_ok-used.ensures.read _) c.maybe_args.ensures.read
