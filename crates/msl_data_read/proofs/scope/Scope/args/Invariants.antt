use Rattle.std.proofs.Common.{◌≡◌, ◌≤◌, length}
use Rattle.msl_grammar.specs.declared.used.Used.{Used}
use Rattle.msl_grammar.specs.ScriptGrammar.{State, one_arg, more_args, reading}
use Rattle.msl_data_read.proofs.scope.Scope.args.Given as goal

abbrev pub invariant-loop-more : goal.invariant-loop-more
invariant-loop-more l = record {
  fun : l.more.fun ≡ l.fn.used.fun;
  shorter : length l.c ≤ length l.fn.c;
  goes : (k : Used → State) → reading l.fn.c (one_arg l.self.program.now l.fn.used k) ≡ reading l.c (more_args l.self.program.now l.more k);
}

abbrev pub decreases-loop-more : goal.decreases-loop-more
decreases-loop-more l = length l.c
