use Rattle.std.proofs.Common.{◌≡◌, ◌≤◌, ℕ, length}
use Rattle.msl_program.specs.Programs.{Program}
use Rattle.msl_grammar.specs.Uses.{ArePaired}
use Rattle.msl_program.specs.Programs.{no_lines}
use Rattle.msl_grammar.specs.ScriptGrammar.{State, lines, reading}
use Rattle.msl_data_read.proofs.data.lines.Given as goal

abbrev pub invariant-loop-c : goal.invariant-loop-c
invariant-loop-c l = record {
  program : ArePaired l.program;
  shorter : length l.c ≤ length l.fn.c;
  goes : (k : Program × ℕ → State) → reading l.fn.c (lines l.known no_lines k) ≡ reading l.c (lines l.known l.program k);
}

abbrev pub decreases-loop-c : goal.decreases-loop-c
decreases-loop-c l = length l.c
