use Rattle.std.proofs.Common.{◌≡◌, ◌≤◌, ℤ, List, length, take}
use Rattle.msl_grammar.specs.ScriptGrammar.{State, reading, state_numbers, more_state_numbers}
use Rattle.msl_grammar.proofs.filter.state_numbers.Given as goal

abbrev pub invariant-loop-c : goal.invariant-loop-c
invariant-loop-c l = record {
  some : 1 ≤ l.len;
  few : l.len ≤ 8;
  room : length l.numbers ≡ 8;
  shorter : length l.c ≤ length l.fn.c;
  goes : (k : List ℤ → State) → reading l.fn.c (state_numbers k) ≡ reading l.c (more_state_numbers (take l.len l.numbers) k);
}

abbrev pub decreases-loop-c : goal.decreases-loop-c
decreases-loop-c l = length l.c
