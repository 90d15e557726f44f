use Rattle.std.proofs.Common.{◌≡◌, ◌≤◌, ◌+◌, ◌-◌, ◌*◌, length}
use Rattle.msl_program.specs.declared.nest.Counts.{Counts}
use Rattle.msl_program.specs.declared.stage.Stage.{Stage}
use Rattle.msl_grammar.specs.ScriptGrammar.{State, more_stages, reading}
use Rattle.msl_script_read.proofs.stage.StageReader.+stage.Given as goal

abbrev pub decreases-farm : goal.decreases-farm
decreases-farm l = 4 * (5 - l.nest.opened)

abbrev pub decreases-pipe : goal.decreases-pipe
decreases-pipe l = 4 * (5 - l.nest.opened)

abbrev pub decreases-stage : goal.decreases-stage
decreases-stage l = 4 * (5 - l.nest.opened) + 1

abbrev pub decreases-more_stages : goal.decreases-more_stages
decreases-more_stages l = 4 * (5 - l.nest.opened) + 2

abbrev pub invariant-more_stages-loop-nest : goal.invariant-more_stages-loop-nest
invariant-more_stages-loop-nest l = record {
  reads : (k : Counts × Stage → State) → reading l.fn.c (more_stages l.self.known.now l.nest l.fn.counts l.fn.stages k) ≡ reading l.c (more_stages l.self.known.now l.nest l.counts l.stages k);
  shorter : length l.c ≤ length l.fn.c;
}

abbrev pub decreases-more_stages-loop-nest : goal.decreases-more_stages-loop-nest
decreases-more_stages-loop-nest l = length l.c
