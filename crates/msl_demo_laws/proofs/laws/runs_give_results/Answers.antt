use Rattle.msl_demo_laws.proofs.OneLine.{results_are_small}
use Rattle.msl_demo_laws.proofs.Running.{runs_give_results, seq_gives_results, results_are_run}
use Rattle.msl_demo_laws.proofs.laws.runs_give_results.Goals as goal

pub returns : goal.returns
returns c = record { any = runs_give_results; in_order = seq_gives_results; some = results_are_run; small = results_are_small }
