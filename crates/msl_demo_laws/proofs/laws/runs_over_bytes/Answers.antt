use Rattle.msl_demo_laws.proofs.Bytes.{input_reads, no_run_faults, whole_runs_write}
use Rattle.msl_demo_laws.proofs.laws.runs_over_bytes.Goals as goal

pub returns : goal.returns
returns c = record { input = input_reads; faultless = no_run_faults; whole = whole_runs_write }
