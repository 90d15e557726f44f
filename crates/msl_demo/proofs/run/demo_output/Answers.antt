use Rattle.std.proofs.Common.{ℕ, List, sym, subst}
use Rattle.msl_program.specs.Script.{Script}
use Rattle.msl_demo_laws.specs.Script.{demo_script}
use Rattle.msl_demo.specs.Outputs.{NeverFaults}
use Rattle.msl_demo.proofs.Running.{never_faults}
use Rattle.msl_demo.proofs.run.demo_output.Goals as goal

pub run_over-requires-after_bounds : goal.run_over-requires-after_bounds
run_over-requires-after_bounds g c κs within =
    subst (λ (s : Script). NeverFaults s c.in_ok-input.input) (sym c.in_ok-script.ensures)
    (subst (λ (input : List ℕ). NeverFaults demo_script input) (sym c.in_ok-input.ensures) (never_faults c.args.records c.requires))
