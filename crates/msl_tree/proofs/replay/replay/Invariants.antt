use Rattle.std.proofs.Common.{◌≡◌, ℕ, length, drop}
use Rattle.msl_program.specs.Along.{along}
use Rattle.msl_tree.proofs.replay.replay.Given as goal

-- the numbers so far go on along the steps that are left
abbrev pub invariant-loop-step : goal.invariant-loop-step
invariant-loop-step l =
    record {
      calls : l.calls ≡ l.funs;
      wide : length l.x ≡ length l.fn.root;
      rest : (stage : ℕ) → along l.funs stage l.f l.x (drop l.step-index l.step-items) ≡ along l.funs stage l.f l.fn.root l.fn.path;
    }
