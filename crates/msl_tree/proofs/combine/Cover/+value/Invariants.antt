use Rattle.std.proofs.Common.{◌≡◌, ◌-◌, ◌*◌, length, Ok}
use Rattle.msl_base.specs.Streams.{Outcome}
use Rattle.msl_fun.specs.Meaning.{results_of}
use Rattle.msl_lists.specs.Whole.{each}
use Rattle.msl_lists.specs.WholeLaws.{joined}
use Rattle.msl_tree.proofs.Combining.{IsOpen, part}
use Rattle.msl_tree.proofs.combine.Cover.+value.Given as goal

abbrev pub decreases-value : goal.decreases-value
decreases-value l = 64 - length l.path

-- the values of the parts so far, one after the other
abbrev pub invariant-loop-j : goal.invariant-loop-j
invariant-loop-j l =
    let funs = l.fn.calls in
    record {
      calls : l.calls ≡ funs;
      opened : IsOpen funs l.fn.self.d.now l.fn.self.stage l.fn.self.splits.now l.fn.self.solved.now l.fn.path;
      wide : length l.values ≡ l.j * results_of funs l.fn.self.d.now.solve;
      values : ◌≡◌ {A = Outcome} (joined (each l.j (part funs l.fn.self.d.now l.fn.self.stage l.fn.self.splits.now l.fn.self.solved.now l.fn.path))) (Ok l.values);
    }
