use Rattle.std.proofs.Common.{◌≡◌, ◌++◌, [], ◌∷◌, Ok, pos, take}
use Rattle.msl_division.specs.Steps.{AreWide}
use Rattle.msl_fun.specs.Meaning.{params_of}
use Rattle.msl_lists.specs.Whole.{each}
use Rattle.msl_program.specs.Calls.{run}
use Rattle.msl_dividing.proofs.dividing.divide.Given as goal

abbrev pub invariant-loop-j : goal.invariant-loop-j
invariant-loop-j l =
    let here = l.initial.division in
    record {
      same : l.division ≡ here;
      so_far : each l.j (λ j. run here.calls here.stage here.spec.now.divide (l.x ++ pos j ∷ [])) ≡ Ok (take l.j l.parts);
      wide : AreWide (params_of here.calls here.spec.now.simple) (take l.j l.parts);
    }
