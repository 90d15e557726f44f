-- What holds of a stage and of the stages of a pipe, as far as they are read.
use Rattle.std.proofs.Common.{◌≡◌, ◌<◌, ◌≤◌, ℕ, suc, ◌+◌, max, Bool, List, [], ◌∷◌, ◌++◌, length, refl, ap, arith, length-append}
use Rattle.msl_program.specs.declared.stage.Stage.{Stage, Row_of-Stage, end_of-Stage, more_of-Stage}
use Rattle.msl_program.specs.declared.stage.Stage.TheVariants.{Atomic, Filter, Data, DivCon, Bnb, Pipe'}
use Rattle.msl_program.specs.Known.{Known}
use Rattle.msl_program.specs.declared.nest.Nest.{Nest}
use Rattle.msl_program.specs.declared.nest.Counts.{Counts}
use Rattle.msl_program.specs.Stages.{farm, pipe, row, units, primitives_of, primitives_in}
use Rattle.msl_program.specs.Known.{script_of}
use Rattle.msl_grammar.specs.ScriptGrammar.{one_deeper, in_farm}
use Rattle.msl_program.specs.Fitting.{Fits, AllFit}
use Rattle.msl_program.specs.ProgramPromise.{IsBetween}
use Rattle.msl_program.specs.ScriptPromise.{IsSized, AreSized, filters_of, filters_in, height, greatest_height}

-- a stage of a script with these definitions
abbrev pub FitsIn : Known → Bool → Stage → Type 0
FitsIn m in_farm st = Fits (script_of m (Atomic 0)) in_farm st

abbrev pub AllFitIn : Known → Bool → List Stage → Type 0
AllFitIn m in_farm ss = AllFit (script_of m (Atomic 0)) in_farm (row ss)

module _ (m : Known) (main : Stage) where
  mutual
    pub of_main : (in_farm : Bool) (st : Stage) → FitsIn m in_farm st → Fits (script_of m main) in_farm st
    of_main in_farm (Atomic f) h = h
    of_main in_farm (Filter i) h = h
    of_main in_farm (Data i on) h = h
    of_main in_farm (DivCon i on) h = h
    of_main in_farm (Bnb i on) h = h
    of_main in_farm (farm n st) h = of_main _ st h
    of_main in_farm (Pipe' _ sts) h = all_of_main in_farm sts h

    all_of_main : {n : _} (in_farm : Bool) (sts : Row_of-Stage n) → AllFit (script_of m (Atomic 0)) in_farm sts → AllFit (script_of m main) in_farm sts
    all_of_main in_farm end_of-Stage h = h
    all_of_main in_farm (more_of-Stage st sts) h = (of_main in_farm st h.0, all_of_main in_farm sts h.1)

-- ---- one stage more

fits_more : (m : Known) (in_farm : Bool) (ss : List Stage) (st : Stage) → AllFitIn m in_farm ss → FitsIn m in_farm st → AllFitIn m in_farm (ss ++ st ∷ [])
fits_more m in_farm [] st h f = (f, tt)
fits_more m in_farm (s ∷ ss) st h f = (h.0, fits_more m in_farm ss st h.1 f)

sized_more : (ss : List Stage) (st : Stage) → AreSized (row ss) → IsSized st → AreSized (row (ss ++ st ∷ []))
sized_more [] st h f = (f, tt)
sized_more (s ∷ ss) st h f = (h.0, sized_more ss st h.1 f)

primitives_more : (ss : List Stage) (st : Stage) → primitives_in (row (ss ++ st ∷ [])) ≡ primitives_in (row ss) + primitives_of st
primitives_more [] st = omega arith
primitives_more (s ∷ ss) st = omega (arith, primitives_more ss st)

filters_more : (ss : List Stage) (st : Stage) → filters_in (row (ss ++ st ∷ [])) ≡ filters_in (row ss) + filters_of st
filters_more [] st = omega arith
filters_more (s ∷ ss) st = omega (arith, filters_more ss st)

height_more : (ss : List Stage) (st : Stage) → greatest_height (row (ss ++ st ∷ [])) ≡ max (greatest_height (row ss)) (height st)
height_more [] st = omega arith
height_more (s ∷ ss) st = omega (arith, height_more ss st)

as_many_units : (ss : List Stage) → length (units ss) ≡ length ss
as_many_units [] = refl
as_many_units (s ∷ ss) = ap suc (as_many_units ss)

-- ---- what holds

-- of a stage, with the counts before and behind it
pub record IsStage (m : Known) (nest : Nest) (before behind : Counts) (st : Stage) : Type 0 where
  pub fits : FitsIn m nest.in_farm st
  pub sized : IsSized st
  pub primitives : behind.primitives ≡ before.primitives + primitives_of st
  pub filters : behind.filters ≡ before.filters + filters_of st
  pub few_primitives : behind.primitives ≤ 64
  pub few_filters : before.filters ≤ 4 → behind.filters ≤ 4
  pub low : nest.opened ≤ 4 → nest.opened + height st ≤ 4

-- of the stages of a pipe
pub record AreStages (m : Known) (nest : Nest) (before behind : Counts) (ss : List Stage) : Type 0 where
  pub some : 1 ≤ length ss
  pub fits : AllFitIn m nest.in_farm ss
  pub sized : AreSized (row ss)
  pub primitives : behind.primitives ≡ before.primitives + primitives_in (row ss)
  pub filters : behind.filters ≡ before.filters + filters_in (row ss)
  pub few_primitives : behind.primitives ≤ 64
  pub few_filters : before.filters ≤ 4 → behind.filters ≤ 4
  pub low : nest.opened ≤ 4 → nest.opened + greatest_height (row ss) ≤ 4

module _ (m : Known) (nest : Nest) where
  pub first_stage : (a b : Counts) (st : Stage) → IsStage m nest a b st → AreStages m nest a b (st ∷ [])
  first_stage a b st h = record {
    some = omega arith;
    fits = (h.fits, tt);
    sized = (h.sized, tt);
    primitives = omega (arith, h.primitives);
    filters = omega (arith, h.filters);
    few_primitives = h.few_primitives;
    few_filters = h.few_filters;
    low = λ few. let l : nest.opened + height st ≤ 4 = h.low few in omega arith;
  }

  pub one_stage : (a b c : Counts) (ss : List Stage) (st : Stage) → AreStages m nest a b ss → IsStage m nest b c st → AreStages m nest a c (ss ++ st ∷ [])
  one_stage a b c ss st h g = record {
    some = omega (arith, length-append ss (st ∷ []));
    fits = fits_more m nest.in_farm ss st h.fits g.fits;
    sized = sized_more ss st h.sized g.sized;
    primitives = omega (arith, primitives_more ss st, h.primitives, g.primitives);
    filters = omega (arith, filters_more ss st, h.filters, g.filters);
    few_primitives = g.few_primitives;
    few_filters = λ few. g.few_filters (h.few_filters few);
    low = λ few.
        let l : nest.opened + height st ≤ 4 = g.low few in
        let ls : nest.opened + greatest_height (row ss) ≤ 4 = h.low few in
        omega (arith, height_more ss st);
  }

  pub of_pipe : (a b : Counts) (ss : List Stage) → nest.opened < 4 → AreStages m (one_deeper nest) a b ss → IsStage m nest a b (pipe ss)
  of_pipe a b ss few_open h = record {
    fits = h.fits;
    sized = (omega (arith, as_many_units ss, h.some), h.sized);
    primitives = h.primitives;
    filters = h.filters;
    few_primitives = h.few_primitives;
    few_filters = h.few_filters;
    low = λ few. let l : nest.opened + 1 + greatest_height (row ss) ≤ 4 = h.low (omega arith) in omega arith;
  }

  pub of_farm : (a b : Counts) (n : ℕ) (st : Stage) → nest.opened < 4 → IsBetween 1 64 n → IsStage m (in_farm nest) a b st → IsStage m nest a b (farm n st)
  of_farm a b n st few_open between h = record {
    fits = h.fits;
    sized = (between, h.sized);
    primitives = h.primitives;
    filters = h.filters;
    few_primitives = h.few_primitives;
    few_filters = h.few_filters;
    low = λ few. let l : nest.opened + 1 + height st ≤ 4 = h.low (omega arith) in omega arith;
  }
