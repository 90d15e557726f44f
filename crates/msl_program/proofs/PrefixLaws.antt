-- What a stage makes of the beginning of a stream begins what it can make of the whole.
use Rattle.std.proofs.Common.{ℕ, ◌+◌, true, false, List}
use Rattle.msl_base.specs.Streams.{Stream, PrefixLaw}
use Rattle.msl_base.proofs.StreamLaws.{IsTotal, prefix_law}
use Rattle.msl_program.specs.Script.{Script}
use Rattle.msl_program.specs.declared.stage.Stage.{Stage, Row_of-Stage, end_of-Stage, more_of-Stage}
use Rattle.msl_program.specs.declared.stage.Stage.TheVariants.{Atomic, Filter, Data, DivCon, Bnb, Pipe'}
use Rattle.msl_program.specs.Stages.{farm, primitives_of}
use Rattle.msl_program.specs.Runs.{AtPlace, One, Runs, RunsThrough, seq_one}
use Rattle.msl_program.specs.Fitting.{Fits, AllFit}
use Rattle.msl_program.proofs.SeqLaws.{seq_one_is}
use Rattle.msl_program.proofs.FarmLaws.{farm_prefixes}
use Rattle.msl_program.proofs.FilterLaws.{filter_prefixes}
use Rattle.msl_program.proofs.PipeLaws.{same_prefixes, in_turn_prefixes}

module _ {A : Type 0} (xs : List A) (i : ℕ) (R : A → Stream → Stream → Type 0) (law : (a : A) → PrefixLaw (R a)) where
  -- the law of what stands at a place
  place_prefixes : PrefixLaw (λ X Y. AtPlace xs i (λ a. R a X Y))
  place_prefixes = record {
    goes_on = λ X more Y stop e is h. let on = (law h.0).goes_on X more Y stop e is h.2 in (on.0, on.1, (h.0, h.1, on.2));
    keeps = λ X more Y f stop e is h. (h.0, h.1, (law h.0).keeps X more Y f stop e is h.2);
    ends = λ X Y h. (law h.0).ends X Y h.2;
  }

module _ (s : Script) where
  total : (k : ℕ) (st : Stage) → Fits s true st → IsTotal (One s k st)
  total k st h x = (seq_one s k st x, seq_one_is s k st h x)

  mutual
    pub stage_prefixes : (k : ℕ) (st : Stage) → Fits s false st → PrefixLaw (Runs s k st)
    stage_prefixes k (Atomic f) h = prefix_law (One s k (Atomic f)) (total k (Atomic f) h)
    stage_prefixes k (Filter i) h = place_prefixes s.filters i _ (λ p. filter_prefixes s.funs p k)
    stage_prefixes k (Data i on) h = prefix_law (One s k (Data i on)) (total k (Data i on) h)
    stage_prefixes k (DivCon i on) h = prefix_law (One s k (DivCon i on)) (total k (DivCon i on) h)
    stage_prefixes k (Bnb i on) h = prefix_law (One s k (Bnb i on)) (total k (Bnb i on) h)
    stage_prefixes k (farm n st) h = farm_prefixes (One s k st) (total k st h)
    stage_prefixes k (Pipe' _ sts) h = pipe_prefixes k sts h

    pipe_prefixes : {n : _} (k : ℕ) (sts : Row_of-Stage n) → AllFit s false sts → PrefixLaw (RunsThrough s k sts)
    pipe_prefixes k end_of-Stage h = same_prefixes
    pipe_prefixes k (more_of-Stage st sts) h =
        in_turn_prefixes (Runs s k st) (RunsThrough s (k + primitives_of st) sts) (stage_prefixes k st h.0) (pipe_prefixes (k + primitives_of st) sts h.1)
