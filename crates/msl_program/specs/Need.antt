-- How many processes a script needs.
use Rattle.std.specs.Prelude.{ℕ, ◌+◌, ◌*◌}
use Rattle.msl_program.specs.Script.{Script}
use Rattle.msl_program.specs.declared.stage.Stage.{Stage, Row_of-Stage, end_of-Stage, more_of-Stage}
use Rattle.msl_program.specs.declared.stage.Stage.TheVariants.{Atomic, Filter, Data, DivCon, Bnb, Pipe'}
use Rattle.msl_program.specs.Stages.{farm}

abbrev mutual
  -- those of a stage: each worker of a farm has its own
  pub need_of : Stage → ℕ
  need_of (Atomic f) = 1
  need_of (Filter i) = 1
  need_of (Data i on) = on
  need_of (DivCon i on) = on
  need_of (Bnb i on) = on
  need_of (farm n st) = n * need_of st
  need_of (Pipe' _ sts) = need_of_all sts

  pub need_of_all : {n : _} → Row_of-Stage n → ℕ
  need_of_all end_of-Stage = 0
  need_of_all (more_of-Stage st sts) = need_of st + need_of_all sts

-- one more drives the ends
abbrev pub need : Script → ℕ
need s = 1 + need_of s.main
