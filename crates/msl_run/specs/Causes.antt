-- Which counts of faults rose, by the status.
use Rattle.std.specs.Prelude.{ℕ, ◌≡◌, MatchOption}
use Rattle.msl_io.specs.Causes.{Rose}
use Rattle.msl_stage.specs.Endings.{Causes as EndCauses}
use Rattle.msl_run.specs.Headline.{end_of}
use Rattle.msl_run.specs.declared.status.Status.{Status}
use Rattle.msl_run.specs.declared.status.Status.TheVariants.{Library}

-- a count before and afterwards
pub record Count : Type 0 where
  pub before : ℕ
  pub now : ℕ

abbrev pub count : ℕ → ℕ → Count
count before now = record { before = before; now = now }

abbrev pub Rises : Count → Type 0
Rises c = Rose c.before c.now

abbrev pub Stays : Count → Type 0
Stays c = c.now ≡ c.before

-- the library's count rises at Library alone
abbrev pub LibraryCauses : Status → Count → Type 0
LibraryCauses Library library = Rises library
LibraryCauses _ library = Stays library

-- the counts of the source and the sink rise as the table of endings says, and where no run began neither does
abbrev pub RunCauses : Status → Count → Count → Type 0
RunCauses status source sink =
    MatchOption (end_of status) (Stays source × Stays sink) (λ end. EndCauses end source.before source.now sink.before sink.now)

-- Library, Read and Write come only where the count of the library, the source or the sink rose, and it rises at no
-- other status; a sink that fails behind a fault of the source hides it.
abbrev pub Causes : Status → Count → Count → Count → Type 0
Causes status library source sink = LibraryCauses status library × RunCauses status source sink
