-- Laws of what scripts make of streams, of the trees of problems and of searches, and of data programs.
use Rattle.std.specs.Prelude.{◌≡◌, ◌<◌, ◌≤◌, ℕ, true, false, pos, List, [], ◌∷◌, ◌++◌, length, slice_get, slice_index_or, Some, Ok, Err}
use Rattle.msl_base.specs.Streams.{Record, Outcome, Stream, PrefixLaw}
use Rattle.msl_base.specs.declared.fault.Fault.TheVariants.{Depth}
use Rattle.msl_fun.specs.declared.funs.Fun.{Fun}
use Rattle.msl_lists.specs.Whole.{◌>>=◌}
use Rattle.msl_program.specs.Script.{Script}
use Rattle.msl_program.specs.declared.script.DivCon as divcon
use Rattle.msl_program.specs.declared.script.BnbSpec.{BnbSpec}
use Rattle.msl_program.specs.declared.stage.Stage.{Stage, Row_of-Stage, end_of-Stage, more_of-Stage}
use Rattle.msl_program.specs.declared.stage.Stage.TheVariants.{Atomic, Filter, Data, DivCon, Bnb, Pipe'}
use Rattle.msl_program.specs.Stages.{farm}
use Rattle.msl_program.specs.declared.data.DataStep.{DataStep}
use Rattle.msl_program.specs.declared.data.DataLine.{DataLine}
use Rattle.msl_program.specs.declared.shape.Need.{Need}
use Rattle.msl_program.specs.Programs.{Program}
use Rattle.msl_program.specs.ProgramPromise.{shape_at, shape_after, IsLine, IsStep, EachLineFits, program_of}
use Rattle.msl_program.specs.Data.{Value, Table, value_of, step_on, extended}
use Rattle.msl_program.specs.Shaped.{HasShape, AreShaped}
use Rattle.msl_program.specs.Calls.{run}
use Rattle.msl_program.specs.Along.{Path, along, most_levels}
use Rattle.msl_program.specs.Divide.{parts_of, combined_by, simple_or, dc}
use Rattle.msl_program.specs.Searches.{Node, BestOf, first_best_outcome, reached, further, children_in, own, most_children}
use Rattle.msl_program.specs.Runs.{One, Runs, RunsMain, seq_one, seq_run, SeqRuns}
pub use Rattle.msl_program.specs.Fitting.{Fits, AllFit, IsWhole}

-- the order of `seq` is one that a stage may take
abbrev pub SeqIsARun : Script → Stage → Type 0
SeqIsARun s st = Fits s false st → (k : ℕ) (X : Stream) → Runs s k st X (seq_run s k st X)

abbrev pub SeqRunsMain : Script → Type 0
SeqRunsMain s = IsWhole s → (X Y : Stream) → SeqRuns s X Y → RunsMain s X Y

-- what a stage makes of the beginning of a stream begins what it can make of the whole
abbrev pub HasPrefixes : Script → Stage → Type 0
HasPrefixes s st = Fits s false st → (k : ℕ) → PrefixLaw (Runs s k st)

-- the answer of a search that drops nothing is a best one
abbrev pub FirstBestIsBest : List Fun → BnbSpec → Type 0
FirstBestIsBest funs b = (stage : ℕ) (x : Record) → BestOf funs b stage x (first_best_outcome funs b stage x)

abbrev pub HasBest : List Fun → BnbSpec → Type 0
HasBest funs b = (stage : ℕ) (x : Record) → (r : Outcome) × BestOf funs b stage x r

-- ---- one record

abbrev mutual
  -- no search in it
  pub HasNoSearch : Stage → Type 0
  HasNoSearch (farm n st) = HasNoSearch st
  HasNoSearch (Pipe' _ sts) = HaveNoSearch sts
  HasNoSearch (Atomic f) = Unit {0}
  HasNoSearch (Filter i) = Unit {0}
  HasNoSearch (Data i on) = Unit {0}
  HasNoSearch (DivCon i on) = Unit {0}
  HasNoSearch (Bnb i on) = ⊥

  pub HaveNoSearch : {n : _} → Row_of-Stage n → Type 0
  HaveNoSearch end_of-Stage = Unit {0}
  HaveNoSearch (more_of-Stage st sts) = HasNoSearch st × HaveNoSearch sts

-- each record has an outcome
abbrev pub HasOutcomes : Script → Stage → Type 0
HasOutcomes s st = Fits s true st → (k : ℕ) (x : Record) → (r : Outcome) × One s k st x r

-- and only that of `seq`
abbrev pub HasOneOutcome : Script → Stage → Type 0
HasOneOutcome s st = HasNoSearch st → (k : ℕ) (x : Record) (r : Outcome) → One s k st x r → r ≡ seq_one s k st x

-- ---- problems

-- the numbers along one step more
abbrev pub GoesAlong : List Fun → Type 0
GoesAlong funs = (stage f : ℕ) (x : Record) (q : Path) (k : ℕ) → along funs stage f x (q ++ k ∷ []) ≡ (along funs stage f x q >>= λ y. run funs stage f (y ++ pos k ∷ []))

module _ (funs : List Fun) (d : divcon.DivCon) where
  -- the parts of a problem lie one step further
  abbrev pub PartsLieAlong : Type 0
  PartsLieAlong = (stage : ℕ) (x y : Record) (q : Path) (parts : List Record) → along funs stage d.divide x q ≡ Ok y → parts_of funs d stage y ≡ Ok parts
      → (j : ℕ) → j < d.parts → along funs stage d.divide x (q ++ j ∷ []) ≡ Ok (slice_index_or parts j [])

  -- one value for each part
  abbrev pub HasAllParts : Type 0
  HasAllParts = (stage : ℕ) (x : Record) (parts : List Record) → parts_of funs d stage x ≡ Ok parts → length parts ≡ d.parts

  -- a problem by its parts, where it has fewer steps than 64
  abbrev pub IsByParts : Type 0
  IsByParts = (stage : ℕ) (leaf : Record → Outcome) (q : Path) (x : Record) → length q < most_levels
      → dc funs d stage leaf q x ≡ simple_or funs d stage leaf x (parts_of funs d stage x >>= λ parts. combined_by funs d stage (λ j. dc funs d stage leaf (q ++ j ∷ []) (slice_index_or parts j [])))

  -- one of 64 steps has to be simple
  abbrev pub IsDeepest : Type 0
  IsDeepest = (stage : ℕ) (leaf : Record → Outcome) (q : Path) (x : Record) → length q ≡ most_levels
      → dc funs d stage leaf q x ≡ simple_or funs d stage leaf x (Err (Depth stage q))

-- ---- searches

module _ (funs : List Fun) (b : BnbSpec) where
  -- the node one step further is a child
  abbrev pub ReachesChildren : Type 0
  ReachesChildren = (stage : ℕ) (x : Record) (q : Path) (k : ℕ)
      → reached funs b stage x (q ++ k ∷ []) ≡ further (reached funs b stage x q) (λ p. slice_get (children_in (own funs b stage q p)) k)

  -- a node has the numbers along its path
  abbrev pub HasNumbersAlong : Type 0
  HasNumbersAlong = (stage : ℕ) (x : Record) (q : Path) (p : Node) → reached funs b stage x q ≡ Some p → along funs stage b.branch x q ≡ Ok p.numbers

  -- no node is deeper
  abbrev pub IsShallow : Type 0
  IsShallow = (stage : ℕ) (x : Record) (q : Path) (p : Node) → reached funs b stage x q ≡ Some p → length q ≤ most_levels

  abbrev pub HasFewChildren : Type 0
  HasFewChildren = (stage : ℕ) (q : Path) (p : Node) → length (children_in (own funs b stage q p)) ≤ most_children

-- ---- data programs

-- a line that is such has a value of its shape
abbrev pub LinesHaveShapes : Type 0
LinesHaveShapes = (p : Program) (t : Table) (needed : Need) (k : ℕ) → AreShaped p t → IsLine p needed k → HasShape (shape_at p k) (value_of t k)

module _ (funs : List Fun) where
  -- a step that fits the lines before it gives a value of its shape
  abbrev pub StepsKeepShapes : Type 0
  StepsKeepShapes = (stage : ℕ) (x : Record) (p : Program) (t : Table) (s : DataStep) (v : Value) → AreShaped p t → IsStep funs p s → step_on funs stage x t s ≡ Ok v → HasShape (shape_after p s) v

  -- so all lines behind others have theirs
  abbrev pub ProgramsKeepShapes : Type 0
  ProgramsKeepShapes = (stage : ℕ) (x : Record) (p : Program) (t u : Table) (ls : List DataLine) → AreShaped p t → EachLineFits funs p ls → extended funs stage x t ls ≡ Ok u → AreShaped (program_of p ls) u

  -- the first lines fit, and the others behind them
  abbrev pub LinesFitInTurn : Type 0
  LinesFitInTurn = (p : Program) (ls more : List DataLine) → EachLineFits funs p (ls ++ more) → EachLineFits funs p ls × EachLineFits funs (program_of p ls) more

  -- the first lines' values, and behind them those of the others
  abbrev pub TablesGrowInTurn : Type 0
  TablesGrowInTurn = (stage : ℕ) (x : Record) (t : Table) (ls more : List DataLine) → extended funs stage x t (ls ++ more) ≡ (extended funs stage x t ls >>= λ u. extended funs stage x u more)

-- the same of what the lines are
abbrev pub ProgramsGrowInTurn : Type 0
ProgramsGrowInTurn = (p : Program) (ls more : List DataLine) → program_of p (ls ++ more) ≡ program_of (program_of p ls) more
