-- What is counted of records.
use Rattle.std.specs.Prelude.{◌≡◌, ◌≤◌, List, [], ◌∷◌, ◌++◌, length, All}
use Rattle.msl_base.specs.Streams.{Record}
use Rattle.msl_demo_laws.specs.Demo.{numbers, total}
use Rattle.msl_demo_laws.specs.Results.{IsResult}
use Rattle.msl_demo.specs.declared.tally.Tally.{Tally}

pub record IsTallyOf (outs : List Record) (t : Tally) : Type 0 where
  pub records : t.records ≡ length outs
  pub count : t.numbers ≡ length (numbers outs)
  pub sum : t.sum ≡ total (numbers outs)

-- results of the demonstration, so few that they can be counted
pub record AreFew (outs : List Record) : Type 0 where
  pub results : All IsResult outs
  pub few : length outs ≤ 100000

-- a tally of records, with which this one can be counted too
abbrev pub MayCount : Tally → Record → Type 0
MayCount t r = (outs : List Record) × IsTallyOf outs t × AreFew (outs ++ r ∷ [])

-- it was counted
abbrev pub Counts : Tally → Record → Tally → Type 0
Counts old r new = (outs : List Record) → IsTallyOf outs old → IsTallyOf (outs ++ r ∷ []) new
