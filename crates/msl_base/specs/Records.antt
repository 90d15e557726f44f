-- What contracts see of a record.
use Rattle.std.specs.Prelude.{ℕ, ℤ, List}

-- the numbers of a record, and how many more it takes with no memory
pub record Kept : Type 0 where
  pub numbers : List ℤ
  pub spare : ℕ
