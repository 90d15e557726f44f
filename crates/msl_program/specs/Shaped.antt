-- The values of a data program by the shapes of its lines.
use Rattle.std.specs.Prelude.{◌≡◌, ◌*◌, length}
use Rattle.std.specs.List.{AllZip}
use Rattle.msl_program.specs.declared.shape.Shape.{Shape}
use Rattle.msl_program.specs.declared.shape.Shape.TheVariants.{Array, Matrix, Number}
use Rattle.msl_program.specs.Programs.{Program}
use Rattle.msl_program.specs.Data.{Value, list, matrix, number, Table, extent}

-- a list in so many blocks, a matrix of this extent, or a number
abbrev pub HasShape : Shape → Value → Type 0
HasShape (Array b) (list c a) = c ≡ b
HasShape (Matrix r c p q) (matrix m a) = (m ≡ extent r c p q) × (length a ≡ r * c)
HasShape Number (number z) = Unit {0}
HasShape _ _ = ⊥

-- the value of each line has its shape
pub record AreShaped (p : Program) (t : Table) : Type 0 where
  pub paired : length p.shapes ≡ length p.lines
  pub each : AllZip HasShape p.shapes t
