-- Boxes in rows and columns, and what an exchange makes of them.
use Rattle.std.specs.Prelude.{◌≡◌, ℕ, ◌+◌, ◌*◌, ◌<◌, List, [], length, map, replicate, slice_index_or, slice_set}
use Rattle.std.specs.List.{range_with_len}
use Rattle.msl_base.specs.Records.{Kept}
use Rattle.msl_base.specs.Streams.{Record}

-- n rows of n boxes, one row after the other; each box holds a record
pub record Grid : Type 0 where
  pub n : ℕ
  pub boxes : List Record

abbrev pub grid : ℕ → List Record → Grid
grid n boxes = record { n = n; boxes = boxes }

-- there are n * n boxes
abbrev pub IsWhole : Grid → Type 0
IsWhole b = length b.boxes ≡ b.n * b.n

abbrev pub box_at : Grid → ℕ → ℕ → Record
box_at b i j = slice_index_or b.boxes (i * b.n + j) []

-- the same but for box (i, j)
abbrev pub with_box : Grid → ℕ → ℕ → Record → Grid
with_box b i j x = grid b.n (slice_set b.boxes (i * b.n + j) x)

abbrev pub empty : ℕ → Grid
empty n = grid n (replicate (n * n) [])

abbrev pub row : Grid → ℕ → List Record
row b i = map (λ j. box_at b i j) (range_with_len 0 b.n)

abbrev pub column : Grid → ℕ → List Record
column b j = map (λ i. box_at b i j) (range_with_len 0 b.n)

-- Box (i, j) of `out` is what member i has for member j. It is box (j, i) of `got`, what member j has from member i.
pub record IsExchange (out got : Grid) : Type 0 where
  pub members : got.n ≡ out.n
  pub turned : (i j : ℕ) → i < out.n → j < out.n → box_at got i j ≡ box_at out j i

-- the numbers of records that stand in a list
abbrev pub records : List Kept → List Record
records xs = map (λ (x : Kept). x.numbers) xs
