-- What contracts see of the sources, sinks and libraries in memory: what they hold, at which of their calls they fail,
-- how many calls were made, and how many of them failed.
use Rattle.std.specs.Prelude.{ℕ, List}
use Rattle.msl_outside.specs.declared.memory.File.{File}

pub record SourceView : Type 0 where
  pub left : List ℕ
  pub piece : ℕ
  pub failing : List ℕ
  pub calls : ℕ
  pub faults : ℕ

-- of the bytes that it holds so many were flushed
pub record SinkView : Type 0 where
  pub held : List ℕ
  pub flushed : ℕ
  pub room : ℕ
  pub piece : ℕ
  pub failing : List ℕ
  pub calls : ℕ
  pub faults : ℕ

-- the names that it was asked for, in their order, but for those that gave no file
pub record LibraryView : Type 0 where
  pub files : List File
  pub asked : List (List ℕ)
  pub failing : List ℕ
  pub calls : ℕ
  pub faults : ℕ
