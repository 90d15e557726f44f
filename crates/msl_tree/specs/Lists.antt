-- What lists of splits and of solved paths are seen as.
use Rattle.std.specs.Prelude.{ℕ, List, map}
use Rattle.msl_base.specs.Covers.{Split, split}
use Rattle.msl_base.specs.Streams.{Outcome}
use Rattle.msl_tree.specs.declared.lists.Parted.{Parted}
use Rattle.msl_tree.specs.declared.lists.Entry.{Entry}

abbrev pub split_of : Parted → Split
split_of p = split p.path p.count

-- a path and the value of its problem, or its fault
pub record Leaf : Type 0 where
  pub path : List ℕ
  pub value : Outcome

abbrev pub leaf : List ℕ → Outcome → Leaf
leaf q r = record { path = q; value = r }

abbrev pub leaf_of : Entry → Leaf
leaf_of e = leaf e.path e.value

abbrev pub leaf_paths : List Leaf → List (List ℕ)
leaf_paths leaves = map (λ l. l.path) leaves
