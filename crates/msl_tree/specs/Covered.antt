-- What the value of a path is worked out from.
use Rattle.std.specs.Prelude.{ℕ, List}
use Rattle.msl_base.specs.Covers.{Split, Covers}
use Rattle.msl_fun.specs.declared.funs.Fun.{Fun}
use Rattle.msl_program.specs.Promises.{DivConFits}
use Rattle.msl_program.specs.declared.script.DivCon.{DivCon}
use Rattle.msl_tree.specs.ByPath.{AreShort}
use Rattle.msl_tree.specs.Combined.{AreParted, AreWide}
use Rattle.msl_tree.specs.Lists.{Leaf, leaf_paths}

-- splits and solved paths that cover the tree of a division, each as wide as the division says
pub record IsCovered (funs : List Fun) (d : DivCon) (stage : ℕ) (splits : List Split) (solved : List Leaf) : Type 0 where
  pub fits : DivConFits funs d
  pub covers : Covers splits (leaf_paths solved)
  pub parts : AreParted funs d stage splits
  pub wide : AreWide funs d stage solved
  pub short : AreShort solved
