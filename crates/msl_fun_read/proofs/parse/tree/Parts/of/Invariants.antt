use Rattle.std.proofs.Common.{◌≡◌, ◌≤◌, length}
use Rattle.msl_fun.specs.Checks.{depth, greatest}
use Rattle.msl_fun_read.specs.Grammar.{all_of}
use Rattle.msl_fun_read.proofs.Trees.{behind}
use Rattle.msl_fun_read.proofs.parse.tree.Parts.of.Given as goal

abbrev pub invariant-loop-trees : goal.invariant-loop-trees
invariant-loop-trees l = record {
  all : all_of l.initial.trees ≡ behind l.exprs (all_of l.trees);
  deep : l.deep ≡ greatest depth l.exprs;
  few : l.deep ≤ 100;
}

abbrev pub decreases-loop-trees : goal.decreases-loop-trees
decreases-loop-trees l = length l.trees
