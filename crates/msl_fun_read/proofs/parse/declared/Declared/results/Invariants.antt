use Rattle.std.proofs.Common.{◌≡◌, ◌<◌, ℕ, length}
use Rattle.msl_base.specs.Names.{Text}
use Rattle.msl_fun_read.specs.Grammar.{result, more_results, reading}
use Rattle.msl_fun_read.specs.Declaring.{head, GivesResults}
use Rattle.msl_fun_read.proofs.parse.declared.Declared.results.Given as goal

abbrev pub invariant-loop-d : goal.invariant-loop-d
invariant-loop-d l = record {
  more : length l.fn.results < length l.results;
  gives : GivesResults l.self.funs.now l.self.others.now l.fn.d l.d l.fn.results l.results;
  goes : (n : Text) (at : ℕ) → reading l.self.funs.now l.self.others.now l.fn.d.cursor (result (head n at l.fn.d.scope) l.fn.d.names l.fn.results)
      ≡ reading l.self.funs.now l.self.others.now l.d.cursor (more_results (head n at l.fn.d.scope) l.d.names l.results);
}

abbrev pub decreases-loop-d : goal.decreases-loop-d
decreases-loop-d l = length l.d.cursor
