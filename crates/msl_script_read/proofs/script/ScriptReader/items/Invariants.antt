use Rattle.std.proofs.Common.{◌≡◌, length}
use Rattle.msl_grammar.specs.Known.{IsKnown}
use Rattle.msl_grammar.specs.ScriptGrammar.{items, reading}
use Rattle.msl_script_read.proofs.script.ScriptReader.items.Given as goal

abbrev pub invariant-loop-self : goal.invariant-loop-self
invariant-loop-self l = record {
  goes : reading l.fn.self.cursor (items l.fn.self.known) ≡ reading l.self.cursor (items l.self.known);
  known : IsKnown l.self.known;
}

abbrev pub decreases-loop-self : goal.decreases-loop-self
decreases-loop-self l = length l.self.cursor
