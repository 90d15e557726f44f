use Rattle.std.proofs.Common.{◌≡◌, ◌-◌, ◌≤◌, length, map, drop}
use Rattle.msl_lex.specs.Lexemes.{lexeme_of}
use Rattle.msl_lex.specs.Computing.{lexemes, lexemes_from}
use Rattle.msl_lex.proofs.Steps.{before}
use Rattle.msl_lex.proofs.lexer.lex.Given as goal

abbrev pub invariant-loop-at : goal.invariant-loop-at
invariant-loop-at l = record {
  inside : l.at ≤ length l.text;
  read : lexemes l.text ≡ before (map (lexeme_of l.text) l.tokens) (lexemes_from 0 l.at (drop l.at l.text));
}

abbrev pub decreases-loop-at : goal.decreases-loop-at
decreases-loop-at l = length l.text - l.at
