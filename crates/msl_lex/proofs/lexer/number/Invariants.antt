use Rattle.std.proofs.Common.{◌≡◌, ◌+◌, ◌≤◌, take, drop}
use Rattle.std.specs.List.{prefix_len}
use Rattle.msl_lex.specs.Bytes.{is_digit, value_of_digits}
use Rattle.msl_lex.specs.Lexemes.{greatest_number}
use Rattle.msl_lex.proofs.lexer.number.Given as goal

abbrev pub invariant-loop-len : goal.invariant-loop-len
invariant-loop-len l = record {
  digits : prefix_len is_digit l.text ≡ l.len + prefix_len is_digit (drop l.len l.text);
  value : l.value ≡ value_of_digits (take l.len l.text);
  fits : l.value ≤ greatest_number;
}
