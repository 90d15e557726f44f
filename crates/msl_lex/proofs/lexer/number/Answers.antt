use Rattle.std.proofs.Common.{arith, ◌+◌, ◌*◌, ◌-◌, ◌≤◌, sym, get_or}
use Rattle.std.proofs.lemmas.List.Sums.{prefix_len-drop_yes, fold_more}
use Rattle.std.specs.List.{prefix_len}
use Rattle.msl_lex.specs.Bytes.{is_digit}
use Rattle.msl_lex.proofs.Numbers.{number_too_great}
use Rattle.msl_lex.proofs.lexer.number.Goals as goal

pub returns-then-value-from : goal.returns-then-value-from
returns-then-value-from c =
    let text = c.args.text.now in
    let i = c.loop-len.len in
    let more = prefix_len-drop_yes is_digit text i 0 c.loop-len-test.true (sym c.if-not-is_digit.ensures) in
    let value = fold_more (λ n d. 10 * n + (d - 48)) 0 text i 0 c.loop-len-test.true in
    let within : i + 1 ≤ prefix_len is_digit text = omega (arith, more, c.loop-len.invariant.digits) in
    sym (number_too_great c.args.at (i + 1) (prefix_len is_digit text) (10 * c.loop-len.value + (get_or text i 0 - 48)) text within (omega (arith, value, c.loop-len.invariant.value)) (omega arith))
