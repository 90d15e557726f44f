use Rattle.std.proofs.Common.{◌≡◌, get_or, true, refl}
use Rattle.std.specs.List.{prefix_len}
use Rattle.msl_lex.specs.Bytes.{is_word_byte, is_comment_byte}
use Rattle.msl_lex.proofs.Within.{prefix_len_within, word_within, piece_within}
use Rattle.msl_lex.specs.Computing.{word_at}
use Rattle.msl_lex.proofs.lexer.first_piece.Goals as goal

pub returns-then-first-eq35-clause-within : goal.returns-then-first-eq35-clause-within
returns-then-first-eq35-clause-within c =
    let passes : is_comment_byte (get_or c.args.text.now 0 0) ≡ true = rw c.if-first-eq35.true refl in
    rw c.comment_len.ensures (prefix_len_within is_comment_byte c.args.text.now c.requires passes)

pub returns-then-is_letter-clause-within : goal.returns-then-is_letter-clause-within
returns-then-is_letter-clause-within c =
    let passes : is_word_byte (get_or c.args.text.now 0 0) ≡ true = rw (← c.if-is_letter.ensures) refl in
    let len = prefix_len_within is_word_byte c.args.text.now c.requires passes in
    let n = prefix_len is_word_byte c.args.text.now in
    piece_within c.args.text.now _ (word_at c.args.at n) c.word.ensures (word_within c.args.at n c.args.text.now len.0 len.1)
