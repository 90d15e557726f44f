use Rattle.std.proofs.Common.{take, drop, length, ◌-◌}
use Rattle.std.proofs.lemmas.List.{nil_from_length}
use Rattle.msl_io.proofs.Splitting.{Went, went_digits, went_on, went_all, went_spoilt}
use Rattle.msl_io.proofs.words.Words.take.Goals.{In_ok-word}
use Rattle.msl_io.proofs.words.Words.take.Goals as goal

pub returns-in_default : goal.returns-in_default
returns-in_default c =
    let (next, n) = c.with_digits-digits.result in
    let rest = c.bytes.rest.now in
    let left = take (length rest - n) (drop n rest) in
    went_all c.args.self.now c.args.word c.args.text.now left c.bytes.self next
    (went_digits c.args.self.now c.args.word c.args.text.now rest c.bytes.self c.bytes.word c.bytes.invariant n next c.with_digits-digits.ensures.front c.with_digits-digits.ensures.word)
    (nil_from_length left c.in_default.ensures.cases)

went : (c : In_ok-word) → Went c.args.self.now c.args.word c.args.text.now c.in-Some.behind.now c.take_other.new.self c.in_ok-word.word
went c =
    went_on c.args.self.now c.args.word c.args.text.now c.bytes.rest.now c.in-Some.behind.now c.bytes.self c.take_other.new.self c.bytes.word c.with_digits-digits.result.0 c.in_ok-word.word c.with_digits-digits.result.1 c.in-Some.b.now
    c.bytes.invariant c.with_digits-digits.ensures.front c.with_digits-digits.ensures.word c.in-Some.ensures.cases.0 c.in_ok-word.ensures

pub returns-then-self-2 : goal.returns-then-self-2
returns-then-self-2 c =
    went_spoilt c.args.self.now c.args.word c.args.text.now c.in-Some.behind.now c.take_other.new.self c.in_ok-word.word (went (goal.at.returns-then-self-2 c).In_ok-word) c.if-self-2.true

pub bytes-preserved : goal.bytes-preserved
bytes-preserved c = went (goal.at.bytes-preserved c).In_ok-word
