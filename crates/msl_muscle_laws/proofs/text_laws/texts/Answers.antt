use Rattle.std.proofs.Common.{lit<}
use Rattle.std.proofs.lemmas.Fmt.{decimal_digit}
use Rattle.msl_muscle_laws.proofs.text_laws.texts.Goals as goal

pub returns-clause-left : goal.returns-clause-left
returns-clause-left c = rw (decimal_digit 1 (lit< tt), decimal_digit 2 (lit< tt))

pub returns-clause-sum : goal.returns-clause-sum
returns-clause-sum c = rw (decimal_digit 0 (lit< tt))

pub returns-clause-two : goal.returns-clause-two
returns-clause-two c = rw (decimal_digit 2 (lit< tt))

pub returns-clause-calls : goal.returns-clause-calls
returns-clause-calls c = rw (decimal_digit 0 (lit< tt), decimal_digit 9 (lit< tt))

pub returns-clause-nested : goal.returns-clause-nested
returns-clause-nested c = rw (decimal_digit 1 (lit< tt), decimal_digit 2 (lit< tt), decimal_digit 3 (lit< tt))
