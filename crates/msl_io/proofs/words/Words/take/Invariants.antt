use Rattle.std.proofs.Common.{length}
use Rattle.msl_io.proofs.Splitting.{Went}
use Rattle.msl_io.proofs.words.Words.take.Given as goal

abbrev pub invariant-bytes : goal.invariant-bytes
invariant-bytes l = Went l.fn.self l.fn.word l.text l.rest l.self l.word

abbrev pub decreases-bytes : goal.decreases-bytes
decreases-bytes l = length l.rest
