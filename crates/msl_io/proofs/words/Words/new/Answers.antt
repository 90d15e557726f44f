use Rattle.std.proofs.Common.{refl, false, ap}
use Rattle.msl_base.specs.Records.{Kept}
use Rattle.msl_io.proofs.Splitting.{scanned_none}
use Rattle.msl_io.proofs.words.Words.new.Goals as goal

pub returns : goal.returns
returns c word is = scanned_none (record { alloc = c.args.alloc; numbers = c.clear.new.self; count = 0; bad = false }) word refl refl (ap (λ (r : Kept). r.numbers) c.clear.ensures) is
