use Rattle.std.proofs.Common.{pos, length, ap}
use Rattle.msl_base.proofs.Filling.{IsPadded-made}
use Rattle.msl_base.proofs.small.Small.of.Goals as goal

pub invariant_of-result : goal.invariant_of-result
invariant_of-result c =
    IsPadded-made 16 (pos 0) (length c.args.xs.now) c.copy_from_slice.new.self (ap length c.copy_from_slice.ensures.after) c.requires
