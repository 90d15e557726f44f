use Rattle.std.proofs.Common.{◌+◌, ◌*◌}
use Rattle.msl_side.proofs.places.+beside.Given as goal

abbrev pub decreases-beside : goal.decreases-beside
decreases-beside g l = 2 * l.n

abbrev pub decreases-join+arg3 : goal.decreases-join+arg3
decreases-join+arg3 g l = 2 * l.last + 1
