use Rattle.msl_core.proofs.Worlds.{sound_along, stays_along, over_is_quiet}
use Rattle.msl_core.proofs.laws.over_stays.Goals as goal

pub returns-clause-over : goal.returns-clause-over
returns-clause-over c w v es s r = stays_along es w v s r

pub returns-clause-quiet : goal.returns-clause-quiet
returns-clause-quiet c w v es s r = over_is_quiet v (sound_along es w v s r)
