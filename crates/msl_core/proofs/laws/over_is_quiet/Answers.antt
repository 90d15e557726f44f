use Rattle.msl_core.specs.Worlds.{new_world}
use Rattle.msl_core.proofs.Worlds.{sound_new, sound_along, over_is_quiet}
use Rattle.msl_core.proofs.laws.over_is_quiet.Goals as goal

pub returns-clause-sound : goal.returns-clause-sound
returns-clause-sound c n start es w h r = sound_along es (new_world n start) w (sound_new n start h) r

pub returns-clause-quiet : goal.returns-clause-quiet
returns-clause-quiet c n start es w h r = over_is_quiet w (sound_along es (new_world n start) w (sound_new n start h) r)
