use Rattle.msl_core.proofs.Worlds.{sound_new, sound_after}
use Rattle.msl_core.proofs.laws.worlds_are_sound.Goals as goal

pub returns-clause-starts : goal.returns-clause-starts
returns-clause-starts c = sound_new

pub returns-clause-keeps : goal.returns-clause-keeps
returns-clause-keeps c = sound_after
