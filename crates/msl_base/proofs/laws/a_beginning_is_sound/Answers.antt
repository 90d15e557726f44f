use Rattle.std.proofs.Common.{pos, [], ◌∷◌}
use Rattle.msl_base.specs.Examples.{first_of}
use Rattle.msl_base.specs.Streams.{stream, done}
use Rattle.msl_base.proofs.StreamLaws.{is_run}
use Rattle.msl_base.proofs.laws.a_beginning_is_sound.Goals as goal

pub returns : goal.returns
returns c = ((pos 5 ∷ []) ∷ [], done, is_run first_of (stream ((pos 3 ∷ []) ∷ (pos 5 ∷ []) ∷ []) done))
