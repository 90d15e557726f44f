use Rattle.msl_base.specs.Streams.{Pointwise, pointwise}
use Rattle.msl_base.proofs.StreamLaws.{Is, is_run, sound_of}
use Rattle.msl_base.proofs.laws.a_whole_output_is_sound.Goals as goal

pub returns : goal.returns
returns c = λ f X. sound_of (Pointwise (Is f)) X (pointwise f X) (is_run f X)
