use Rattle.msl_program.proofs.PrefixLaws.{stage_prefixes}
use Rattle.msl_program.proofs.run_laws.stages_have_prefixes.Goals as goal

pub returns : goal.returns
returns c = λ s st h k. stage_prefixes s k st h
