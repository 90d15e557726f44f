use Rattle.msl_demo_laws.proofs.OneLine.{text_is_script, is_read_only_so}
use Rattle.msl_demo_laws.proofs.laws.text_is_the_script.Goals as goal

pub returns : goal.returns
returns c = record { reads = text_is_script; only = is_read_only_so }
