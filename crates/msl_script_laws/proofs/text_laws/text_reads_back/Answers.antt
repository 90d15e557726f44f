use Rattle.msl_script_laws.proofs.PrintedScripts.{reads_back}
use Rattle.msl_script_laws.proofs.text_laws.text_reads_back.Goals as goal

pub returns : goal.returns
returns c = reads_back
