use Rattle.msl_script_read.proofs.WholeScripts.{script_of_tokens, script_read}
use Rattle.msl_script_laws.proofs.laws.scripts_are_whole.Goals as goal

pub returns : goal.returns
returns c = record { promise = script_read; tokens = script_of_tokens; whole = λ text s is. (script_read text s is).whole }
