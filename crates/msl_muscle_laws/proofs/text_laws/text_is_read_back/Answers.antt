use Rattle.std.proofs.Common.{◌∷◌, ◌++◌}
use Rattle.msl_fun_print.specs.FunText.{fun_bits}
use Rattle.msl_muscle_laws.proofs.PrintedFuns.{fun_read}
use Rattle.msl_muscle_laws.proofs.PrintedTokens.{says_all}
use Rattle.msl_muscle_laws.proofs.text_laws.text_is_read_back.Goals as goal

pub returns : goal.returns
returns c = λ funs others f front rest t rules may new few says. fun_read funs others f (front ++ t ∷ rest) rest t rules may new few (says_all (fun_bits funs f) front (t ∷ rest) says)
