use Rattle.msl_muscle_laws.proofs.PrintedFuns.{fun_laid}
use Rattle.msl_muscle_laws.proofs.text_laws.text_is_laid_out.Goals as goal

pub returns : goal.returns
returns c = fun_laid
