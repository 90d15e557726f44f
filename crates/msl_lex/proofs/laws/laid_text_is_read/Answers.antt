use Rattle.msl_lex.proofs.Printings.{laid_says_all}
use Rattle.msl_lex.proofs.laws.laid_text_is_read.Goals as goal

pub returns : goal.returns
returns c = laid_says_all
