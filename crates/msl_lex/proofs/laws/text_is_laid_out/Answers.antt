use Rattle.msl_lex.proofs.Layouts.{reads_as_lexemes}
use Rattle.msl_lex.proofs.Readings.{lexemes_from-layout}
use Rattle.msl_lex.proofs.laws.text_is_laid_out.Goals as goal

pub returns-clause-some : goal.returns-clause-some
returns-clause-some c = reads_as_lexemes c.args.text.now

pub returns-clause-one : goal.returns-clause-one
returns-clause-one c = λ r h. lexemes_from-layout h
