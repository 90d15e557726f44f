use Rattle.msl_lex.proofs.Spellings.{tokens_spelt}
use Rattle.msl_lex.proofs.laws.tokens_are_spelt.Goals as goal

pub returns : goal.returns
returns c = tokens_spelt c.args.text.now c.args.tokens.now c.requires
