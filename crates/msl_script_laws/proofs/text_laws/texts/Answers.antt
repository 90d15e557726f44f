use Rattle.std.proofs.Common.{Ok, refl}
use Rattle.msl_script_laws.specs.Meanings.{moved, deviations, squares_in_turn, range, broken, pairs}
use Rattle.msl_script_laws.specs.Rows.{squares, sums}
use Rattle.msl_script_laws.specs.Constructs.{every}
use Rattle.msl_grammar.specs.ScriptGrammar.{script_of_text}
use Rattle.msl_script_laws.proofs.Canonicals.{short_printed}
use Rattle.msl_script_laws.proofs.text_laws.texts.Goals as goal

pub returns-clause-squares : goal.returns-clause-squares
returns-clause-squares c = short_printed (Ok squares) refl

pub returns-clause-sums : goal.returns-clause-sums
returns-clause-sums c = short_printed (Ok sums) refl

pub returns-clause-every : goal.returns-clause-every
returns-clause-every c = short_printed (Ok every) refl

pub returns-clause-blocks : goal.returns-clause-blocks
returns-clause-blocks c = short_printed (script_of_text moved) refl

pub returns-clause-given : goal.returns-clause-given
returns-clause-given c = short_printed (script_of_text deviations) refl

pub returns-clause-piped : goal.returns-clause-piped
returns-clause-piped c = short_printed (script_of_text squares_in_turn) refl

pub returns-clause-divided : goal.returns-clause-divided
returns-clause-divided c = short_printed (script_of_text range) refl

pub returns-clause-searched : goal.returns-clause-searched
returns-clause-searched c = short_printed (script_of_text broken) refl

pub returns-clause-filtered : goal.returns-clause-filtered
returns-clause-filtered c = short_printed (script_of_text pairs) refl
