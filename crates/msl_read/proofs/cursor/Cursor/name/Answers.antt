use Rattle.msl_read.proofs.Cursors.{word_is}
use Rattle.msl_read.proofs.cursor.Cursor.name.Goals as goal

pub returns-in-Word-clause-name : goal.returns-in-Word-clause-name
returns-in-Word-clause-name c =
    rw (word_is c.self.inside.text.now c.self.inside.rest.now _ c.args.self.now c.self.view_is c.self.invariant c.spelling.result.now c.in-Word.is c.spelling.ensures) c.unreserved.ensures.name
