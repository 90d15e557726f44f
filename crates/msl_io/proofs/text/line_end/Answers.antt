use Rattle.msl_io.proofs.Taking.{HasNoLf-more}
use Rattle.msl_io.proofs.text.line_end.Goals as goal

pub loop-i-preserved : goal.loop-i-preserved
loop-i-preserved c = HasNoLf-more c.args.bytes.now c.loop-i.i c.loop-i-test.true c.if-b-eq10.false c.loop-i.invariant
