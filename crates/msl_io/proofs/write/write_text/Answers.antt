use Rattle.std.proofs.Common.{◌∙◌, sym, subst}
use Rattle.msl_io.specs.Writing.{Wrote}
use Rattle.msl_io.proofs.Appending.{wrote_on, wrote_bytes}
use Rattle.msl_outside.proofs.Pieces.{rest_of}
use Rattle.msl_io.proofs.write.write_text.Goals as goal

pub loop-rest-preserved : goal.loop-rest-preserved
loop-rest-preserved g c =
    let a = g.K.Sink.held c.args.sink.now in
    let b = g.K.Sink.held c.loop-rest.sink in
    let d = g.K.Sink.held c.write.new.self in
    let rest = c.loop-rest.rest.now in
    let n = c.in-Ok.n in
    record {
      wrote = wrote_on a b d c.args.bytes.now rest _ c.loop-rest.invariant.wrote (subst (Wrote b d rest) (sym (rest_of n rest)) (wrote_bytes b d n rest c.in-Ok.ensures.bytes));
      count = c.in-Ok.ensures.cause ∙ c.loop-rest.invariant.count;
    }
