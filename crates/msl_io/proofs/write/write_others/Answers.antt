use Rattle.std.proofs.Common.{arith, ◌≡◌, ℕ, List, ◌++◌, drop, length, ap, ◌∙◌, sym, subst}
use Rattle.msl_io.specs.Writing.{Wrote, others}
use Rattle.msl_io.proofs.Appending.{part_on, part_before, err_on, wrote_next, others-end}
use Rattle.msl_io.proofs.write.write_others.Goals as goal

pub returns-in-Err-clause-err : goal.returns-in-Err-clause-err
returns-in-Err-clause-err g c =
    let b = g.K.Sink.held c.loop-x.sink in
    let d = g.K.Sink.held c.make_room.new.sink in
    let left = others (drop c.loop-x.x-index c.args.xs.now) in
    part_on (g.K.Sink.held c.args.sink.now) b d (c.args.piece.now ++ others c.args.xs.now) (c.loop-x.piece ++ left) c.loop-x.invariant.wrote (part_before b d c.loop-x.piece left c.in-Err.ensures.err)

pub loop-x-preserved : goal.loop-x-preserved
loop-x-preserved g c = record {
  wrote = wrote_next (g.K.Sink.held c.args.sink.now) (g.K.Sink.held c.loop-x.sink) (g.K.Sink.held c.make_room.new.sink) (c.args.piece.now ++ others c.args.xs.now)
      c.loop-x.piece c.make_room.new.piece c.push.new.self c.push_number.new.self c.args.xs.now c.loop-x.x-index
      c.loop-x.invariant.wrote c.in-Ok.ensures.ok c.push.ensures.text c.push_number.ensures.text c.loop-x-test.true;
  count = c.in-Ok.ensures.cause ∙ c.loop-x.invariant.count;
  room = omega (arith, c.in-Ok.ensures.room, c.push.ensures.size, c.push_number.ensures.short);
}

pub returns-clause-err : goal.returns-clause-err
returns-clause-err g c =
    let end : c.loop-x.x-index ≡ length c.args.xs.now = omega arith in
    let a = g.K.Sink.held c.args.sink.now in
    let b = g.K.Sink.held c.loop-x.sink in
    let text = c.args.piece.now ++ others c.args.xs.now in
    let last : c.loop-x.piece ++ others (drop c.loop-x.x-index c.args.xs.now) ≡ c.as_slice.result.now =
    ap (λ (t : List ℕ). c.loop-x.piece ++ t) (others-end c.args.xs.now c.loop-x.x-index end) ∙ sym (c.as_slice.ensures ∙ c.push-2.ensures.text) in
    err_on c.write_text.result a b (g.K.Sink.held c.write_text.new.sink) text c.as_slice.result.now (subst (Wrote a b text) last c.loop-x.invariant.wrote) c.write_text.ensures.err
