use Rattle.std.proofs.Common.{◌≡◌, ◌<◌, ℕ, subst, arith}
use Rattle.msl_fabric.proofs.Turns.{RowTurned, row-none, row-more, square-none, square-more, square-all}
use Rattle.msl_fabric.proofs.fabric.turned.Goals as goal

pub loop-i-init : goal.loop-i-init
loop-i-init c = (omega arith, c.count-n.ensures.count, square-none c.args.boxes c.count-n.ensures.whole)

pub loop-j-init : goal.loop-j-init
loop-j-init c = (omega arith, row-none c.loop-i.i c.loop-i.boxes c.loop-i.invariant.2.whole)

pub loop-j-preserved : goal.loop-j-preserved
loop-j-preserved c =
    let square = c.loop-i.invariant.2 in
    let p : c.loop-i.i < c.loop-i.boxes.n = omega (arith, c.loop-i-test.true, c.loop-i.invariant.1, square.members) in (
      omega (arith, c.loop-j-test.true),
      row-more c.loop-i.i c.loop-j.j c.loop-i.boxes c.loop-j.boxes p c.loop-j-test.true c.loop-j.invariant.1 c.turn.new.self c.turn.ensures,
    )

pub loop-i-preserved : goal.loop-i-preserved
loop-i-preserved c =
    let square = c.loop-i.invariant.2 in
    let p : c.loop-i.i < c.args.boxes.n = omega (arith, c.loop-i-test.true, c.loop-i.invariant.1) in
    let all : c.loop-j.j ≡ c.loop-i.i = omega (arith, c.loop-j-test.false, c.loop-j.invariant.0) in (
      omega (arith, c.loop-i-test.true),
      c.loop-i.invariant.1,
      square-more c.loop-i.i c.args.boxes c.loop-i.boxes c.loop-j.boxes p square
          (subst (λ (k : ℕ). RowTurned c.loop-i.i k c.loop-i.boxes c.loop-j.boxes) all c.loop-j.invariant.1),
    )

pub returns : goal.returns
returns c = square-all c.loop-i.i c.args.boxes c.loop-i.boxes (omega (arith, c.loop-i-test.false, c.loop-i.invariant.1)) c.loop-i.invariant.2
