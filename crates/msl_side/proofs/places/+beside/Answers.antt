use Rattle.std.proofs.Common.{rules, ◌-◌, arith}
use Rattle.msl_side.specs.Places.{Led}
use Rattle.msl_side.proofs.Leading.{led_more}
use Rattle.msl_side.proofs.places.+beside.Goals as goal

pub returns-clause-led : goal.returns-clause-led
returns-clause-led g t c =
    let h : Led (goal.F-post g c.args.f.now) (c.args.n - 1) c.join-x.result.1 = search rules in
    let x : goal.F-post g c.args.f.now (c.args.n - 1) c.join-x.result.0 = search rules in
    led_more (goal.F-post g c.args.f.now) (c.args.n - 1) c.args.n _ _ c.both.result (omega arith) h x c.both.ensures.longer
