use Rattle.std.proofs.Common.{refl}
use Rattle.msl_stage.proofs.Feeding.{wrote, wrote_part}
use Rattle.msl_stage.proofs.run.Run.write.Goals as goal

pub returns-in-Ok-clause-fed : goal.returns-in-Ok-clause-fed
returns-in-Ok-clause-fed g c =
    wrote g.O.OneToOne.one c.args.self.now.funs.now (Unit {0}) c.args.self.now.steps.items c.args.self.now.steps.items c.args.xs.now (tt {0}) (g.K.Sink.held c.args.out.now) (g.K.Sink.held c.write.new.sink) refl c.in-Ok.ensures.ok

pub returns-in-Err-clause-fed : goal.returns-in-Err-clause-fed
returns-in-Err-clause-fed g c =
    wrote_part g.O.OneToOne.one c.args.self.now.funs.now (Unit {0}) c.args.self.now.steps.items c.args.self.now.steps.items c.args.xs.now (g.K.Sink.held c.args.out.now) (g.K.Sink.held c.write.new.sink) refl c.in-Err.ensures.err
