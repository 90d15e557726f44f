use Rattle.std.proofs.Common.{arith, ◌<◌, ◌+◌, List, length, sym, ap, ◌∙◌, subst, Bor, Result, Err}
use Rattle.std.proofs.lemmas.Result.{err_from_is_err_and}
use Rattle.msl_base.specs.declared.fault.End.{End}
use Rattle.msl_fun.specs.declared.funs.Fun.{Fun}
use Rattle.msl_stage.specs.Feeding.{Finishes, Spreads, end_by, ended}
use Rattle.msl_stage.specs.declared.run.Stop.{Stop}
use Rattle.msl_stage.specs.Lines.{AreSteps}
use Rattle.msl_stage.proofs.Feeding.{is_at}
use Rattle.msl_stage.proofs.Finishing.{finishes_flush, finishes_stopped}
use Rattle.msl_stage.proofs.run.Run.+finish.Goals as goal

pub flush-made-requires : goal.flush-made-requires
flush-made-requires g t c =
    let ss = c.args.self.now.steps.items in
    let lt : c.args.at < length ss = omega (arith, c.requires.within, c.len.ensures, c.if-at-len.false, c.args.self.now.steps.ok.0) in
    let one = g.O.OneToOne.one in
    let total = g.met.O.OneToOne.total in
    let funs = c.args.self.now.funs.now in
    is_at one total funs ss c.args.at c.index.result.now lt c.index.ensures c.requires.steps

pub returns-in_err-spread-clause-finished : goal.returns-in_err-spread-clause-finished
returns-in_err-spread-clause-finished g t c =
    let ss = c.args.self.now.steps.items in
    let lt : c.args.at < length ss = omega (arith, c.requires.within, c.len.ensures, c.if-at-len.false, c.args.self.now.steps.ok.0) in
    let one = g.O.OneToOne.one in
    let total = g.met.O.OneToOne.total in
    let funs = c.args.self.now.funs.now in
    let why = c.in_err-spread.field-0.0 in
    let w = c.spread.new.self.why in
    let come : Result (Unit {0}) Stop → Result (Unit {0}) End = λ q. ended q w in
    let h = g.K.Sink.held c.args.out.now in
    let l = g.K.Sink.held c.spread.new.out in
    let out = err_from_is_err_and c.from_residual.result c.from_residual.ensures.1 in
    finishes_stopped one total funs ss c.spread.new.self.steps.items c.args.at c.index.result.now lt c.index.ensures (Unit {0}) (Unit {0}) c.flush-made.result (end_by why w) (ended c.from_residual.result w) h l c.requires.steps (ap come (out.1 ∙ ap Err out.2)) c.flush-made.ensures
    (subst (λ (r : Result (Unit {0}) Stop). Spreads one funs ss c.spread.new.self.steps.items (c.args.at + 1) c.flush-made.result (ended r w) h l) c.in_err-spread.was c.spread.ensures.spread)

pub finish-requires : goal.finish-requires
finish-requires g t c κs within =
    let ss = c.args.self.now.steps.items in
    let lt : c.args.at < length ss = omega (arith, c.requires.within, c.len.ensures, c.if-at-len.false, c.args.self.now.steps.ok.0) in
    let one = g.O.OneToOne.one in
    let total = g.met.O.OneToOne.total in
    let funs = c.args.self.now.funs.now in
    let long = c.spread.ensures.long in (
      omega (arith, c.decreases, lt, long),
      (within.0, (within.1, (omega (arith, lt, long), subst (λ (fs : Bor (List Fun)). AreSteps one fs.now c.spread.new.self.steps.items) (sym c.spread.ensures.funs) c.spread.ensures.steps))),
    )

pub returns-clause-finished : goal.returns-clause-finished
returns-clause-finished g t c =
    let ss = c.args.self.now.steps.items in
    let lt : c.args.at < length ss = omega (arith, c.requires.within, c.len.ensures, c.if-at-len.false, c.args.self.now.steps.ok.0) in
    let one = g.O.OneToOne.one in
    let total = g.met.O.OneToOne.total in
    let funs = c.args.self.now.funs.now in
    let h = g.K.Sink.held c.args.out.now in
    let k = g.K.Sink.held c.spread.new.out in
    let l = g.K.Sink.held c.finish.new.out in
    finishes_flush one total funs ss c.spread.new.self.steps.items c.args.at c.index.result.now lt c.index.ensures (Unit {0}) (Unit {0}) c.flush-made.result tt (ended c.finish.result c.finish.new.self.why) h k l c.flush-made.ensures
    (subst (λ (r : Result (Unit {0}) Stop). Spreads one funs ss c.spread.new.self.steps.items (c.args.at + 1) c.flush-made.result (ended r c.spread.new.self.why) h k) c.in_ok-spread.was c.spread.ensures.spread)
    (subst (λ (fs : Bor (List Fun)). Finishes one fs.now c.spread.new.self.steps.items (c.args.at + 1) (ended c.finish.result c.finish.new.self.why) k l) c.spread.ensures.funs c.finish.ensures.finished)
