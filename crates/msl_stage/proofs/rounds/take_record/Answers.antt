use Rattle.std.proofs.Common.{◌+◌, ◌++◌, ℕ, Option, Result, ap, sym, subst, IsNone, ◌∙◌}
use Rattle.msl_base.specs.declared.rec.Rec.{Rec}
use Rattle.msl_io.specs.Known.{Told}
use Rattle.msl_io.specs.Reader.{Reads, after_of}
use Rattle.msl_stage.specs.Reading.{Takes, TakeCause}
use Rattle.msl_base.specs.declared.fault.End.{End}
use Rattle.msl_stage.proofs.Reading.{taken, take_cause}
use Rattle.msl_stage.proofs.rounds.take_record.Goals as goal

pub returns-clause-takes : goal.returns-clause-takes
returns-clause-takes g c =
    let b = g.S.Source.left c.args.src.now in
    let d = g.S.Source.left c.next.new.src in
    let old = c.args.reader.now in
    let new = c.next.new.self in
    let reads = λ (none : IsNone old.stopped). subst (λ (i : ℕ). Told b d (λ x y. Reads (record { limit = i; number = old.read + 1; bytes = old.rest ++ x }) (after_of new y) c.next.result)) c.requires.lines (c.next.ensures.line none) in
    subst (Takes old.stopped b d old new) (sym c.next_record.ensures)
    (taken b d old new c.next.result old.stopped c.requires.going reads c.next.ensures.counts (λ some. let w = c.next.ensures.again some in (w.0, ap g.S.Source.left w.2)))

pub returns-clause-lines : goal.returns-clause-lines
returns-clause-lines g c = c.next.ensures.lines ∙ c.requires.lines

pub returns-clause-cause : goal.returns-clause-cause
returns-clause-cause g c =
    subst (λ (r : Result (Option Rec) End). TakeCause r (g.S.Source.faults c.args.src.now) (g.S.Source.faults c.next.new.src)) (sym c.next_record.ensures)
    (take_cause c.next.result (g.S.Source.faults c.args.src.now) (g.S.Source.faults c.next.new.src) c.args.reader.now.stopped c.requires.going c.next.ensures.cause
    (λ some. let w = c.next.ensures.again some in (w.0, ap g.S.Source.faults w.2)))
