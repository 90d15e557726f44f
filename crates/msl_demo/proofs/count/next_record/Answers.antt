use Rattle.std.proofs.Common.{ℕ, ◌+◌, ◌++◌, List, Some, ap, ◌∙◌, subst, IsNone}
use Rattle.msl_io.specs.Reader.{Reads, after_of}
use Rattle.msl_io.specs.declared.lines.Line.{Line}
use Rattle.msl_stage.specs.Reading.{next_of, Takes}
use Rattle.msl_stage.proofs.Reading.{taken}
use Rattle.msl_demo.proofs.Reading.{record_comes}
use Rattle.msl_demo.proofs.count.next_record.Goals as goal

pub returns-in-Rec : goal.returns-in-Rec
returns-in-Rec c text front h =
    let old = c.args.reader.now in
    let new = c.next.new.self in
    let src = c.args.src.now in
    let src' = c.next.new.src in
    let reads = λ (none : IsNone old.stopped). subst (λ (i : ℕ). Reads (record { limit = i; number = old.read + 1; bytes = old.rest ++ src }) (after_of new src') c.next.result) h.lines (c.next.ensures.line none) in
    let takes = taken (Some src) (Some src') old new c.next.result old.stopped h.going reads c.next.ensures.counts (λ some. let w = c.next.ensures.again some in (w.0, ap (λ (l : List ℕ). Some l) w.2)) in
    record_comes text front old new src src' (c.next.ensures.lines ∙ h.lines) c.in-Rec.rec old.stopped h.going h.read
    (subst (λ (answer : Line). Takes old.stopped (Some src) (Some src') old new (next_of answer)) c.in-Rec.is takes)
