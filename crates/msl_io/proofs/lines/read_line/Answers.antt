use Rattle.std.proofs.Common.{arith, ◌∙◌, ◌+◌, ap, None}
use Rattle.msl_io.specs.declared.lines.Line.TheVariants as line
use Rattle.msl_io.specs.Reader.{before_of, stop_of}
use Rattle.msl_io.specs.Taking.{reader, last_stop}
use Rattle.msl_io.proofs.Answering.{nonzero, answer_last, answer_cut, answer_many, answer_none, answer_ended, answer_long, took_part}
use Rattle.msl_io.proofs.Told.{told_chain}
use Rattle.msl_io.proofs.lines.read_line.Goals as goal

pub returns-else-is_empty-clause-line : goal.returns-else-is_empty-clause-line
returns-else-is_empty-clause-line g c =
    let old = reader c.args.chunk.now c.args.read c.args.lines None in
    let t = c.parts.text in
    let some = nonzero t.len c.if-is_empty.ensures in
    rw c.last.ensures
    (told_chain (g.S.Source.left c.args.src.now) (g.S.Source.left c.parts.src) (g.S.Source.left c.fill.new.src) c.parts.invariant.took c.in-End.ensures.bytes
    (λ x y z k f. answer_last (before_of old x) c.parts.chunk y c.fill.new.self z (last_stop c.finish.result) t k c.parts.invariant.short c.finish.result (omega (arith, some)) some f c.finish.ensures.line (λ r e. ap last_stop e)))

pub returns-in-Fault-clause-line : goal.returns-in-Fault-clause-line
returns-in-Fault-clause-line g c =
    let old = reader c.args.chunk.now c.args.read c.args.lines None in
    rw c.new-in-Fault.ensures
    (told_chain (g.S.Source.left c.args.src.now) (g.S.Source.left c.parts.src) (g.S.Source.left c.fill.new.src) c.parts.invariant.took c.in-Fault.ensures.bytes
    (λ x y z k f. answer_cut (before_of old x) c.parts.chunk y c.fill.new.self z (stop_of line.ReadFault) c.parts.text k c.parts.invariant.short (omega arith) f))

pub returns-then-read-lines-clause-line : goal.returns-then-read-lines-clause-line
returns-then-read-lines-clause-line g c =
    let old = reader c.args.chunk.now c.args.read c.args.lines None in
    rw c.new-then-read-lines.ensures
    (told_chain (g.S.Source.left c.args.src.now) (g.S.Source.left c.parts.src) (g.S.Source.left c.fill.new.src) c.parts.invariant.took c.in-Bytes.ensures.bytes
    (λ x y z k f. answer_many (before_of old x) c.parts.chunk y c.fill.new.self z (stop_of line.ManyLines) c.parts.text k c.parts.invariant.short f c.fill.new.self (omega arith) c.in-Bytes.ensures.some))

pub parts-preserved : goal.parts-preserved
parts-preserved g c =
    let old = reader c.args.chunk.now c.args.read c.args.lines None in
    record {
      took = told_chain (g.S.Source.left c.args.src.now) (g.S.Source.left c.parts.src) (g.S.Source.left c.fill.new.src) c.parts.invariant.took c.in-Bytes.ensures.bytes
          (λ x y z k f. took_part (before_of old x) c.parts.chunk y c.fill.new.self z None c.parts.text k c.parts.invariant.short f c.take_from.new.self c.take_from.new.chunk (c.in-More.ensures.part k.taken k.has));
      count = c.in-Bytes.ensures.cause ∙ c.parts.invariant.count;
      room = λ _. omega arith;
      short = c.in-More.ensures.fits.1;
    }

pub returns-in-Ended-clause-line : goal.returns-in-Ended-clause-line
returns-in-Ended-clause-line g c =
    let old = reader c.args.chunk.now c.args.read c.args.lines None in
    rw c.new-in-Ended.ensures
    (told_chain (g.S.Source.left c.args.src.now) (g.S.Source.left c.parts.src) (g.S.Source.left c.fill.new.src) c.parts.invariant.took c.in-Bytes.ensures.bytes
    (λ x y z k f. answer_ended (before_of old x) c.parts.chunk y c.fill.new.self z (stop_of c.finish-in-Ended.result) c.parts.text k c.parts.invariant.short f c.finish-in-Ended.result c.take_from.new.self c.take_from.new.chunk (omega arith)
    c.in-Ended.ensures.fits (c.in-Ended.ensures.part k.taken k.has) c.finish-in-Ended.ensures.line (λ r e. ap stop_of e)))

pub returns-in-Long-clause-line : goal.returns-in-Long-clause-line
returns-in-Long-clause-line g c =
    let old = reader c.args.chunk.now c.args.read c.args.lines None in
    rw c.new-in-Long.ensures
    (told_chain (g.S.Source.left c.args.src.now) (g.S.Source.left c.parts.src) (g.S.Source.left c.fill.new.src) c.parts.invariant.took c.in-Bytes.ensures.bytes
    (λ x y z k f. answer_long (before_of old x) c.parts.chunk y c.fill.new.self z (stop_of (line.LongLine (c.args.read + 1))) c.parts.text k c.parts.invariant.short f c.take_from.new.self c.take_from.new.chunk (omega arith) c.fill.ensures.kept
    (c.in-Long.ensures.part k.taken k.has)))

pub returns-in-NoMemory-clause-line : goal.returns-in-NoMemory-clause-line
returns-in-NoMemory-clause-line g c =
    let old = reader c.args.chunk.now c.args.read c.args.lines None in
    rw c.new-in-NoMemory.ensures
    (told_chain (g.S.Source.left c.args.src.now) (g.S.Source.left c.parts.src) (g.S.Source.left c.fill.new.src) c.parts.invariant.took c.in-Bytes.ensures.bytes
    (λ x y z k f. answer_none (before_of old x) c.parts.chunk y c.fill.new.self z None c.parts.text k c.parts.invariant.short f))
