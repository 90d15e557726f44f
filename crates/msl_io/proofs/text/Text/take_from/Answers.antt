use Rattle.std.proofs.Common.{arith, ◌<◌, ◌≤◌, length, ap}
use Rattle.msl_io.proofs.Taking.{part_long, part_ended, part_more}
use Rattle.msl_io.proofs.text.Text.take_from.Goals as goal

pub returns-then-end-self-clause-part : goal.returns-then-end-self-clause-part
returns-then-end-self-clause-part c taken h =
    let end = rw c.as_slice-bytes.ensures at c.line_end-end.ensures in
    part_long c.args.chunk.now c.line_end-end.result end taken c.args.self.now c.if-end-self.true h

pub returns-then-ended-clause-part : goal.returns-then-ended-clause-part
returns-then-ended-clause-part c taken h =
    let end = rw c.as_slice-bytes.ensures at c.line_end-end.ensures in
    let inside : c.line_end-end.result < length c.args.chunk.now = omega (arith, ap length c.as_slice-bytes.ensures) in
    let taken' = rw c.as_slice-bytes.ensures at (c.in-Ok.ensures.taken taken h c.line_end-end.ensures.no_lf) in
    part_ended c.args.chunk.now c.line_end-end.result end taken c.advance.new.self c.take.new.self inside c.advance.ensures taken'

pub returns-else-ended-clause-part : goal.returns-else-ended-clause-part
returns-else-ended-clause-part c taken h =
    let end = rw c.as_slice-bytes.ensures at c.line_end-end.ensures in
    let outside : length c.args.chunk.now ≤ c.line_end-end.result = omega (arith, ap length c.as_slice-bytes.ensures) in
    let taken' = rw c.as_slice-bytes.ensures at (c.in-Ok.ensures.taken taken h c.line_end-end.ensures.no_lf) in
    part_more c.args.chunk.now c.line_end-end.result end taken c.advance-else-ended.new.self c.take.new.self outside c.advance-else-ended.ensures taken'
