use Rattle.std.proofs.Common.{◌≡◌, ◌++◌, ◌<◌, ◌≤◌, ◌-◌}
use Rattle.msl_outside.specs.Known.{Told}
use Rattle.msl_io.specs.Lines.{most_bytes}
use Rattle.msl_io.specs.Taking.{Took}
use Rattle.msl_io.proofs.lines.read_line.Given as goal

abbrev pub invariant-parts : goal.invariant-parts
invariant-parts g l = record {
  took : Told (g.S.Source.left l.fn.src) (g.S.Source.left l.src) (λ left left'. Took (l.fn.chunk ++ left) l.chunk left' l.text);
  count : g.S.Source.faults l.src ≡ g.S.Source.faults l.fn.src;
  room : 0 < l.text.len → l.read < l.lines;
  short : l.text.len ≤ most_bytes;
}

abbrev pub decreases-parts : goal.decreases-parts
decreases-parts g l = most_bytes - l.text.len
