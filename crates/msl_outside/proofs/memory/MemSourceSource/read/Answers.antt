use Rattle.std.proofs.Common.{arith, ◌≡◌, ◌<◌, ◌+◌, ◌-◌, ◌≤◌, length, take, drop, ap, sym, ◌∙◌, length-drop}
use Rattle.std.proofs.lemmas.List.{drop_all}
use Rattle.msl_outside.specs.Memory.{SourceView}
use Rattle.msl_outside.proofs.Pieces.{read_piece, rest_of}
use Rattle.msl_outside.proofs.memory.MemSourceSource.read.Goals as goal

pub returns-clause-bytes : goal.returns-clause-bytes
returns-clause-bytes c =
    let bytes = c.self.inside.bytes in
    let at = c.self.inside.at in
    let n = c.min-n.result in
    let same : c.as_slice.result.now ≡ bytes = c.as_slice.ensures in
    let whole : take (length c.as_slice.result.now - at) (drop at c.as_slice.result.now) ≡ drop at bytes = rest_of at c.as_slice.result.now ∙ ap (drop at) same in
    let left : n ≤ length (drop at bytes) = omega (arith, c.min-n.ensures, ap length whole) in
    let exact : c.copy_from_slice.new.self ≡ take n (drop at bytes) = c.copy_from_slice.ensures.after ∙ ap (take n) whole in (
      ap (λ (v : SourceView). v.left) (sym c.self.view_is) ∙ read_piece bytes c.args.buf.now c.copy_from_slice.new.self at n exact (omega (arith, left, length-drop at bytes, c.self.invariant.1)),
      λ zero some.
          let buf : 0 < length c.args.buf.now = c.requires in
          let none : length (drop at bytes) ≡ 0 = omega (arith, c.min-n.ensures, c.min.ensures, ap length whole, c.self.invariant.0, buf, zero) in
          drop_all (at + n) bytes (omega (arith, none, length-drop at bytes)),
    )
