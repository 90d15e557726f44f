use Rattle.std.proofs.Common.{rules, ◌+◌, ◌*◌, pos, slice_index_or, FitsSigned, w64, of_z, to_z}
use Rattle.std.proofs.lemmas.Int.{to_z-of_z}
use Rattle.msl_matrix.proofs.Turned.{column_next}
use Rattle.msl_matrix.proofs.turns.turn_rows.Goals as goal

pub loop-a-preserved : goal.loop-a-preserved
loop-a-preserved c =
    let a = c.loop-a.a in
    let b = c.loop-b.b in
    let xs = c.args.block.now in
    let x = slice_index_or xs (a * c.args.width + b) (pos 0) in
    let fit : FitsSigned w64 x = search rules in
    column_next c.args.height c.args.width xs c.args.from c.args.to b a (to_z w64 (of_z w64 x)) c.loop-a.out c.loop-a.invariant c.loop-a.auto.a c.loop-a-test.true c.requires.within c.loop-b-test.true (to_z-of_z w64 x fit)
