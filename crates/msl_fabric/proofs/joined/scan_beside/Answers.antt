use Rattle.std.proofs.Common.{vec_capacity}
use Rattle.msl_local.specs.Folds.{scanned, HandComes}
use Rattle.msl_local.specs.Parts.{flat}
use Rattle.msl_local.proofs.Together.{by_hands, together, room_for}
use Rattle.msl_fabric.proofs.joined.scan_beside.Goals as goal

pub joined-requires-clause-room : goal.joined-requires-clause-room
joined-requires-clause-room g c =
    let w = c.args.work.now in
    let a = w.parts.now in
    let f = scanned w.op w.stage (flat a) in
    room_for a f c.beside-got.result (vec_capacity c.in_ok-all.all) c.in_ok-all.ensures.room
    (by_hands f a c.args.hands c.requires.some (λ h q. HandComes a f c.args.hands h q) c.beside-got.result c.beside-got.ensures.led (λ h q lt p. p))

pub returns : goal.returns
returns g c =
    let w = c.args.work.now in
    let a = w.parts.now in
    let f = scanned w.op w.stage (flat a) in
    together a f c.beside-got.result c.joined.result
    (by_hands f a c.args.hands c.requires.some (λ h q. HandComes a f c.args.hands h q) c.beside-got.result c.beside-got.ensures.led (λ h q lt p. p)) c.joined.ensures
