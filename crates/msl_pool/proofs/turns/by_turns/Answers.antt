use Rattle.std.proofs.Common.{◌≡◌, All, sum_by, sym, ap, ◌∙◌, subst, arith}
use Rattle.msl_pool.specs.Turning.{IsSound, StartsOpen, open_in}
use Rattle.msl_pool.proofs.Keeping.{keeps-start, keeps-turn, keeps-end, none_open, sound-rotated, starts_open, weigh-rotated, weight, weight_of, weight-worked}
use Rattle.msl_pool.proofs.turns.by_turns.Goals as goal

pub loop-at-init : goal.loop-at-init
loop-at-init g c =
    let s = c.args.search.now in
    keeps-start (g.S.Search.is_node s) (g.S.Search.has s) c.args.root c.in_ok-ring.ring.items c.in_ok-ring.ensures c.requires.root c.requires.new

pub turn-requires-clause-open : goal.turn-requires-clause-open
turn-requires-clause-open g c = subst StartsOpen (sym c.rotate_left.ensures.items) (starts_open c.loop-at.ring.items c.in-Some.at (sym c.in-Some.ensures))

pub turn-requires-clause-sound : goal.turn-requires-clause-sound
turn-requires-clause-sound g c =
    let node = g.S.Search.is_node c.loop-at.search in
    subst (All (IsSound node)) (sym c.rotate_left.ensures.items) (sound-rotated node c.in-Some.at c.loop-at.ring.items c.loop-at.invariant.sound)

pub loop-at-preserved : goal.loop-at-preserved
loop-at-preserved g c =
    let search = g.S.Search in
    keeps-turn (search.is_node c.loop-at.search) (search.is_node c.turn.new.search) (search.has c.loop-at.search) (search.has c.turn.new.search)
    c.loop-at.ring.items c.rotate_left.new.self.items c.turn.new.ring.items c.loop-at.invariant
    (λ f. ap (λ ms. sum_by f (open_in ms)) c.rotate_left.ensures.items ∙ weigh-rotated f c.in-Some.at c.loop-at.ring.items)
    c.in_ok-turn.ensures.works c.in_ok-turn.ensures.sound

pub loop-at-smaller : goal.loop-at-smaller
loop-at-smaller g c =
    let has = g.S.Search.has in
    let same : weight (open_in c.rotate_left.new.self.items) ≡ weight (open_in c.loop-at.ring.items) =
    ap (λ ms. weight (open_in ms)) c.rotate_left.ensures.items ∙ weigh-rotated weight_of c.in-Some.at c.loop-at.ring.items in
    let less = weight-worked (has c.loop-at.search) (has c.turn.new.search) (open_in c.rotate_left.new.self.items) (open_in c.turn.new.ring.items) c.in_ok-turn.ensures.works in
    omega (arith, same, less)

pub returns-clause-done : goal.returns-clause-done
returns-clause-done g c =
    let s = c.loop-at.search in
    keeps-end (g.S.Search.is_node s) (g.S.Search.has s) c.loop-at.ring.items c.loop-at.invariant (none_open c.loop-at.ring.items (sym c.first_open.ensures ∙ c.in_default.is))
