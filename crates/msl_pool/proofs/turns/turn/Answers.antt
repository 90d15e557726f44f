use Rattle.std.proofs.Common.{All, ◌∙◌, ap, subst, sum_by}
use Rattle.std.proofs.lemmas.List.Elements.{All-tail}
use Rattle.msl_pool.specs.Turning.{IsSound, paths_in, open_in}
use Rattle.msl_pool.proofs.Keeping.{sound-kept, sound-put_back, weigh-put_back, weigh-cons, worked-among}
use Rattle.msl_pool.proofs.turns.turn.Goals as goal

pub returns-clause-sound : goal.returns-clause-sound
returns-clause-sound g c =
    let old = g.S.Search.is_node c.args.search.now in
    let new = g.S.Search.is_node c.work.new.search in
    let others = All-tail (IsSound old) c.in-Some.member c.pop_front.new.self.items (subst (All (IsSound old)) c.in-Some.ensures.items c.requires.sound) in
    sound-put_back new c.pop_front.new.self.items c.work.new.member c.put_back.new.ring.items c.in_ok-put_back.ensures
    (λ k d lt. sound-kept old new c.work.ensures.nodes _ (others k d lt)) c.in_ok-work.ensures.sound

pub returns-clause-works : goal.returns-clause-works
returns-clause-works g c =
    let has = g.S.Search.has in
    let others = c.pop_front.new.self.items in
    worked-among (has c.args.search.now) (has c.work.new.search) (paths_in c.in-Some.member) (paths_in c.work.new.member) (open_in others)
    (open_in c.args.ring.now.items) (open_in c.put_back.new.ring.items) c.in_ok-work.ensures.works
    (λ f. ap (λ ms. sum_by f (open_in ms)) c.in-Some.ensures.items ∙ weigh-cons f c.in-Some.member others)
    (λ f. weigh-put_back f others c.work.new.member c.put_back.new.ring.items c.in_ok-put_back.ensures)
