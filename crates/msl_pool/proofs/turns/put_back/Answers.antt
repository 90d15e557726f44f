use Rattle.std.proofs.Common.{rules, ◌≡◌, ◌<◌, ◌++◌, ◌∷◌, [], length, ap, subst}
use Rattle.msl_pool.proofs.Keeping.{put_back-alone, put_back-gives}
use Rattle.msl_pool.proofs.turns.put_back.Goals.{in-Some, in_default}
use Rattle.msl_pool.proofs.turns.put_back.Goals as goal

pub returns : goal.returns
returns g c =
    let was = c.args.ring.now.items in
    let now = c.match-front_mut.ring.items in
    let pushed = c.in_ok-push_back.ensures.items in
    elim c.match-front_mut.branch [
      | in-Some w ↦
          let some : 0 < length was = search rules in
          put_back-gives was now c.args.member w.give.new.self w.in-Some.next.now w.give.new.next c.push_back.new.self.items some w.in-Some.ensures.value
          (ap (λ q. q.items) w.ring-is) w.give.ensures (subst (λ m. c.push_back.new.self.items ≡ now ++ m ∷ []) w.member-is pushed)
      | in_default w ↦ put_back-alone was now c.args.member c.match-front_mut.member c.push_back.new.self.items (ap (λ q. q.items) w.ring-is) w.member-is pushed
    ]
