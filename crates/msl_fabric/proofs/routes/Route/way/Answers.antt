use Rattle.std.proofs.Common.{◌≡◌, ◌<◌, ◌+◌, ◌-◌, ℕ, arith, sym, ap, ap₂, ◌∙◌, subst}
use Rattle.msl_base.specs.Blocks.{begin, IsInBlock}
use Rattle.msl_base.proofs.Tiles.{block_is}
use Rattle.msl_local.proofs.Blocks.{begin_within}
use Rattle.msl_fabric.specs.Routes.{goes, many, owner, round}
use Rattle.msl_fabric.proofs.Rounds.{own_place, owner_within}
use Rattle.msl_fabric.proofs.routes.Route.way.Goals as goal

pub returns-then-bounds-first : goal.returns-then-bounds-first
returns-then-bounds-first c i lt mine turn =
    let r = c.args.self.now in
    let own : IsInBlock (many r) r.members c.args.m i = subst (λ j. IsInBlock (many r) r.members j i) mine (own_place r i lt) in
    let round_is : round r i ≡ i - begin (many r) r.members c.args.m = ap (λ j. i - begin (many r) r.members j) mine in
    let first : c.bounds-first.result ≡ begin (many r) r.members c.args.m = c.bounds-first.ensures ∙ ap₂ (begin (many r)) c.from-members.ensures c.from-member.ensures in
    let next : c.bounds.result ≡ begin (many r) r.members (c.args.m + 1) = c.bounds.ensures ∙ ap₂ (λ p j. begin (many r) p (j + 1)) c.from-members.ensures c.from-member.ensures in
    omega (arith, own, round_is, turn, first, next, c.if-bounds-first.true)

pub returns : goal.returns
returns c =
    let r = c.args.self.now in
    let from : ℕ = c.bounds-first.result + c.args.k in
    let first : c.bounds-first.result ≡ begin (many r) r.members c.args.m = c.bounds-first.ensures ∙ ap₂ (begin (many r)) c.from-members.ensures c.from-member.ensures in
    let next : c.bounds.result ≡ begin (many r) r.members (c.args.m + 1) = c.bounds.ensures ∙ ap₂ (λ p j. begin (many r) p (j + 1)) c.from-members.ensures c.from-member.ensures in
    let own : IsInBlock (many r) r.members c.args.m from = (omega (arith, first), omega (arith, next, first, c.if-bounds-first.false)) in
    let here : from < many r = omega (arith, own, begin_within (many r) r.members (c.args.m + 1) r.some (omega (arith, c.requires))) in
    let mine : owner r from ≡ c.args.m = block_is (many r) r.members c.args.m from c.requires own in
    let goes_to : c.of-to.result ≡ goes r from = c.of-to.ensures in
    let there : c.of-to.result < many r = subst (λ j. j < many r) (sym goes_to) (r.permutes.within from here) in
    let theirs = r.owned.each c.of-to.result there in
    record {
      here = here;
      mine = mine;
      turn = ap (λ j. from - begin (many r) r.members j) mine ∙ omega (arith, first);
      goes_to = goes_to;
      there = there;
      theirs = theirs;
      member = subst (λ j. j < r.members) (sym theirs) (owner_within r c.of-to.result there);
    }
