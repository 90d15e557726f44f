use Rattle.std.proofs.Common.{◌≡◌, ◌++◌, ◌∷◌, ◌-◌, ◌<◌, [], length, get_or, to_z, of_z, w64, IfSome, suc, ap, subst, arith}
use Rattle.std.proofs.lemmas.List.{get_or_read}
use Rattle.msl_pruning.specs.Visiting.{live}
use Rattle.msl_pruning.proofs.Works.{holds_more}
use Rattle.msl_pruning.proofs.pruning.hold.Goals as goal

pub loop-left-preserved : goal.loop-left-preserved
loop-left-preserved c =
    let path = c.args.path in
    let low = to_z w64 (of_z w64 c.args.low) in
    let xs = c.args.children.now in
    let k = c.loop-left.left - 1 in
    let next : c.loop-left.left ≡ suc k = omega (arith, c.loop-left-test.true) in
    let within : k < length xs = omega (arith, c.loop-left-test.true, c.loop-left.invariant.most) in
    let child : c.unwrap-path.result ≡ path ++ k ∷ [] = subst (λ o. IfSome o (λ p. p ≡ path ++ k ∷ [])) c.unwrap-path.ensures c.push.ensures.pushed in
    let x : c.index-children-left.result ≡ get_or xs k [] = get_or_read xs k _ within c.index-children-left.is [] in
    record {
      most = omega (arith, c.loop-left.invariant.most);
      holds = holds_more path low xs c.loop-left.left k c.args.held.now.items c.loop-left.held.items c.push_back.new.self.items _ c.loop-left.invariant.holds
          next within child (ap (λ y. live y low) x) c.in_ok-push_back.ensures.items;
    }
