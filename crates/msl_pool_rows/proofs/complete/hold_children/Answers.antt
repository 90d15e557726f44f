use Rattle.std.proofs.Common.{◌≡◌, ◌++◌, ◌∷◌, [], ◌-◌, length, IfSome, ap, subst, arith}
use Rattle.std.proofs.lemmas.List.{length_push}
use Rattle.msl_pool_rows.proofs.Holding.{holds_more}
use Rattle.msl_pool_rows.proofs.complete.hold_children.Goals as goal

pub loop-left-preserved : goal.loop-left-preserved
loop-left-preserved c =
    let at = c.args.at.now in
    let child : c.unwrap-path.result ≡ at.path ++ (c.loop-left.left - 1) ∷ [] =
    subst (λ o. IfSome o (λ path. path ≡ at.path ++ (c.loop-left.left - 1) ∷ [])) c.unwrap-path.ensures c.push.ensures.pushed in
    record {
      most = omega (arith, c.loop-left.invariant.most);
      holds = holds_more 3 c.loop-left.left (c.loop-left.left - 1) at.path c.args.held.now.items c.loop-left.held.items c.push_back.new.self.items _ c.loop-left.invariant.holds
          (omega (arith, c.loop-left-test.true)) child (omega (arith, c.requires.level, ap length child, length_push at.path (c.loop-left.left - 1))) c.in_ok-push_back.ensures.items;
    }
