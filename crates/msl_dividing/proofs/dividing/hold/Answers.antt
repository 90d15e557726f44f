use Rattle.std.proofs.Common.{◌≡◌, ◌++◌, ◌∷◌, [], ◌-◌, IfSome, subst, arith}
use Rattle.std.proofs.lemmas.List.{get_or_read}
use Rattle.msl_dividing.proofs.Finding.{holds_more}
use Rattle.msl_dividing.proofs.dividing.hold.Goals as goal

pub loop-left-preserved : goal.loop-left-preserved
loop-left-preserved c =
    let left = c.loop-left.left - 1 in
    let child : c.unwrap-path.result ≡ c.args.path ++ left ∷ [] = subst (λ o. IfSome o (λ path. path ≡ c.args.path ++ left ∷ [])) c.unwrap-path.ensures c.push.ensures.pushed in
    let node = get_or_read c.args.parts.now left c.index-parts-left.result (omega arith) c.index-parts-left.is [] in
    record {
      most = omega (arith, c.loop-left.invariant.most);
      holds = holds_more c.args.path c.args.parts.now c.loop-left.left left c.args.held.now.items c.loop-left.held.items c.push_back.new.self.items _ c.loop-left.invariant.holds
          (omega (arith, c.loop-left-test.true)) (omega (arith, c.loop-left.invariant.most, c.loop-left-test.true)) child node c.in_ok-push_back.ensures.items;
    }
