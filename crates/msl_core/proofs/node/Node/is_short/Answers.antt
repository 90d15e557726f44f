use Rattle.std.proofs.Common.{arith, ap, ◌∙◌, length, ◌≡◌, sym}
use Rattle.std.proofs.lemmas.Bool.Decides.{nat_tests}
use Rattle.msl_core.specs.Groups.{newest}
use Rattle.msl_core.proofs.Nodes.{newest_last}
use Rattle.msl_core.proofs.node.Node.is_short.Goals as goal

pub returns : goal.returns
returns c =
    let h = c.self.inside.held.ok.0 in let n = c.len.ensures in let held = ap (λ x. length x.held) c.self.view_is in
    let e : length (newest c.args.self.now.held) ≡ length c.as_slice.result.now =
    sym (ap length (c.as_slice.ensures.steps ∙ c.index.ensures ∙ sym (newest_last c.self.inside.held.items _ c.index.result.now (omega (arith, c.requires))) ∙ ap (λ x. newest x.held) c.self.view_is)) in
    (λ t. grind (arith, nat_tests), λ l. grind (arith, nat_tests))
