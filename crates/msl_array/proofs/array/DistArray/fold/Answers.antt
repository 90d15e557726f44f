use Rattle.std.proofs.Common.{◌≡◌, ap, subst, ◌∙◌}
use Rattle.msl_lists.specs.Whole.{fold_all}
use Rattle.msl_local.specs.Outcomes.{ComesTo}
use Rattle.msl_local.specs.Parts.{flat}
use Rattle.msl_array.proofs.array.DistArray.fold.Goals as goal

pub returns-clause-number : goal.returns-clause-number
returns-clause-number g c =
    let w = c.new-work.result in
    let is : fold_all w.op w.stage (flat w.parts.now) ≡ fold_all c.args.op c.args.at.now.stage c.args.self.now.elements =
    ap (λ op. fold_all op w.stage (flat w.parts.now)) c.new-work.ensures.op
    ∙ ap (λ stage. fold_all c.args.op stage (flat w.parts.now)) c.new-work.ensures.stage
    ∙ ap (λ parts. fold_all c.args.op c.args.at.now.stage (flat parts.now)) c.new-work.ensures.parts
    ∙ ap (fold_all c.args.op c.args.at.now.stage) c.parts.ensures.list in
    subst (λ want. ComesTo want c.fold.result) is c.fold.ensures
