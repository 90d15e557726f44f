use Rattle.std.proofs.Common.{arith, ◌++◌, [], ◌∷◌, subst, ap, sym, ◌∙◌}
use Rattle.msl_fun.specs.Checks.{AreFuns, MayFollow, ranks_from}
use Rattle.msl_fun.proofs.Functions.{funs_added}
use Rattle.msl_fun.proofs.Ranks.{next_is, ranks_added}
use Rattle.msl_fun.proofs.funs.Funs.add.Goals as goal

pub overflow_add-rank : goal.overflow_add-rank
overflow_add-rank c =
    let known = c.as_slice.ensures.value ∙ c.self.invariant.ranks ∙ ap (ranks_from []) c.self.view_is in
    omega (arith, c.requires.rank, next_is c.args.f _ _ _ _ c.greatest_called-rank.ensures known c.as_slice-2.ensures)

pub invariant_of-self-2 : goal.invariant_of-self-2
invariant_of-self-2 c =
    let funs = c.self.inside.items in
    let f = c.args.f in
    let before = c.reserve.ensures.items ∙ c.self.invariant.ranks in
    let next = next_is f _ _ _ _ c.greatest_called-rank.ensures (c.as_slice.ensures.value ∙ c.self.invariant.ranks) c.as_slice-2.ensures in
    let pushed = rw c.unwrap.ensures at c.push-2.ensures.items in
    record {
      rules = subst AreFuns (sym c.in_ok-push.ensures.ok) (funs_added funs f c.self.invariant.rules (subst (λ fs. MayFollow fs f) (sym c.self.view_is) c.requires));
      ranks = pushed ∙ (λ i. before i ++ next i ∷ []) ∙ sym (ap (ranks_from []) c.in_ok-push.ensures.ok ∙ ranks_added [] funs f);
    }
