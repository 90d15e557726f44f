use Rattle.std.proofs.Common.{◌≡◌, ℕ, max, List, slice_index_or, ap, ◌∙◌}
use Rattle.msl_fun.specs.declared.expr.Expr.{Expr}
use Rattle.msl_fun.specs.Checks.{rank_called, greatest}
use Rattle.msl_fun.proofs.Ranks.{one_part, two_parts, three_parts, arguments}
use Rattle.msl_fun.proofs.rank.+rank_called.Goals as goal

-- the rank of a part, which was found behind a pointer
part : (ranks : List ℕ) (e a : Expr) (n : ℕ) → n ≡ rank_called (λ k. slice_index_or ranks k 0) e → e ≡ a → n ≡ rank_called (λ k. slice_index_or ranks k 0) a
part ranks e a n is same = is ∙ ap (rank_called (λ k. slice_index_or ranks k 0)) same

pub rank_called-returns-in-Neg : goal.rank_called-returns-in-Neg
rank_called-returns-in-Neg t c =
    let ranks = c.args.ranks.now in
    part ranks _ c.in-Neg.a _ c.rank_called-in-Neg.ensures c.get-in-Neg.ensures
    ∙ one_part (λ k. slice_index_or ranks k 0) c.args.e.now c.in-Neg.a c.in-Neg.is

pub rank_called-returns-in-Bin : goal.rank_called-returns-in-Bin
rank_called-returns-in-Bin t c =
    let ranks = c.args.ranks.now in
    let a = part ranks _ c.in-Bin.a _ c.rank_called.ensures c.get-in-Bin.ensures in
    let b = part ranks _ c.in-Bin.b _ c.rank_called-in-Bin.ensures c.get-in-Bin-2.ensures in
    c.max-in-Bin.ensures ∙ (λ i. max (a i) (b i))
    ∙ two_parts (λ k. slice_index_or ranks k 0) c.args.e.now c.in-Bin.a c.in-Bin.b c.in-Bin.is

pub rank_called-returns-in-If : goal.rank_called-returns-in-If
rank_called-returns-in-If t c =
    let ranks = c.args.ranks.now in
    let a = part ranks _ c.in-If.a _ c.rank_called-first.ensures c.get.ensures in
    let b = part ranks _ c.in-If.b _ c.rank_called-second.ensures c.get-in-If.ensures in
    let d = part ranks _ c.in-If.c _ c.rank_called-third.ensures c.get-in-If-2.ensures in
    let most = c.max-in-If.ensures ∙ λ i. max (b i) (d i) in
    c.max-in-If-2.ensures ∙ (λ i. max (a i) (most i))
    ∙ three_parts (λ k. slice_index_or ranks k 0) c.args.e.now c.in-If.a c.in-If.b c.in-If.c c.in-If.is

pub rank_called-returns-in-Call : goal.rank_called-returns-in-Call
rank_called-returns-in-Call t c =
    let rank : ℕ → ℕ = λ k. slice_index_or c.args.ranks.now k 0 in
    let all = c.greatest_called.ensures ∙ ap (greatest (rank_called rank)) c.as_slice.ensures in
    c.max.ensures ∙ (λ i. max (c.rank_at.ensures i) (all i)) ∙ arguments rank c.args.e.now c.in-Call.f c.in-Call.args c.in-Call.is
