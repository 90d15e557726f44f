use Rattle.std.proofs.Common.{ℕ, List, ◌-◌, ◌++◌, get_or, take, drop, length, decimal, ap, sym, ◌∙◌, append_assoc}
use Rattle.msl_run.specs.Messages.{dotted}
use Rattle.msl_run.proofs.Texts.{path_text-split}
use Rattle.msl_run.proofs.message.push_path.Goals as goal

pub returns-in-len1-up-clause-text : goal.returns-in-len1-up-clause-text
returns-in-len1-up-clause-text c =
    let steps = c.args.steps.now in
    let rest = dotted (take (length steps - 1) (drop 1 steps)) in
    c.push_dotted.ensures.text
    ∙ ap (λ (t : List ℕ). t ++ rest) (c.push_decimal.ensures.text ∙ ap (λ (n : ℕ). c.args.piece.now ++ decimal n) c.from.ensures)
    ∙ append_assoc c.args.piece.now (decimal (get_or steps 0 0)) rest
    ∙ ap (λ (t : List ℕ). c.args.piece.now ++ t) (sym (path_text-split steps c.in-len1-up.len_at_least))
