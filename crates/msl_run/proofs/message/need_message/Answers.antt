use Rattle.std.proofs.Common.{List, ℕ, ◌∷◌, [], ◌++◌, codes, decimal, ap, ◌∙◌}
use Rattle.msl_run.proofs.Texts.{need_pieces}
use Rattle.msl_run.proofs.message.need_message.Goals as goal

pub returns : goal.returns
returns c =
    c.push.ensures.text
    ∙ ap (λ (t : List ℕ). t ++ 10 ∷ []) (c.push_decimal-2.ensures.text
    ∙ ap (λ (t : List ℕ). t ++ decimal c.from.result) (c.push_bytes-2.ensures.text
    ∙ ap (λ (t : List ℕ). t ++ codes " processes, have ") (c.push_decimal.ensures.text
    ∙ ap (λ (t : List ℕ). t ++ decimal c.args.need) (c.push_bytes.ensures.text
    ∙ ap (λ (t : List ℕ). t ++ codes "muesli: need ") c.new-piece.ensures))))
    ∙ ap (λ (n : ℕ). ((((codes "muesli: need ") ++ decimal c.args.need) ++ codes " processes, have ") ++ decimal n) ++ 10 ∷ []) c.from.ensures
    ∙ need_pieces (codes "muesli: ") (codes "need ") (decimal c.args.need) (codes " processes, have ") (decimal c.args.have) (10 ∷ [])
