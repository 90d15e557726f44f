use Rattle.std.proofs.Common.{List, ℕ, ◌∷◌, [], ◌++◌, codes, decimal, ap, ◌∙◌}
use Rattle.msl_run.proofs.Texts.{pieces}
use Rattle.msl_run.proofs.message.shape_message.Goals as goal

pub returns : goal.returns
returns c =
    c.push.ensures.text
    ∙ ap (λ (t : List ℕ). t ++ 10 ∷ []) (c.push_bytes-3.ensures.text
    ∙ ap (λ (t : List ℕ). t ++ codes " wanted") (c.push_decimal-2.ensures.text
    ∙ ap (λ (t : List ℕ). t ++ decimal c.args.want) (c.push_bytes-2.ensures.text
    ∙ ap (λ (t : List ℕ). t ++ codes " numbers, ") (c.push_decimal.ensures.text
    ∙ ap (λ (t : List ℕ). t ++ decimal c.args.got) (c.push_bytes.ensures.text
    ∙ ap (λ (t : List ℕ). t ++ codes "record of ") c.numbered-piece.ensures.text)))))
    ∙ pieces (codes "muesli: ") (codes "stage ") (decimal c.args.stage) (codes ": ") (codes "record of ") (decimal c.args.got) (codes " numbers, ") (decimal c.args.want) (codes " wanted") (10 ∷ [])
