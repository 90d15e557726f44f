use Rattle.std.proofs.Common.{ℕ, ℤ, ◌++◌, length, ap, ◌∙◌}
use Rattle.std.specs.Prelude.{decimal}
use Rattle.std.specs.Fmt.{signed_decimal}
use Rattle.msl_demo_laws.specs.Demo.{numbers, total}
use Rattle.msl_demo.proofs.Wording.{worded}
use Rattle.msl_demo.proofs.tally.Tally.line.Goals as goal

pub returns : goal.returns
returns c outs h =
    worded c.args.records (length outs) (length (numbers outs)) (total (numbers outs))
    c.new-line.result c.push_bytes.new.self c.push_decimal.new.self c.push_bytes-2.new.self c.push_decimal-2.new.self c.push_bytes-3.new.self c.push_decimal-3.new.self
    c.push_bytes-4.new.self c.push_number.new.self c.push.new.self
    c.new-line.ensures c.push_bytes.ensures.text
    (c.push_decimal.ensures.text ∙ ap (λ (n : ℕ). c.push_bytes.new.self ++ decimal n) c.from.ensures)
    c.push_bytes-2.ensures.text
    (c.push_decimal-2.ensures.text ∙ ap (λ (n : ℕ). c.push_bytes-2.new.self ++ decimal n) (c.from-2.ensures ∙ h.records))
    c.push_bytes-3.ensures.text
    (c.push_decimal-3.ensures.text ∙ ap (λ (n : ℕ). c.push_bytes-3.new.self ++ decimal n) (c.from-3.ensures ∙ h.count))
    c.push_bytes-4.ensures.text
    (c.push_number.ensures.text ∙ ap (λ (z : ℤ). c.push_bytes-4.new.self ++ signed_decimal z) h.sum)
    c.push.ensures.text
