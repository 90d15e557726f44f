use Rattle.std.proofs.Common.{List, ℕ, ◌++◌, ap, sym, ◌∙◌}
use Rattle.msl_demo_laws.specs.Laws.{demo_input}
use Rattle.msl_demo.proofs.Inputs.{input_more}
use Rattle.msl_demo.proofs.input.demo_input.Goals as goal

pub loop-k-preserved : goal.loop-k-preserved
loop-k-preserved c =
    let record_is = c.as_slice.ensures ∙ c.record_text-record.ensures in
    c.in_ok-extend_from_slice.ensures.items ∙ ap (λ (t : List ℕ). t ++ c.as_slice.result.now) c.loop-k.invariant
    ∙ ap (λ (t : List ℕ). demo_input c.loop-k.k ++ t) record_is ∙ sym (input_more c.loop-k.k)
