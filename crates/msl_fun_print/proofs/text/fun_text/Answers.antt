use Rattle.std.proofs.Common.{map, ap, ◌∙◌}
use Rattle.msl_fun_print.specs.Writing.{seen, with_results}
use Rattle.msl_fun_print.proofs.Writings.{fun_steps}
use Rattle.msl_fun_print.proofs.text.fun_text.Goals as goal

pub returns : goal.returns
returns c =
    fun_steps c.args.known.now c.args.f.now (record { text = c.new.result.items; scope = map (λ n. n.now) c.new-2.result.items; names = c.as_slice.result.now }) (seen c.head.new.self) (seen c.results.new.self) (seen c.put.new.self)
    (λ i. record { text = c.new.ensures.items i; scope = map (λ n. n.now) (c.new-2.ensures.items i); names = c.as_slice.ensures i })
    c.in_ok-head.ensures (c.in_ok-results.ensures ∙ ap (λ es. with_results c.args.known.now es (seen c.head.new.self)) c.as_slice-2.ensures) c.in_ok-put.ensures
