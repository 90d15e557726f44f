use Rattle.std.proofs.Common.{codes, ap, ◌∙◌}
use Rattle.msl_fun_print.specs.Writing.{seen, with_text, with_opening, with_params}
use Rattle.msl_fun_print.proofs.Writings.{four, head_text}
use Rattle.msl_fun_print.proofs.text.Writer.head.Goals as goal

pub returns : goal.returns
returns c =
    let f = c.args.f.now in
    four (with_text (codes "fun ")) (with_opening f.name) (with_params f.params) (with_text (codes ")")) _ _ _ _ _ _ c.put-2.result c.in_ok-put.ensures
    (c.in_ok-open.ensures ∙ ap (λ n. with_opening n (seen c.put.new.self)) c.as_str.ensures) (c.in_ok-params.ensures ∙ ap (λ ns. with_params ns (seen c.open.new.self)) c.as_slice.ensures) c.put-2.ensures
    (head_text f (seen c.args.self.now))
