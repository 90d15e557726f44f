use Rattle.std.proofs.Common.{codes, ap, ◌∙◌}
use Rattle.msl_fun_print.specs.Writing.{seen, with_text}
use Rattle.msl_fun_print.proofs.Writings.{two, opening_text}
use Rattle.msl_fun_print.proofs.text.Writer.open.Goals as goal

pub returns : goal.returns
returns c =
    let name = c.args.name.now in
    two (with_text name) (with_text (codes "(")) _ _ _ _ c.put-2.result (c.in_ok-put.ensures ∙ ap (λ n. with_text n (seen c.args.self.now)) c.as_bytes.ensures.value) c.put-2.ensures (opening_text name (seen c.args.self.now))
