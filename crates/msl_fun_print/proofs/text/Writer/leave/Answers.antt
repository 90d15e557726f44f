use Rattle.std.proofs.Common.{map, ap, sym, ◌∙◌}
use Rattle.std.proofs.lemmas.List.{take-map}
use Rattle.std.specs.Borrow.{Bor}
use Rattle.msl_base.specs.Names.{Text}
use Rattle.msl_fun_print.proofs.text.Writer.leave.Goals as goal

pub returns : goal.returns
returns c =
    let w = c.args.self.now in
    let name : Bor Text → Text = λ x. x.now in
    let e = ap (map name) c.truncate.ensures.items ∙ sym (take-map name c.args.n w.scope.items) in
    λ i. record { text = w.text.items; scope = e i; names = w.names.now }
