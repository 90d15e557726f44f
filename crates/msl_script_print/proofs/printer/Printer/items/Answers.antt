use Rattle.std.proofs.Common.{suc, drop, drop_of_length-le, ap, ◌∙◌, List}
use Rattle.std.proofs.Math.Seq.{drop-cons}
use Rattle.msl_program.specs.declared.script.ItemKind.TheVariants as kind
use Rattle.msl_program.specs.declared.script.ItemKind.{ItemKind}
use Rattle.msl_script_print.specs.Words.{behind}
use Rattle.msl_script_print.proofs.Words.{items_done}
use Rattle.msl_script_print.proofs.printer.Printer.items.Goals as goal

pub returns : goal.returns
returns c =
    let kinds = c.as_slice-kind-items.result.now in
    let others = c.loop-kind.others in
    let none = drop_of_length-le kinds c.loop-kind-test.false in
    items_done c.args.s.now c.args.self.now c.loop-kind.self c.as_slice-funs.result.now kinds c.of-others.result (behind (drop c.loop-kind.kind-index kinds) others) (c.as_slice-funs.ensures.list ∙ c.funs.ensures) (c.as_slice-kind-items.ensures ∙ c.order.ensures) (c.of-others.ensures kinds) (ap (λ (ks : List ItemKind). behind ks others) none) c.loop-kind.invariant

pub returns-in_default : goal.returns-in_default
returns-in_default c =
    let kinds = c.as_slice-kind-items.result.now in
    let others = c.loop-kind.others in
    let at = c.loop-kind.kind-index in
    let none = ap (λ (ks : List ItemKind). behind ks others) (drop-cons kinds at kind.Fun c.loop-kind-test.true) ∙ c.in_default.ensures (drop (suc at) kinds) in
    items_done c.args.s.now c.args.self.now c.loop-kind.self c.as_slice-funs.result.now kinds c.of-others.result (behind (drop at kinds) others) (c.as_slice-funs.ensures.list ∙ c.funs.ensures) (c.as_slice-kind-items.ensures ∙ c.order.ensures) (c.of-others.ensures kinds) none c.loop-kind.invariant
