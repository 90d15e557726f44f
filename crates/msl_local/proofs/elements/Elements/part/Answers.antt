use Rattle.std.proofs.Common.{rules, ◌≡◌, ◌+◌, slice_index_or, subst, sym, ap, ◌∙◌}
use Rattle.msl_local.specs.Cells.{cells}
use Rattle.msl_local.specs.Outcomes.{part, Comes, ComesTo}
use Rattle.msl_local.specs.Parts.{lengths}
use Rattle.msl_local.specs.Places.{parts_of}
use Rattle.msl_local.proofs.Lists.{size, size_at}
use Rattle.msl_local.proofs.Outcomes.{led_each}
use Rattle.msl_local.proofs.elements.Elements.part.Goals as goal

pub returns : goal.returns
returns c =
    let f = cells c.args.self.now in
    let n = c.len-n.result in
    let h = led_each f c.args.first n (λ k q. ComesTo (f (c.args.first + k)) q) c.in_turn.result c.in_turn.ensures.led (λ k q lt p. p) in
    let v = c.index-parts-m.result in
    let a = parts_of c.args.self.now.inputs in
    let own : n ≡ size v = search rules in
    let is : v ≡ slice_index_or a c.args.m v = c.index-parts-m.is ∙ ap (λ xs. slice_index_or xs c.args.m v) c.parts.ensures in
    let long : n ≡ slice_index_or (lengths a) c.args.m 0 = own ∙ ap size is ∙ sym (size_at a c.args.m v c.requires.within) in
    subst (λ k. Comes (part f c.args.first k) c.in_turn.result) long h
