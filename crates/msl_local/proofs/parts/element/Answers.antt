use Rattle.std.proofs.Common.{rules, ◌<◌, slice_index_or, sym, ap, ◌∙◌, arith, w64, FitsSigned, pos, length}
use Rattle.std.proofs.lemmas.Int.{to_z-of_z}
use Rattle.std.proofs.lemmas.List.{get_or_default}
use Rattle.msl_lists.specs.Whole.{at}
use Rattle.msl_local.proofs.Lists.{size, size_at, at_part}
use Rattle.msl_local.proofs.parts.element.Goals as goal

pub returns : goal.returns
returns c =
    let v = c.index-parts-m.result in
    let x = c.index.result.now in
    let fit : FitsSigned w64 x = search rules in
    let inside : c.args.k < size (slice_index_or c.args.parts.now c.args.m v) = omega (arith, c.requires.inside, size_at c.args.parts.now c.args.m v c.requires.part) in
    let inside' : c.args.k < length v.items = omega (arith, inside, ap size c.index-parts-m.is) in
    to_z-of_z w64 x fit ∙ c.index.ensures ∙ get_or_default v.items c.args.k x (pos 0) inside'
    ∙ ap (λ (w : _). at w.items c.args.k) c.index-parts-m.is ∙ sym (at_part c.args.parts.now c.args.m c.args.k v c.requires.part inside)
