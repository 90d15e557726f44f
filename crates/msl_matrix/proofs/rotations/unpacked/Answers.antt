use Rattle.std.proofs.Common.{rules, Ok, ℤ, ap, ◌∙◌}
use Rattle.std.proofs.lemmas.Iterator.{YieldsList-from_map_by}
use Rattle.std.proofs.lemmas.Iterator.Adapters.{YieldsList-from_vec}
use Rattle.std.proofs.lemmas.Iterator.Consumers.{map_from_collect}
use Rattle.std.specs.Global.{Vec}
use Rattle.std.specs.Vec.Iter.{into_iter_items, into_iter_len}
use Rattle.std.specs.declared.alloc.AllocError.{AllocError}
use Rattle.msl_base.specs.Records.{Kept}
use Rattle.msl_matrix.proofs.rotations.unpacked.Goals as goal

pub returns : goal.returns
returns c =
    let source = c.map.ensures.source in
    map_from_collect {E = AllocError} (Ok c.in_ok-collect.field-0) c.in_ok-collect.ensures.ran
    (YieldsList-from_map_by _ (λ (v : Vec ℤ). v.items) (λ (r : Kept). r.numbers)
    (YieldsList-from_vec c.args.all.items (ap into_iter_items source ∙ c.into_iter.ensures.rest) (ap into_iter_len source ∙ c.into_iter.ensures.len ∙ c.args.all.ok.0))
    c.map.ensures.closure (λ x r q k. search rules))
