use Rattle.std.proofs.Common.{◌++◌, List, ℤ, ap₂, ◌∙◌}
use Rattle.msl_tree.proofs.Joined.{two_parts}
use Rattle.msl_tree.proofs.combine.joined.Goals as goal

pub returns : goal.returns
returns c =
    rw c.of.ensures (two_parts c.as_slice-a.result.now c.as_slice-b.result.now _ c.copy_from_slice.new.self c.copy_from_slice-2.new.self c.copy_from_slice.ensures.after c.copy_from_slice-2.ensures.after
    ∙ ap₂ (λ (a b : List ℤ). a ++ b) c.as_slice-a.ensures.numbers c.as_slice-b.ensures.numbers)
