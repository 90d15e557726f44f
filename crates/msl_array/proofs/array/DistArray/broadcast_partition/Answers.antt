use Rattle.std.proofs.Common.{◌≡◌, ◌<◌, ◌/◌, ◌%◌, pos, length, replicate, Ok, sym, subst, ap, ◌∙◌, arith}
use Rattle.msl_lists.specs.Whole.{broadcast_partition}
use Rattle.msl_local.specs.Parts.{flat}
use Rattle.msl_array.specs.Arrays.{Blocked}
use Rattle.msl_array.specs.Moves.{AreBlocks, IsGathered}
use Rattle.msl_array.proofs.Answered.{repeats_are, repeated_block}
use Rattle.msl_array.proofs.array.DistArray.broadcast_partition.Goals as goal

pub gathered-requires-clause-numbers : goal.gathered-requires-clause-numbers
gathered-requires-clause-numbers g c =
    let b = c.blocks-blocks.result in
    let n = c.len-n.result in
    let lt : c.args.j < b = omega (arith, c.requires, c.blocks-blocks.ensures.blocks) in
    let whole : n % b ≡ 0 = omega (arith, c.if-n-blocks-ne0.false) in
    let many : n ≡ length (flat c.parts.result.now) = c.len-n.ensures ∙ sym (ap length c.parts.ensures.list) in
    subst (AreBlocks (n / b) (length (flat c.parts.result.now))) (sym (c.as_slice.ensures.value ∙ c.in_ok-numbers.ensures))
    (subst (λ k. AreBlocks (n / b) k (replicate b (pos c.args.j))) many (repeats_are c.args.j b lt n whole))

pub returns-clause-array : goal.returns-clause-array
returns-clause-array g c =
    let b = c.blocks-blocks.result in
    let j = c.args.j in
    let a = c.args.self.now.elements in
    let stage = c.args.at.now.stage in
    let all = flat c.in_ok-parts.parts.items in
    let lt : j < b = omega (arith, c.requires, c.blocks-blocks.ensures.blocks) in
    let whole : length a % b ≡ 0 = ap (λ k. k % b) (sym c.len-n.ensures) ∙ (omega (arith, c.if-n-blocks-ne0.false)) in
    let put : IsGathered (length a / b) (replicate b (pos j)) a all =
    subst (λ xs. IsGathered (length a / b) (replicate b (pos j)) xs all) c.parts.ensures.list
    (subst (λ ns. IsGathered (length a / b) ns (flat c.parts.result.now) all) (c.as_slice.ensures.value ∙ c.in_ok-numbers.ensures)
    (subst (λ k. IsGathered (k / b) c.as_slice.result.now (flat c.parts.result.now) all) c.len-n.ensures c.in_ok-parts.ensures.gathered)) in
    let repeated : broadcast_partition j stage b a ≡ Ok all = repeated_block j b lt stage a all whole put in (
      ap (λ k. broadcast_partition j stage k a) (sym c.blocks-blocks.ensures.blocks) ∙ repeated ∙ ap Ok (sym (ap (λ (d : Blocked). d.elements) c.of_parts.ensures)),
      ap (λ (d : Blocked). d.blocks) c.of_parts.ensures ∙ c.blocks-blocks.ensures.blocks,
    )
