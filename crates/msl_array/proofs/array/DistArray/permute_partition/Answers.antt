use Rattle.std.proofs.Common.{◌≡◌, ◌/◌, ◌%◌, length, Ok, sym, subst, ap, ◌∙◌, arith}
use Rattle.msl_lists.specs.Whole.{function_of, permute_partition}
use Rattle.msl_local.specs.Parts.{flat}
use Rattle.msl_array.specs.Arrays.{Blocked}
use Rattle.msl_array.specs.Moves.{AreBlocks, IsGathered}
use Rattle.msl_array.proofs.Answered.{sources_are, moved_blocks}
use Rattle.msl_array.proofs.array.DistArray.permute_partition.Goals as goal

pub gathered-requires-clause-numbers : goal.gathered-requires-clause-numbers
gathered-requires-clause-numbers g c =
    let b = c.blocks-blocks.result in
    let n = c.len-2.result in
    let s = c.in_ok-numbers.ensures.sources in
    let whole : n % b ≡ 0 = ap (λ k. k % b) (c.len-2.ensures ∙ sym c.len.ensures) ∙ (omega (arith, c.if-len-blocks-ne0.false)) in
    let many : n ≡ length (flat c.parts.result.now) = c.len-2.ensures ∙ sym (ap length c.parts.ensures.list) in
    let are : AreBlocks (n / b) n c.in_ok-numbers.numbers.items = sources_are (function_of c.args.u) b c.in_ok-numbers.numbers.items s.0 s.1 s.2 n whole in
    subst (AreBlocks (n / b) (length (flat c.parts.result.now))) (sym c.as_slice.ensures.value) (subst (λ k. AreBlocks (n / b) k c.in_ok-numbers.numbers.items) many are)

pub returns-clause-array : goal.returns-clause-array
returns-clause-array g c =
    let b = c.blocks-blocks.result in
    let n = c.len-2.result in
    let a = c.args.self.now.elements in
    let s = c.in_ok-numbers.ensures.sources in
    let f = function_of c.args.u in
    let stage = c.args.at.now.stage in
    let numbers = c.in_ok-numbers.numbers.items in
    let all = flat c.in_ok-parts.parts.items in
    let whole : length a % b ≡ 0 = ap (λ k. k % b) (sym c.len.ensures) ∙ (omega (arith, c.if-len-blocks-ne0.false)) in
    let put : IsGathered (n / b) c.as_slice.result.now (flat c.parts.result.now) all = c.in_ok-parts.ensures.gathered in
    let put' : IsGathered (length a / b) numbers a all =
    subst (λ xs. IsGathered (length a / b) numbers xs all) c.parts.ensures.list
    (subst (λ ns. IsGathered (length a / b) ns (flat c.parts.result.now) all) c.as_slice.ensures.value (subst (λ k. IsGathered (k / b) c.as_slice.result.now (flat c.parts.result.now) all) c.len-2.ensures put)) in
    let moved : permute_partition f stage b a ≡ Ok all = moved_blocks f b numbers s.0 s.1 s.2 stage a all whole put' in (
      ap (λ k. permute_partition f stage k a) (sym c.blocks-blocks.ensures.blocks) ∙ moved ∙ ap Ok (sym (ap (λ (d : Blocked). d.elements) c.of_parts.ensures)),
      ap (λ (d : Blocked). d.blocks) c.of_parts.ensures ∙ c.blocks-blocks.ensures.blocks,
    )
