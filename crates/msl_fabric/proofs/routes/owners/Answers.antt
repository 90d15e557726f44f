use Rattle.std.proofs.Common.{◌≡◌, ◌<◌, ◌≤◌, ◌+◌, ℕ, List, [], ◌∷◌, ◌++◌, length, slice_index_or, sym, ap, ap₂, subst, ◌∙◌, arith, inl, inr, ◌⊎◌}
use Rattle.std.proofs.lemmas.Bool.{cases_lt}
use Rattle.std.proofs.lemmas.List.{length_push, get_or_append_left, get_or_push}
use Rattle.msl_base.specs.Blocks.{begin, block_of}
use Rattle.msl_base.proofs.Tiles.{block_is}
use Rattle.msl_fabric.proofs.routes.owners.Goals as goal

-- a list of what a function gives at each place, and one more of it
each-more : (f : ℕ → ℕ) (xs : List ℕ) (x : ℕ) → ((i : ℕ) → i < length xs → slice_index_or xs i 0 ≡ f i) → x ≡ f (length xs) → (i : ℕ) → i < length (xs ++ x ∷ []) → slice_index_or (xs ++ x ∷ []) i 0 ≡ f i
each-more f xs x each last i lt = go (cases_lt i (length xs))
  where
    go : (i < length xs) ⊎ (length xs ≤ i) → slice_index_or (xs ++ x ∷ []) i 0 ≡ f i
    go (inl h) = get_or_append_left xs (x ∷ []) 0 i h ∙ each i h
    go (inr h) = let e : length xs ≡ i = omega (arith, h, lt, length_push xs x) in get_or_push xs x 0 i e ∙ last ∙ ap f e

pub loop-i-preserved : goal.loop-i-preserved
loop-i-preserved c =
    let inv = c.loop-i.invariant in
    let items : c.push_reserved.new.self.items ≡ c.loop-i.all.items ++ c.loop-m.m ∷ [] = c.push_reserved.ensures.items in
    let next : c.loop-i._i < c.bounds-i-end.result = c.loop-i-test.true in
    let end : c.bounds-i-end.result ≡ begin c.args.n c.args.members (c.loop-m.m + 1) = c.bounds-i-end.ensures ∙ ap₂ (λ p j. begin c.args.n p (j + 1)) c.from-count.ensures c.from-in-loop-m.ensures in
    let mine = block_is c.args.n c.args.members c.loop-m.m c.loop-i._i c.loop-m-test.true (inv.mine.0, omega (arith, next, end)) in
    record {
      long = ap length items ∙ length_push c.loop-i.all.items c.loop-m.m ∙ ap (λ k. k + 1) inv.long;
      mine = (omega (arith, inv.mine), omega (arith, next, end));
      room = omega (arith, inv.room, c.push_reserved.ensures.capacity);
      each = subst (λ xs. (i : ℕ) → i < length xs → slice_index_or xs i 0 ≡ block_of c.args.n c.args.members i) (sym items)
          (each-more (block_of c.args.n c.args.members) c.loop-i.all.items c.loop-m.m inv.each (sym mine ∙ ap (block_of c.args.n c.args.members) (sym inv.long)));
    }
