-- What covers a tree does so in any other order.
use Rattle.std.proofs.Common.{◌≡◌, ◌+◌, ℕ, List, [], ◌∷◌, reverse, refl, sym, ap, ◌∙◌, arith}
use Rattle.std.specs.List.{sum_by}
use Rattle.std.proofs.lemmas.List.Sorted.{sum_by-IsPermutation, IsPermutation-reverse}
use Rattle.std.proofs.lemmas.List.Sums.{sum_by-cons}
use Rattle.msl_base.specs.Covers.{Split, times, children, all_children, split_paths, Covers}
use Rattle.msl_cover.proofs.Covers.{here, times-append, times-reordered, times-split_paths, times-all_children, times-comes_up, counted}

module _ (p : List ℕ) where
  abbrev is_split : Split → ℕ
  is_split s = here p s.path

  abbrev is_child : Split → ℕ
  is_child s = times p (children s.path s.count)

  split-sum : (splits : List Split) → times p (split_paths splits) ≡ sum_by is_split splits
  split-sum [] = refl
  split-sum (s ∷ splits) = times-split_paths p s splits ∙ ap (λ (n : ℕ). is_split s + n) (split-sum splits) ∙ sym (sum_by-cons is_split s splits)

  child-sum : (splits : List Split) → times p (all_children splits) ≡ sum_by is_child splits
  child-sum [] = refl
  child-sum (s ∷ splits) = times-all_children p s splits ∙ ap (λ (n : ℕ). is_child s + n) (child-sum splits) ∙ sym (sum_by-cons is_child s splits)

  split-reversed : (splits : List Split) → times p (split_paths (reverse splits)) ≡ times p (split_paths splits)
  split-reversed splits =
      split-sum (reverse splits) ∙ sum_by-IsPermutation is_split splits (reverse splits) (IsPermutation-reverse splits) ∙ sym (split-sum splits)

  child-reversed : (splits : List Split) → times p (all_children (reverse splits)) ≡ times p (all_children splits)
  child-reversed splits =
      child-sum (reverse splits) ∙ sum_by-IsPermutation is_child splits (reverse splits) (IsPermutation-reverse splits) ∙ sym (child-sum splits)

pub covers-reversed : (splits : List Split) (shut : List (List ℕ)) → Covers splits shut → Covers (reverse splits) (reverse shut)
covers-reversed splits shut covers = record {
  distinct = λ p. omega (arith, covers.distinct p, split-reversed p splits);
  counts = λ p.
      omega (
        arith,
        counted splits shut covers.counts p,
        times-comes_up splits p,
        times-comes_up (reverse splits) p,
        child-reversed p splits,
        split-reversed p splits,
        times-reordered p shut (reverse shut) (IsPermutation-reverse shut),
        times-append p (reverse shut) (split_paths (reverse splits)),
      );
}
