-- How the work on a tree is divided: paths are split into their children, and the leaves are those that are left. Paths
-- are counted, and their order says nothing.
--     Counts splits leaves      the root and the children are split or leaves, each as often as it comes up
--     Balanced splits leaves    the same, and no path is split twice
--     Covers splits shut        balanced, where each leaf is shut: no work is left
use Rattle.std.specs.Prelude.{◌≡◌, ◌≤◌, ℕ, zero, suc, List, [], ◌∷◌, ◌++◌, flat_map, map}
use Rattle.std.specs.List.{count_by}
use Rattle.std.specs.Str.{bytes_eq}

-- a path that was split, and how many children it has
pub record Split : Type 0 where
  pub path : List ℕ
  pub count : ℕ

abbrev pub split : List ℕ → ℕ → Split
split q k = record { path = q; count = k }

-- how often a path is in a list
abbrev pub times : List ℕ → List (List ℕ) → ℕ
times p qs = count_by (λ q. bytes_eq p q) qs

-- the first k children of a path, child 0 last
abbrev pub children : List ℕ → ℕ → List (List ℕ)
children q zero = []
children q (suc k) = (q ++ k ∷ []) ∷ children q k

abbrev pub all_children : List Split → List (List ℕ)
all_children splits = flat_map (λ s. children s.path s.count) splits

abbrev pub split_paths : List Split → List (List ℕ)
split_paths splits = map (λ s. s.path) splits

abbrev pub Counts : List Split → List (List ℕ) → Type 0
Counts splits leaves = (p : List ℕ) → times p ([] ∷ all_children splits) ≡ times p (leaves ++ split_paths splits)

pub record Balanced (splits : List Split) (leaves : List (List ℕ)) : Type 0 where
  pub distinct : (p : List ℕ) → times p (split_paths splits) ≤ 1
  pub counts : Counts splits leaves

abbrev pub Covers : List Split → List (List ℕ) → Type 0
Covers splits shut = Balanced splits shut

-- the root, or a child of a split
abbrev pub ComesUp : List Split → List ℕ → Type 0
ComesUp splits p = 1 ≤ times p ([] ∷ all_children splits)
