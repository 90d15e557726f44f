-- The value that splits and solved paths combine to.
use Rattle.std.specs.Prelude.{◌≡◌, ◌<◌, ℕ, zero, suc, ◌-◌, Bool, false, List, [], ◌∷◌, ◌++◌, length, All, IfOk, Ok, if◌then◌else◌, nat_le}
use Rattle.std.specs.Str.{bytes_eq}
use Rattle.msl_base.specs.Covers.{Split, split_paths, times, Covers}
use Rattle.msl_base.specs.Streams.{Record, Outcome}
use Rattle.msl_fun.specs.declared.funs.Fun.{Fun}
use Rattle.msl_fun.specs.Meaning.{holds, results_of}
use Rattle.msl_lists.specs.Whole.{◌>>=◌}
use Rattle.msl_program.specs.Along.{along, most_levels}
use Rattle.msl_program.specs.Calls.{number_by}
use Rattle.msl_program.specs.Divide.{combined_by, dc, parts_of}
use Rattle.msl_program.specs.declared.script.DivCon.{DivCon}
use Rattle.msl_tree.specs.Lists.{Leaf, leaf_paths}

-- what the first entry of a path says; a cover has one for each path that isn't split
abbrev pub entry : List Leaf → List ℕ → Outcome
entry [] q = Ok []
entry (l ∷ ls) q = if bytes_eq q l.path then l.value else entry ls q

abbrev pub is_split : List Split → List ℕ → Bool
is_split splits q = nat_le 1 (times q (split_paths splits))

module _ (funs : List Fun) (d : DivCon) (stage : ℕ) where
  module _ (splits : List Split) (solved : List Leaf) where
    -- the value at path q, below which are at most so many levels
    abbrev pub combined_in : ℕ → List ℕ → Outcome
    combined_in zero q = entry solved q
    combined_in (suc n) q = if is_split splits q then combined_by funs d stage (λ j. combined_in n (q ++ j ∷ [])) else entry solved q

    -- the value at path q, which has at most 64 steps: that of its parts combined where it was split, else its own
    abbrev pub combined : List ℕ → Outcome
    combined q = combined_in (most_levels - length q) q

  -- the problem at the path isn't simple, is less than 64 deep and divides into all its parts
  pub record IsParted (root : Record) (s : Split) : Type 0 where
    pub problem : Record
    pub parts : List Record
    pub met : along funs stage d.divide root s.path ≡ Ok problem
    pub plain : (number_by funs stage d.simple problem >>= λ z. Ok (holds z)) ≡ Ok false
    pub deep : length s.path < most_levels
    pub divides : parts_of funs d stage problem ≡ Ok parts
    pub count : s.count ≡ d.parts

  module _ (leaf : Record → Outcome) where
    -- the entry is the value of the problem at its path
    pub record IsValued (root : Record) (l : Leaf) : Type 0 where
      pub problem : Record
      pub met : along funs stage d.divide root l.path ≡ Ok problem
      pub value : l.value ≡ dc funs d stage leaf l.path problem

    -- the law of combined values, whatever a simple problem comes to
    abbrev pub GivesValue : List Split → List Leaf → Record → Type 0
    GivesValue splits solved root =
        Covers splits (leaf_paths solved) → All (IsParted root) splits → All (IsValued root) solved → combined splits solved [] ≡ dc funs d stage leaf [] root

  -- each split has as many children as there are parts
  abbrev pub AreParted : List Split → Type 0
  AreParted splits = All (λ s. s.count ≡ d.parts) splits

  -- each value has as many numbers as `solve` gives
  abbrev pub AreWide : List Leaf → Type 0
  AreWide solved = All (λ l. IfOk l.value (λ y. length y ≡ results_of funs d.solve)) solved
