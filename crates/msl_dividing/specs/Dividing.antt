-- What members find out of a problem that is divided among them.
use Rattle.std.specs.Prelude.{◌≡◌, ◌<◌, ◌≤◌, ℕ, List, [], ◌∷◌, ◌++◌, length, All, reverse, slice_index_or, Option, Some, None, Result, Ok, Err, false, ⊤}
use Rattle.msl_base.specs.Covers.{Split, children}
use Rattle.msl_base.specs.Streams.{Record, Outcome}
use Rattle.msl_base.specs.declared.answer.Halt.{Halt}
use Rattle.msl_base.specs.declared.answer.Halt.TheVariants as halt
use Rattle.msl_base.specs.declared.limits.TheConstants.{MOST_LEVELS}
use Rattle.msl_division.specs.Steps.{whether_simple, AreWide}
use Rattle.msl_division.specs.declared.division.Division.{Division}
use Rattle.msl_fun.specs.declared.funs.Fun.{Fun}
use Rattle.msl_fun.specs.Meaning.{params_of, results_of}
use Rattle.msl_pool.specs.Working.{paths_of}
use Rattle.msl_pool.specs.declared.search.Held.{Held}
use Rattle.msl_program.specs.Along.{along}
use Rattle.msl_program.specs.Calls.{run}
use Rattle.msl_program.specs.Divide.{dc, parts_of}
use Rattle.msl_program.specs.Promises.{DivConFits}
use Rattle.msl_program.specs.declared.script.DivCon.{DivCon}
use Rattle.msl_tree.specs.Combined.{IsParted, IsValued, AreWide as ValuesAreWide}
use Rattle.msl_tree.specs.Lists.{Leaf, leaf_paths}

-- ---- one problem

module _ (funs : List Fun) (d : DivCon) (stage : ℕ) (q : List ℕ) (x : Record) where
  -- it isn't simple, lies above the cutoff and the deepest level, and has these parts
  pub record IsDivided (parts : List Record) : Type 0 where
    pub above : length q < d.cutoff
    pub plain : whether_simple funs d stage x ≡ Ok false
    pub deep : length q < MOST_LEVELS
    pub divides : parts_of funs d stage x ≡ Ok parts
    pub wide : AreWide (params_of funs d.simple) parts

  -- its value by plain recursion
  abbrev pub value_of : Outcome
  value_of = dc funs d stage (run funs stage d.solve) q x

  -- its value or its fault, or its parts; `NoMemory` may always come
  abbrev pub Finds : List Record → Result (Option Record) Halt → Type 0
  Finds parts (Ok (Some y)) = (value_of ≡ Ok y) × (length y ≡ results_of funs d.solve)
  Finds parts (Ok None) = IsDivided parts
  Finds parts (Err (halt.Fault f)) = value_of ≡ Err f
  Finds parts (Err halt.NoMemory) = ⊤

-- it is one of the parts of the problem at a path
abbrev pub IsPart : List ℕ → List Record → Held Record → Type 0
IsPart path parts h = (j : ℕ) × (j < length parts) × (h.path ≡ path ++ j ∷ []) × (h.node ≡ slice_index_or parts j [])

-- of these parts all are held, but for the first ones
pub record HoldsParts (path : List ℕ) (parts : List Record) (left : ℕ) (before after : List (Held Record)) : Type 0 where
  pub more : List (Held Record)
  pub held : after ≡ before ++ more
  pub paths : paths_of more ++ children path left ≡ children path (length parts)
  pub nodes : All (IsPart path parts) more

-- ---- the whole tree

module _ (funs : List Fun) (d : DivCon) (stage : ℕ) (root : Record) where
  -- the numbers are those of the problem at a path, in the division of the root
  pub record IsProblemOf (division : Division) (all : List Fun) (first : Record) (q : List ℕ) (x : Record) : Type 0 where
    pub calls_are : division.calls ≡ funs
    pub spec_is : division.spec.now ≡ d
    pub stage_is : division.stage ≡ stage
    pub all_are : all ≡ funs
    pub first_is : first ≡ root
    pub fits : DivConFits funs d
    pub root_wide : length root ≡ params_of funs d.simple
    pub met : along funs stage d.divide root q ≡ Ok x
    pub wide : length x ≡ params_of funs d.simple
    pub deep : length q ≤ MOST_LEVELS

  -- What was split and solved is what the pool counts, which has the newest first. Each split is of a problem that divides
  -- into all its parts, and what was solved has its value.
  pub record HasDivided (splits : List Split) (solved : List Leaf) (counted : List Split) (shut : List (List ℕ)) : Type 0 where
    pub splits_are : splits ≡ reverse counted
    pub solved_are : leaf_paths solved ≡ reverse shut
    pub parted : All (IsParted funs d stage root) splits
    pub valued : All (IsValued funs d stage (run funs stage d.solve) root) solved
    pub wide : ValuesAreWide funs d stage solved
