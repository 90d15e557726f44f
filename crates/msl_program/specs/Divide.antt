-- Divide and conquer: the value of a problem, by recursion down its tree.
use Rattle.std.specs.Prelude.{ℕ, zero, suc, ◌-◌, true, false, pos, List, [], ◌∷◌, ◌++◌, length, flat_map, slice_index_or, Result, Err}
use Rattle.msl_base.specs.Streams.{Record, Outcome}
use Rattle.msl_base.specs.declared.fault.Fault.{Fault}
use Rattle.msl_base.specs.declared.fault.Fault.TheVariants.{Depth}
use Rattle.msl_fun.specs.declared.funs.Fun.{Fun}
use Rattle.msl_fun.specs.Meaning.{holds, params_of}
use Rattle.msl_lists.specs.Whole.{◌>>=◌, each}
use Rattle.msl_program.specs.Calls.{run, number_by, if_wide}
use Rattle.msl_program.specs.Along.{Path, most_levels}
use Rattle.msl_program.specs.declared.script.DivCon.{DivCon}

module _ (funs : List Fun) (d : DivCon) (stage : ℕ) where
  -- the problem's parts, all of them, before any is worked on
  abbrev pub parts_of : Record → Result (List Record) Fault
  parts_of x = each d.parts (λ j. run funs stage d.divide (x ++ pos j ∷ []))

  -- the values of all parts, in order, and then combined
  abbrev pub combined_by : (ℕ → Outcome) → Outcome
  combined_by value = each d.parts value >>= λ values. run funs stage d.combine (flat_map (λ r. r) values)

  -- by what a simple problem comes to
  module _ (leaf : Record → Outcome) where
    -- another problem has the value that is given
    abbrev pub simple_or : Record → Outcome → Outcome
    simple_or x r = number_by funs stage d.simple x >>= λ s. elim (holds s) [ true ↦ leaf x | false ↦ r ]

    -- the value of the problem x at path q, where so many levels are left
    abbrev pub value_in : ℕ → Path → Record → Outcome
    value_in zero q x = simple_or x (Err (Depth stage q))
    value_in (suc n) q x = simple_or x (parts_of x >>= λ parts. combined_by (λ j. value_in n (q ++ j ∷ []) (slice_index_or parts j [])))

    -- the value of the problem x at path q, which has at most 64 steps
    abbrev pub dc : Path → Record → Outcome
    dc q x = value_in (most_levels - length q) q x

  -- a simple problem is solved
  abbrev pub divcon_outcome : Record → Outcome
  divcon_outcome x = if_wide stage (params_of funs d.simple) x (dc (run funs stage d.solve) [] x)
