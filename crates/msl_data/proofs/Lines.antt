-- The lines of a data program one by one.
use Rattle.std.proofs.Common.{◌≡◌, ◌<◌, ℕ, suc, ◌+◌, List, [], ◌∷◌, ◌++◌, length, take, drop, get_or, Result, Ok, Err, refl, sym, ap, ◌∙◌, subst, drop-cons}
use Rattle.std.proofs.lemmas.List.{take-append-drop, take_more}
use Rattle.msl_base.specs.declared.fault.Fault.{Fault}
use Rattle.msl_base.specs.declared.answer.Halt.{Halt}
use Rattle.msl_base.specs.declared.answer.Halt.TheVariants as halt
use Rattle.msl_base.specs.Streams.{Record}
use Rattle.msl_fun.specs.declared.funs.Fun.{Fun}
use Rattle.msl_lists.specs.Whole.{◌>>=◌}
use Rattle.msl_local.specs.Outcomes.{Stops}
use Rattle.msl_program.specs.declared.data.DataLine.{DataLine}
use Rattle.msl_program.specs.Programs.{no_lines}
use Rattle.msl_program.specs.ProgramPromise.{program_of, EachLineFits}
use Rattle.msl_program.specs.Data.{Value, Table, step_on, extended}
use Rattle.msl_program.specs.Shaped.{AreShaped}
use Rattle.msl_program.proofs.LineLaws.{lines_fit, tables_grow}
use Rattle.msl_program.proofs.ShapeLaws.{programs_keep_shapes}
use Rattle.msl_data.specs.Steps.{StepFits}

none_shaped : AreShaped no_lines []
none_shaped = record { paired = refl; each = tt }

-- a list at a place
parted : (ls : List DataLine) (i : ℕ) (l : DataLine) → i < length ls → l ≡ get_or ls i l → ls ≡ take i ls ++ l ∷ drop (suc i) ls
parted ls i l lt here =
    sym (take-append-drop i ls) ∙ ap (λ (m : List DataLine). take i ls ++ m) (drop-cons ls i l lt) ∙ ap (λ (k : DataLine). take i ls ++ k ∷ drop (suc i) ls) (sym here)

-- the lines before line i have these values, and it is this one
module _ (funs : List Fun) (stage : ℕ) (x : Record) (ls : List DataLine) (i : ℕ) (t : Table) (l : DataLine) (lt : i < length ls) (here : l ≡ get_or ls i l) (so_far : extended funs stage x [] (take i ls) ≡ Ok t) where
  pub step_fits : EachLineFits funs no_lines ls → StepFits funs t l.step
  step_fits fit =
      let parts = lines_fit funs no_lines (take i ls) (l ∷ drop (suc i) ls) (subst (EachLineFits funs no_lines) (parted ls i l lt here) fit) in
      record {
        program = program_of no_lines (take i ls);
        shaped = programs_keep_shapes funs stage x no_lines [] t (take i ls) none_shaped parts.0 so_far;
        fits = parts.1.0.step;
      }

  -- the values so far, and then those of more lines
  behind : (more : List DataLine) → extended funs stage x [] (take i ls ++ more) ≡ extended funs stage x t more
  behind more = tables_grow funs stage x [] (take i ls) more ∙ ap (λ (r : Result Table Fault). r >>= λ u. extended funs stage x u more) so_far

  pub one_more : (v : Value) → step_on funs stage x t l.step ≡ Ok v → extended funs stage x [] (take (i + 1) ls) ≡ Ok (t ++ v ∷ [])
  one_more v e =
      let taken : take (i + 1) ls ≡ take i ls ++ l ∷ [] = take_more ls i l lt ∙ ap (λ (k : DataLine). take i ls ++ k ∷ []) (sym here) in
      ap (extended funs stage x []) taken ∙ behind (l ∷ []) ∙ ap (λ (r : Result Value Fault). r >>= λ v. extended funs stage x (t ++ v ∷ []) []) e

  at_fault : (f : Fault) → step_on funs stage x t l.step ≡ Err f → extended funs stage x [] ls ≡ Err f
  at_fault f e =
      ap (extended funs stage x []) (parted ls i l lt here) ∙ behind (l ∷ drop (suc i) ls)
      ∙ ap (λ (r : Result Value Fault). r >>= λ v. extended funs stage x (t ++ v ∷ []) (drop (suc i) ls)) e

  pub at_halt : (h : Halt) → Stops (step_on funs stage x t l.step) h → Stops (extended funs stage x [] ls) h
  at_halt (halt.Fault f) e = at_fault f e
  at_halt halt.NoMemory e = tt
