-- What fits the functions fits more of them too.
use Rattle.std.proofs.Common.{◌≡◌, ◌<◌, IsTrue, ℕ, zero, suc, ◌+◌, ◌*◌, List, [], ◌∷◌, ◌++◌, length, refl, sym, ap, subst, arith, length-append}
use Rattle.std.specs.Prelude.{slice_get}
use Rattle.msl_fun.specs.declared.funs.Fun.{Fun}
use Rattle.msl_fun.specs.Meaning.{width_of, params_of, results_of}
use Rattle.msl_program.specs.declared.data.UseSpec.{UseSpec}
use Rattle.msl_program.specs.declared.data.DataStep.{DataStep}
use Rattle.msl_program.specs.declared.data.DataStep.TheVariants.{Array, ArrayAt, Matrix, Map, MapIndex, Zip, ZipIndex, Fold, Scan, Foldl, PermutePartition, Permute, BroadcastPartition, RotateRows, RotateCols, Transpose}
use Rattle.msl_program.specs.declared.data.DataLine.{DataLine}
use Rattle.msl_program.specs.declared.data.DataProg.{DataProg}
use Rattle.msl_program.specs.declared.script.FilterSpec.{FilterSpec}
use Rattle.msl_program.specs.declared.script.DivCon.{DivCon}
use Rattle.msl_program.specs.declared.script.BnbSpec.{BnbSpec}
use Rattle.msl_program.specs.declared.width.Width.{Width}
use Rattle.msl_program.specs.declared.width.Width.TheVariants.{Any, Exactly, Shared}
use Rattle.msl_program.specs.Widths.{allows, IsFunction}
use Rattle.msl_program.specs.Promises.{FilterFits, DivConFits, SearchFits}
use Rattle.msl_program.specs.Programs.{Program, no_lines}
use Rattle.msl_program.specs.ProgramPromise.{IsUse, IsStep, LineFits, EachLineFits, ProgramFits, one_line}

front : (xs ys : List Fun) (i : ℕ) → i < length xs → slice_get (xs ++ ys) i ≡ slice_get xs i
front [] ys i h = absurd (omega (arith, h))
front (x ∷ xs) ys zero h = refl
front (x ∷ xs) ys (suc i) h = front xs ys i (omega (arith, h))

module _ (funs more : List Fun) where
  params_later : (f : ℕ) → f < length funs → params_of funs f ≡ params_of (funs ++ more) f
  params_later f h = ap (width_of (λ g. length g.params)) (sym (front funs more f h))

  results_later : (f : ℕ) → f < length funs → results_of funs f ≡ results_of (funs ++ more) f
  results_later f h = ap (width_of (λ g. length g.results)) (sym (front funs more f h))

  function_later : (taken given : Width) (f : ℕ) → IsFunction funs taken given f → IsFunction (funs ++ more) taken given f
  function_later taken given f h = record {
    within = omega (arith, length-append funs more, h.within);
    params = subst (λ (n : ℕ). IsTrue (allows taken n)) (params_later f h.within) h.params;
    results = subst (λ (n : ℕ). IsTrue (allows given n)) (results_later f h.within) h.results;
  }

  pub filter_later : (f : FilterSpec) → FilterFits funs f → FilterFits (funs ++ more) f
  filter_later f h = record {
    some_state = h.some_state;
    few_state = h.few_state;
    state = h.state;
    count = function_later _ _ f.count h.count;
    item = subst (λ (n : ℕ). IsFunction (funs ++ more) (Exactly (n + 1)) Any f.item) (params_later f.count h.count.within) (function_later _ _ f.item h.item);
    next = subst (λ (n : ℕ). IsFunction (funs ++ more) (Exactly n) (Exactly (length f.state)) f.next) (params_later f.count h.count.within) (function_later _ _ f.next h.next);
    flush = function_later _ _ f.flush h.flush;
    last = function_later _ _ f.last h.last;
  }

  pub divcon_later : (d : DivCon) → DivConFits funs d → DivConFits (funs ++ more) d
  divcon_later d h =
      let p = params_later d.simple h.simple.within in
      let r = results_later d.solve h.solve.within in
      record {
        some_parts = h.some_parts;
        few_parts = h.few_parts;
        cutoff = h.cutoff;
        simple = function_later _ _ d.simple h.simple;
        solve = subst (λ (n : ℕ). IsFunction (funs ++ more) (Exactly n) (Shared d.parts) d.solve) p (function_later _ _ d.solve h.solve);
        divide = subst (λ (n : ℕ). IsFunction (funs ++ more) (Exactly (n + 1)) (Exactly n) d.divide) p (function_later _ _ d.divide h.divide);
        combine = subst (λ (n : ℕ). IsFunction (funs ++ more) (Exactly (d.parts * n)) (Exactly n) d.combine) r (function_later _ _ d.combine h.combine);
      }

  pub search_later : (b : BnbSpec) → SearchFits funs b → SearchFits (funs ++ more) b
  search_later b h =
      let p = params_later b.bound h.bound.within in
      record {
        bound = function_later _ _ b.bound h.bound;
        solved = subst (λ (n : ℕ). IsFunction (funs ++ more) (Exactly n) (Exactly 1) b.solved) p (function_later _ _ b.solved h.solved);
        value = subst (λ (n : ℕ). IsFunction (funs ++ more) (Exactly n) (Exactly 1) b.value) p (function_later _ _ b.value h.value);
        count = subst (λ (n : ℕ). IsFunction (funs ++ more) (Exactly n) (Exactly 1) b.count) p (function_later _ _ b.count h.count);
        branch = subst (λ (n : ℕ). IsFunction (funs ++ more) (Exactly (n + 1)) (Exactly n) b.branch) p (function_later _ _ b.branch h.branch);
      }

  -- ---- data programs

  use_later : (p : Program) (n : ℕ) (u : UseSpec) → IsUse funs p n u → IsUse (funs ++ more) p n u
  use_later p n u h = record { function = function_later _ _ u.fun h.function; args = h.args }

  step_later : (p : Program) (s : DataStep) → IsStep funs p s → IsStep (funs ++ more) p s
  step_later p (Array b) h = h
  step_later p (ArrayAt b at len) h = h
  step_later p (Matrix r c gr gc at) h = h
  step_later p (Map u k) h = (use_later p _ u h.0, h.1)
  step_later p (MapIndex u k) h = (use_later p _ u h.0, h.1)
  step_later p (Zip u k l) h = (use_later p _ u h.0, h.1, h.2)
  step_later p (ZipIndex u k l) h = (use_later p _ u h.0, h.1, h.2)
  step_later p (Fold op k) h = h
  step_later p (Scan op k) h = h
  step_later p (Foldl u a k) h = (use_later p _ u h.0, h.1, h.2)
  step_later p (PermutePartition u k) h = (use_later p _ u h.0, h.1)
  step_later p (Permute u k) h = (use_later p _ u h.0, h.1)
  step_later p (BroadcastPartition j k) h = h
  step_later p (RotateRows u k) h = (use_later p _ u h.0, h.1)
  step_later p (RotateCols u k) h = (use_later p _ u h.0, h.1)
  step_later p (Transpose k) h = h

  line_later : (p : Program) (l : DataLine) → LineFits funs p l → LineFits (funs ++ more) p l
  line_later p l h = record { name = h.name; is_new = h.is_new; step = step_later p l.step h.step }

  lines_later : (p : Program) (ls : List DataLine) → EachLineFits funs p ls → EachLineFits (funs ++ more) p ls
  lines_later p [] h = tt
  lines_later p (l ∷ ls) h = (line_later p l h.0, lines_later (one_line p l) ls h.1)

  pub program_later : (d : DataProg) → ProgramFits funs d → ProgramFits (funs ++ more) d
  program_later d h = record { few_lines = h.few_lines; lines = lines_later no_lines d.lines h.lines; gives = h.gives }
