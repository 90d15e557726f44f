-- The value of a line that is made of one or two others by a function in use.
use Rattle.std.proofs.Common.{◌≡◌, ℕ, ℤ, List, Result, Ok, Err, MatchResult, sym, subst, ap, ◌∙◌}
use Rattle.msl_base.specs.declared.fault.Fault.{Fault}
use Rattle.msl_base.specs.declared.answer.Halt.{Halt}
use Rattle.msl_base.specs.declared.answer.Halt.TheVariants as halt
use Rattle.msl_lists.specs.Whole.{◌>>=◌, Extent, Function}
use Rattle.msl_array.specs.Arrays.{Blocked, ComesBlocked}
use Rattle.msl_matrix.specs.Matrices as matrices
use Rattle.msl_matrix.specs.Matrices.{ComesMatrix}
use Rattle.msl_program.specs.Data.{list, matrix, with_elements}
use Rattle.msl_program.specs.Data as program
use Rattle.msl_data.specs.declared.table.Value.{Value}
use Rattle.msl_data.specs.declared.table.Value.TheVariants.{Array, Matrix}
use Rattle.msl_data.specs.Tables.{ComesAs}

abbrev like : program.Value → Result (List ℤ) Fault → Result program.Value Fault
like v want = want >>= λ a. Ok (with_elements v a)

-- an answer of a call is the value, or its halt
abbrev IsMade : {A : Type 0} → (A → Value) → Result A Halt → Result Value Halt → Type 0
IsMade value r made = MatchResult r (λ d. made ≡ Ok (value d)) (λ h. made ≡ Err h)

of_list : (b : ℕ) (a : List ℤ) (want : Result (List ℤ) Fault) (r : Result Blocked Halt) (made : Result Value Halt) → ComesBlocked b want r → IsMade Array r made → ComesAs (like (list b a) want) made
of_list b a want (Ok d) made h e =
    let given : like (list b a) want ≡ Ok (list d.blocks d.elements) = ap (like (list b a)) h.0 ∙ ap (λ n. Ok (list n d.elements)) (sym h.1) in
    subst (ComesAs (like (list b a) want)) (sym e) given
of_list b a want (Err halt.NoMemory) made h e = subst (ComesAs (like (list b a) want)) (sym e) tt
of_list b a want (Err (halt.Fault x)) made h e = subst (ComesAs (like (list b a) want)) (sym e) (ap (like (list b a)) h)

of_matrix : (m : Extent) (a : List ℤ) (want : Result (List ℤ) Fault) (r : Result matrices.Matrix Halt) (made : Result Value Halt) → ComesMatrix m want r → IsMade Matrix r made → ComesAs (like (matrix m a) want) made
of_matrix m a want (Ok d) made h e =
    let given : like (matrix m a) want ≡ Ok (matrix d.extent d.elements) = ap (like (matrix m a)) h.0 ∙ ap (λ n. Ok (matrix n d.elements)) (sym h.1) in
    subst (ComesAs (like (matrix m a) want)) (sym e) given
of_matrix m a want (Err halt.NoMemory) made h e = subst (ComesAs (like (matrix m a) want)) (sym e) tt
of_matrix m a want (Err (halt.Fault x)) made h e = subst (ComesAs (like (matrix m a) want)) (sym e) (ap (like (matrix m a)) h)

-- the function of the step, and the values of its lines
module _ (f g : Function) (v : program.Value) (made : Result Value Halt) (same : f ≡ g) where
  module _ (step : Function → program.Value → program.Value → Result (List ℤ) Fault) (w o : program.Value) (other : w ≡ o) where
    -- what the call was made with is what the step names
    of_step : (u : program.Value) → v ≡ u → ComesAs (like u (step f u o)) made → ComesAs (like v (step g v w)) made
    of_step u is h =
        subst (λ (x : program.Value). ComesAs (like x (step g x w)) made) (sym is)
        (subst (λ (x : program.Value). ComesAs (like u (step g u x)) made) (sym other) (subst (λ (k : Function). ComesAs (like u (step k u o)) made) same h))

    pub zipped_array : (b : ℕ) (a : List ℤ) (r : Result Blocked Halt) → v ≡ list b a → ComesBlocked b (step f (list b a) o) r → IsMade Array r made → ComesAs (like v (step g v w)) made
    zipped_array b a r is h e = of_step (list b a) is (of_list b a (step f (list b a) o) r made h e)

    pub zipped_matrix : (m : Extent) (a : List ℤ) (r : Result matrices.Matrix Halt) → v ≡ matrix m a → ComesMatrix m (step f (matrix m a) o) r → IsMade Matrix r made → ComesAs (like v (step g v w)) made
    zipped_matrix m a r is h e = of_step (matrix m a) is (of_matrix m a (step f (matrix m a) o) r made h e)

  module _ (step : Function → program.Value → Result (List ℤ) Fault) where
    pub moved_array : (b : ℕ) (a : List ℤ) (r : Result Blocked Halt) → v ≡ list b a → ComesBlocked b (step f (list b a)) r → IsMade Array r made → ComesAs (like v (step g v)) made
    moved_array b a r is h e = zipped_array (λ k x y. step k x) v (list b a) is b a r is h e

    pub moved_matrix : (m : Extent) (a : List ℤ) (r : Result matrices.Matrix Halt) → v ≡ matrix m a → ComesMatrix m (step f (matrix m a)) r → IsMade Matrix r made → ComesAs (like v (step g v)) made
    moved_matrix m a r is h e = zipped_matrix (λ k x y. step k x) v (matrix m a) is m a r is h e
