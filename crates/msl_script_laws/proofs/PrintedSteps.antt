-- Reading goes on through printed steps.
use Rattle.std.proofs.Common.{◌≡◌, ◌<◌, ◌≤◌, ◌*◌, ℕ, true, ◌&&◌, List, [], ◌∷◌, ◌++◌, length, codes, refl, sym, subst, append_assoc, arith}
use Rattle.std.specs.Prelude.{nat_le, slice_index_or}
use Rattle.std.proofs.lemmas.Bool.Decides.{nat_tests}
use Rattle.msl_lex.specs.Lexemes.{number}
use Rattle.msl_lex.specs.Printing.{Bit, token}
use Rattle.msl_ops.specs.declared.op.Op.{Op}
use Rattle.msl_base.specs.Names.{Text}
use Rattle.msl_fun.specs.Checks.{names_of}
use Rattle.msl_fun_print.specs.FunText.{space, named, mark}
use Rattle.msl_program.specs.declared.data.UseSpec.{UseSpec}
use Rattle.msl_program.specs.declared.data.DataStep.{DataStep}
use Rattle.msl_program.specs.declared.data.DataStep.TheVariants as step
use Rattle.msl_program.specs.Known.{Known}
use Rattle.msl_program.specs.declared.shape.Need.{Need}
use Rattle.msl_program.specs.declared.shape.Need.TheVariants as need
use Rattle.msl_program.specs.declared.shape.Shape.{Shape}
use Rattle.msl_program.specs.declared.shape.Shape.TheVariants as shape
use Rattle.msl_program.specs.ProgramPromise.{shape_at, shape_after, IsBetween, IsLine, IsUse, IsOperator, IsStep}
use Rattle.msl_program.specs.Programs.{Program, line_names, blocks_of, given}
use Rattle.msl_grammar.specs.ScriptGrammar.{State, Step, is_between, a_size, a_step, a_line, a_block_of, an_operator, array_rule, part_rule, matrix_rule, with_one, with_two, fold_rule, scan_rule, foldl_rule, broadcast_rule, transpose_rule}
use Rattle.msl_script_print.specs.ScriptText.{arg_bits, use_bits, op_bits, step_bits}
use Rattle.msl_script_laws.proofs.Printed.{meets, Goes, spaced, at_token, one_token, same_token, grouped, same_bits, word_goes, number_goes, number_spelt}
use Rattle.msl_script_laws.proofs.PrintedOperators.{operator_goes}
use Rattle.msl_script_laws.proofs.PrintedParts.{Stands}
use Rattle.msl_script_laws.proofs.PrintedUses.{line_goes, container_goes, block_goes, arg_goes, use_goes, none_before_line, none_before_arg}

same_given : (n : ℕ) (s : Shape) → given n n s ≡ n
same_given n (shape.Array b) = refl
same_given n (shape.Matrix r c p q) = refl
same_given n shape.Number = refl

is_size : (most before v : ℕ) → IsBetween 1 1048576 v → before * v ≤ most → (is_between 1 1048576 v && nat_le (before * v) most) ≡ true
is_size most before v b few = let least = b.0 in let high = b.1 in grind (arith, nat_tests)

size_goes : {t : State} {most before v : ℕ} {k : ℕ → State} {bits : List Bit} → IsBetween 1 1048576 v → before * v ≤ most → meets (number v) bits ≡ true → Goes (k v) bits t → Goes (a_size most before k) (token (number v) ∷ bits) t
size_goes {most = most} {before = before} {v = v} {k = k} between few meet h =
    let high = between.1 in
    one_token (k v) (number_spelt v (omega arith)) meet (λ at end ts. rw (is_size most before v between few) refl) h

from_none : {high v : ℕ} → v ≤ high → IsBetween 0 high v
from_none few = (omega arith, few)

module _ (m : Known) (p : Program) (funs names : List Text)
    (fun_stands : (f : ℕ) → f < length m.funs → Stands (names_of m.funs) f (slice_index_or funs f []))
    (line_stands : (l : ℕ) → l < length p.lines → Stands (line_names p) l (slice_index_or names l []))
    (few_blocks : (l : ℕ) → blocks_of (shape_at p l) ≤ 1024)
    (k : Step → State) (t : State) (bits : List Bit) where
  -- what follows a step, behind its semicolon
  abbrev Follows : DataStep → Shape → Type 0
  Follows st s = Goes (k (st, s)) (mark (codes ";") ∷ bits) t

  abbrev line_of : ℕ → Bit
  line_of l = named (slice_index_or names l [])

  one_goes : (needed : Need) (for_array for_matrix : ℕ) (make : UseSpec → ℕ → DataStep) (u : UseSpec) (l : ℕ) → IsUse m.funs p (given for_array for_matrix (shape_at p l)) u → IsLine p needed l → Follows (make u l) (shape_at p l)
      → Goes (with_one m p needed for_array for_matrix make k) ((use_bits funs names u ++ space ∷ line_of l ∷ []) ++ mark (codes ";") ∷ bits) t
  one_goes needed for_array for_matrix make u l uses is h =
      grouped (use_bits funs names u) (space ∷ line_of l ∷ []) (mark (codes ";") ∷ bits)
      (use_goes m p funs names fun_stands line_stands u uses.function.within uses.args (none_before_line m p funs names fun_stands line_stands l is.within)
      (λ at. container_goes m p funs names fun_stands line_stands (record { fun = u.fun; at = at; args = u.args }) uses is refl h))

  two_go : (for_array for_matrix : ℕ) (make : UseSpec → ℕ → ℕ → DataStep) (u : UseSpec) (l o : ℕ) → IsUse m.funs p (given for_array for_matrix (shape_at p l)) u → IsLine p need.Container l → IsLine p (need.Like (shape_at p l)) o
      → Follows (make u l o) (shape_at p l) → Goes (with_two m p for_array for_matrix make k) ((use_bits funs names u ++ space ∷ line_of l ∷ space ∷ line_of o ∷ []) ++ mark (codes ";") ∷ bits) t
  two_go for_array for_matrix make u l o uses is like h =
      grouped (use_bits funs names u) (space ∷ line_of l ∷ space ∷ line_of o ∷ []) (mark (codes ";") ∷ bits)
      (use_goes m p funs names fun_stands line_stands u uses.function.within uses.args (none_before_line m p funs names fun_stands line_stands l is.within)
      (λ at. container_goes m p funs names fun_stands line_stands (record { fun = u.fun; at = at; args = u.args }) uses is refl (spaced (line_goes m p funs names fun_stands line_stands like refl h))))

  -- where arrays and matrices give as many arguments
  same_use : (n : ℕ) (u : UseSpec) (l : ℕ) → IsUse m.funs p n u → IsUse m.funs p (given n n (shape_at p l)) u
  same_use n u l uses = subst (λ n. IsUse m.funs p n u) (sym (same_given n (shape_at p l))) uses

  op_goes : (needed : Need) (make : Op → ℕ → DataStep) (s : Shape → Shape) (op : Op) (l : ℕ) → IsOperator op → IsLine p needed l → Follows (make op l) (s (shape_at p l))
      → Goes (an_operator (λ op. a_line p needed (λ l. k (make op l.0, s l.1)))) ((op_bits op ++ space ∷ line_of l ∷ []) ++ mark (codes ";") ∷ bits) t
  op_goes needed make s op l known is h =
      grouped (op_bits op) (space ∷ line_of l ∷ []) (mark (codes ";") ∷ bits)
      (operator_goes (λ op. a_line p needed (λ l. k (make op l.0, s l.1))) t (line_of l ∷ mark (codes ";") ∷ bits) op (spaced (line_goes m p funs names fun_stands line_stands is refl h)) known)

  pub step_goes : (st : DataStep) → IsStep m.funs p st → Follows st (shape_after p st) → Goes (a_step m p k) (step_bits funs names st ++ mark (codes ";") ∷ bits) t
  step_goes (step.Array b) is h = one_token (array_rule k) refl refl (λ at end ts. refl) (spaced (number_goes refl is refl (same_token (k (step.Array b, shape.Array b)) (λ at end ts. refl) h)))
  step_goes (step.ArrayAt b from len) is h =
      one_token (array_rule k) refl refl (λ at end ts. refl) (spaced (number_goes refl is.0 refl (spaced (one_token (part_rule b k) refl refl (λ at end ts. refl)
      (spaced (number_goes refl (from_none is.1) refl (spaced (word_goes refl refl (spaced (number_goes refl (from_none is.2) refl h))))))))))
  step_goes (step.Matrix r c gr gc from) is h =
      one_token (matrix_rule k) refl refl (λ at end ts. refl) (spaced (number_goes refl is.0.0 refl (spaced (size_goes is.0.1 is.0.2 refl (spaced (word_goes refl refl
      (spaced (number_goes refl is.1.0 refl (spaced (size_goes is.1.1 is.1.2 refl (spaced (word_goes refl refl (spaced (number_goes refl (from_none is.2) refl h))))))))))))))
  step_goes (step.Map u l) is h = one_token (with_one m p need.Container 1 1 step.Map k) refl refl (λ at end ts. refl) (spaced (one_goes need.Container 1 1 step.Map u l (same_use 1 u l is.0) is.1 h))
  step_goes (step.MapIndex u l) is h = one_token (with_one m p need.Container 2 3 step.MapIndex k) refl refl (λ at end ts. refl) (spaced (one_goes need.Container 2 3 step.MapIndex u l is.0 is.1 h))
  step_goes (step.Zip u l o) is h = one_token (with_two m p 2 2 step.Zip k) refl refl (λ at end ts. refl) (spaced (two_go 2 2 step.Zip u l o (same_use 2 u l is.0) is.1 is.2 h))
  step_goes (step.ZipIndex u l o) is h = one_token (with_two m p 3 4 step.ZipIndex k) refl refl (λ at end ts. refl) (spaced (two_go 3 4 step.ZipIndex u l o is.0 is.1 is.2 h))
  step_goes (step.Fold op l) is h = one_token (fold_rule p k) refl refl (λ at end ts. refl) (spaced (op_goes need.Container step.Fold (λ s. shape.Number) op l is.0 is.1 h))
  step_goes (step.Scan op l) is h = one_token (scan_rule p k) refl refl (λ at end ts. refl) (spaced (op_goes need.Array step.Scan (λ s. s) op l is.0 is.1 h))
  step_goes (step.Foldl u first l) is h =
      let arg = arg_bits funs names first in
      let line = space ∷ line_of l ∷ [] in
      let end = mark (codes ";") ∷ bits in
      one_token (foldl_rule m p k) refl refl (λ at end ts. refl) (spaced (grouped (use_bits funs names u) (space ∷ (arg ++ line)) end
      (use_goes m p funs names fun_stands line_stands u is.0.function.within is.0.args
      (λ w g. grouped arg line end (none_before_arg m p funs names fun_stands line_stands (line ++ end) first is.1 w (same_bits (sym (append_assoc arg line end)) g)))
      (λ at. grouped arg line end (arg_goes m p funs names fun_stands line_stands first is.1 (record { words = λ w. refl; numbers = λ v. refl })
      (spaced (container_goes m p funs names fun_stands line_stands (record { fun = u.fun; at = at; args = u.args }) (same_use 2 u l is.0) is.2 refl h)))))))
  step_goes (step.PermutePartition u l) is h = one_token (with_one m p need.Array 1 1 step.PermutePartition k) refl refl (λ at end ts. refl) (spaced (one_goes need.Array 1 1 step.PermutePartition u l (same_use 1 u l is.0) is.1 h))
  step_goes (step.Permute u l) is h = one_token (with_one m p need.Array 1 1 step.Permute k) refl refl (λ at end ts. refl) (spaced (one_goes need.Array 1 1 step.Permute u l (same_use 1 u l is.0) is.1 h))
  step_goes (step.BroadcastPartition j l) is h =
      let few = few_blocks l in
      one_token (broadcast_rule p k) refl refl (λ at end ts. refl) (spaced (at_token (λ at. a_block_of p (j, at) (λ l. k (step.BroadcastPartition j l.0, l.1))) (number_spelt j (omega (arith, is.1))) refl (λ at end ts. refl)
      (λ at. spaced (block_goes m p funs names fun_stands line_stands is.0 is.1 refl h))))
  step_goes (step.RotateRows u l) is h = one_token (with_one m p need.Matrix 1 1 step.RotateRows k) refl refl (λ at end ts. refl) (spaced (one_goes need.Matrix 1 1 step.RotateRows u l (same_use 1 u l is.0) is.1 h))
  step_goes (step.RotateCols u l) is h = one_token (with_one m p need.Matrix 1 1 step.RotateCols k) refl refl (λ at end ts. refl) (spaced (one_goes need.Matrix 1 1 step.RotateCols u l (same_use 1 u l is.0) is.1 h))
  step_goes (step.Transpose l) is h = one_token (transpose_rule p k) refl refl (λ at end ts. refl) (spaced (line_goes m p funs names fun_stands line_stands is refl h))
