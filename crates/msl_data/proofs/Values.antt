-- What a step finds in the table, by the shapes of the lines.
use Rattle.std.proofs.Common.{◌≡◌, IsTrue, ℕ, zero, suc, ◌<◌, ◌==◌, ◌&&◌, ◌||◌, ℤ, List, [], ◌∷◌, map, length, get_or, refl, sym, ap, ◌∙◌, subst, arith}
use Rattle.std.proofs.lemmas.Bool.{and_parts, eqb-true}
use Rattle.std.proofs.lemmas.List.{length-map}
use Rattle.std.specs.List.{AllZip}
use Rattle.msl_fun.specs.declared.funs.Fun.{Fun}
use Rattle.msl_fun.specs.declared.muscle.Use.{Use}
use Rattle.msl_fun.specs.Meaning.{params_of, results_of}
use Rattle.msl_lists.specs.Whole.{Extent, function_of, use_of}
use Rattle.msl_local.specs.Places.{Takes}
use Rattle.msl_program.specs.declared.data.Arg.{Arg}
use Rattle.msl_program.specs.declared.data.Arg.TheVariants as arg
use Rattle.msl_program.specs.declared.data.UseSpec.{UseSpec}
use Rattle.msl_program.specs.declared.shape.Shape.{Shape}
use Rattle.msl_program.specs.declared.shape.Shape.TheVariants as shape
use Rattle.msl_program.specs.declared.shape.Need.{Need}
use Rattle.msl_program.specs.declared.shape.Need.TheVariants as need
use Rattle.msl_program.specs.Programs.{Program, is_array, is_matrix, is_number, same_shape, blocks_of, given}
use Rattle.msl_program.specs.ProgramPromise.{shape_at, IsLine, IsArgument, AreArguments, IsUse}
use Rattle.msl_program.specs.Data.{list, matrix, number, argument, value_of}
use Rattle.msl_program.specs.Data as program
use Rattle.msl_program.specs.Shaped.{HasShape, AreShaped}
use Rattle.msl_program.proofs.ShapeLaws.{lines_have_shapes}
use Rattle.msl_data.specs.declared.table.Table.{Table}
use Rattle.msl_data.specs.Kinds.{AreGiven, IsArray, IsContainer, IsGiven, IsMatrix, IsNumber}
use Rattle.msl_data.specs.Tables.{values_of}

-- ---- kinds of values

container_is : (s : Shape) (v : program.Value) → IsTrue (is_array s || is_matrix s) → HasShape s v → IsContainer v
container_is s (list b a) i h = tt
container_is s (matrix m a) i h = tt
container_is (shape.Array b) (number z) i h = h
container_is (shape.Matrix r c p q) (number z) i h = h
container_is shape.Number (number z) i h = cc

array_is : (s : Shape) (v : program.Value) → IsTrue (is_array s) → HasShape s v → IsArray v
array_is (shape.Array b) (list c a) i h = tt
array_is (shape.Array b) (matrix m a) i h = h
array_is (shape.Array b) (number z) i h = h
array_is (shape.Matrix r c p q) v i h = cc
array_is shape.Number v i h = cc

matrix_is : (s : Shape) (v : program.Value) → IsTrue (is_matrix s) → HasShape s v → IsMatrix v
matrix_is (shape.Array b) v i h = cc
matrix_is (shape.Matrix r c p q) (list b a) i h = h
matrix_is (shape.Matrix r c p q) (matrix m a) i h = tt
matrix_is (shape.Matrix r c p q) (number z) i h = h
matrix_is shape.Number v i h = cc

number_is : (s : Shape) (v : program.Value) → IsTrue (is_number s) → HasShape s v → IsNumber v
number_is (shape.Array b) v i h = cc
number_is (shape.Matrix r c p q) v i h = cc
number_is shape.Number (list b a) i h = h
number_is shape.Number (matrix m a) i h = h
number_is shape.Number (number z) i h = tt

-- ---- shapes of values

shape_of_list : (s : Shape) (b : ℕ) (a : List ℤ) → HasShape s (list b a) → s ≡ shape.Array b
shape_of_list (shape.Array c) b a h = ap shape.Array (sym h)
shape_of_list (shape.Matrix r c p q) b a h = absurd h
shape_of_list shape.Number b a h = absurd h

-- the shape that a matrix has
abbrev shape_by : Extent → Shape
shape_by m = shape.Matrix m.rows m.cols m.grid_rows m.grid_cols

shape_of_matrix : (s : Shape) (m : Extent) (a : List ℤ) → HasShape s (matrix m a) → s ≡ shape_by m
shape_of_matrix (shape.Array c) m a h = absurd h
shape_of_matrix (shape.Matrix r c p q) m a h = sym (ap shape_by h.0)
shape_of_matrix shape.Number m a h = absurd h

-- what is like an array is one of as many blocks, and what is like a matrix one of its extent
like_array : (b : ℕ) (t : Shape) → IsTrue (same_shape (shape.Array b) t) → t ≡ shape.Array b
like_array b (shape.Array c) i = ap shape.Array (sym (eqb-true b c i))
like_array b (shape.Matrix r c p q) i = cc
like_array b shape.Number i = cc

like_matrix : (r c p q : ℕ) (t : Shape) → IsTrue (same_shape (shape.Matrix r c p q) t) → t ≡ shape.Matrix r c p q
like_matrix r c p q (shape.Array b) i = cc
like_matrix r c p q shape.Number i = cc
like_matrix r c p q (shape.Matrix r' c' p' q') i =
    let last = and_parts ((r == r') && (c == c') && (p == p')) (q == q') i in
    let third = and_parts ((r == r') && (c == c')) (p == p') last.0 in
    let second = and_parts (r == r') (c == c') third.0 in
    sym (ap (λ n. shape.Matrix n c p q) (eqb-true r r' second.0) ∙ ap (λ n. shape.Matrix r' n p q) (eqb-true c c' second.1) ∙ ap (λ n. shape.Matrix r' c' n q) (eqb-true p p' third.1)
    ∙ ap (λ n. shape.Matrix r' c' p' n) (eqb-true q q' last.1))

-- ---- functions in use

pub given_in : (t : program.Table) (args : List Arg) (i : ℕ) (d : Arg) → i < length args → AreGiven t args → IsGiven t (get_or args i d)
given_in t [] i d h g = absurd (omega (arith, h))
given_in t (a ∷ more) zero d h g = g.0
given_in t (a ∷ more) (suc i) d h g = given_in t more i d (omega (arith, h)) g.1

pub takes : (funs : List Fun) (p : Program) (t : program.Table) (n m : ℕ) (u : UseSpec) (w : Use) → IsUse funs p n u → n ≡ m → w.f.funs.now ≡ funs → w.f.at ≡ u.fun → w.extra ≡ map (argument t) u.args → Takes w m
takes funs p t n m u w h e f i extra =
    let params : params_of w.f.funs.now w.f.at ≡ params_of funs u.fun = ap (λ (g : List Fun). params_of g w.f.at) f ∙ ap (params_of funs) i in
    let results : results_of w.f.funs.now w.f.at ≡ results_of funs u.fun = ap (λ (g : List Fun). results_of g w.f.at) f ∙ ap (results_of funs) i in
    let wide = eqb-true _ _ h.function.params in
    let one = eqb-true _ _ h.function.results in
    record { takes = omega (arith, ap length extra, length-map u.args (argument t), e, params, wide); gives = results ∙ one }

-- a function in use is that of the step
pub used_is : (funs : List Fun) (t : program.Table) (u : UseSpec) (w : Use) → w.f.funs.now ≡ funs → w.f.at ≡ u.fun → w.extra ≡ map (argument t) u.args → function_of w ≡ use_of funs u.fun (map (argument t) u.args)
used_is funs t u w f i extra = ap (λ (fs : List Fun). use_of fs w.f.at w.extra) f ∙ ap (λ n. use_of funs n w.extra) i ∙ ap (use_of funs u.fun) extra

zip_long : (ss : List Shape) (vs : program.Table) → AllZip HasShape ss vs → length ss ≡ length vs
zip_long [] [] h = refl
zip_long [] (v ∷ vs) h = absurd h
zip_long (s ∷ ss) [] h = absurd h
zip_long (s ∷ ss) (v ∷ vs) h = ap suc (zip_long ss vs h.1)

-- ---- what a step finds

module _ (p : Program) (t : Table) (shaped : AreShaped p (values_of t)) where
  abbrev at : ℕ → program.Value
  at k = value_of (values_of t) k

  shaped_at : (needed : Need) (k : ℕ) → IsLine p needed k → HasShape (shape_at p k) (at k)
  shaped_at needed k line = lines_have_shapes p (values_of t) needed k shaped line

  pub container_at : (k : ℕ) → IsLine p need.Container k → IsContainer (at k)
  container_at k line = container_is (shape_at p k) (at k) line.suits (shaped_at need.Container k line)

  pub array_at : (k : ℕ) → IsLine p need.Array k → IsArray (at k)
  array_at k line = array_is (shape_at p k) (at k) line.suits (shaped_at need.Array k line)

  pub matrix_at : (k : ℕ) → IsLine p need.Matrix k → IsMatrix (at k)
  matrix_at k line = matrix_is (shape_at p k) (at k) line.suits (shaped_at need.Matrix k line)

  number_at : (k : ℕ) → IsLine p need.Number k → (k < length (values_of t)) × IsNumber (at k)
  number_at k line = (
    omega (arith, line.within, shaped.paired, zip_long p.shapes (values_of t) shaped.each),
    number_is (shape_at p k) (at k) line.suits (shaped_at need.Number k line),
  )

  pub argument_at : (a : Arg) → IsArgument p a → IsGiven (values_of t) a
  argument_at (arg.Number k) h = number_at k h
  argument_at (arg.Lit z) h = tt

  pub arguments_at : (args : List Arg) → AreArguments p args → AreGiven (values_of t) args
  arguments_at [] h = tt
  arguments_at (a ∷ more) h = (argument_at a h.0, arguments_at more h.1)

  -- line k is an array of b blocks
  module _ (needed : Need) (k b : ℕ) (a : List ℤ) (line : IsLine p needed k) (is : at k ≡ list b a) where
    array_shape : shape_at p k ≡ shape.Array b
    array_shape = shape_of_list (shape_at p k) b a (subst (HasShape (shape_at p k)) is (shaped_at needed k line))

    pub blocks_in_line : b ≡ blocks_of (shape_at p k)
    blocks_in_line = sym (ap blocks_of array_shape)

    -- a step gives the place, and no row and column
    pub given_of_array : (n m : ℕ) → given n m (shape_at p k) ≡ n
    given_of_array n m = ap (given n m) array_shape

    module _ (l : ℕ) (other : IsLine p (need.Like (shape_at p k)) l) where
      other_array : shape_at p l ≡ shape.Array b
      other_array = like_array b (shape_at p l) (subst (λ s. IsTrue (same_shape s (shape_at p l))) array_shape other.suits)

      other_has : HasShape (shape.Array b) (at l)
      other_has = subst (λ s. HasShape s (at l)) other_array (shaped_at (need.Like (shape_at p k)) l other)

      pub array_like : IsArray (at l)
      array_like = array_is (shape.Array b) (at l) refl other_has

      pub blocks_like : (c : ℕ) (d : List ℤ) → at l ≡ list c d → c ≡ b
      blocks_like c d e = subst (HasShape (shape.Array b)) e other_has

  -- line k is a matrix of extent m
  module _ (k : ℕ) (m : Extent) (a : List ℤ) (line : IsLine p need.Container k) (is : at k ≡ matrix m a) where
    matrix_shape : shape_at p k ≡ shape_by m
    matrix_shape = shape_of_matrix (shape_at p k) m a (subst (HasShape (shape_at p k)) is (shaped_at need.Container k line))

    -- a step gives the row and the column
    pub given_of_matrix : (n w : ℕ) → given n w (shape_at p k) ≡ w
    given_of_matrix n w = ap (given n w) matrix_shape

    module _ (l : ℕ) (other : IsLine p (need.Like (shape_at p k)) l) where
      other_matrix : shape_at p l ≡ shape_by m
      other_matrix = like_matrix m.rows m.cols m.grid_rows m.grid_cols (shape_at p l) (subst (λ s. IsTrue (same_shape s (shape_at p l))) matrix_shape other.suits)

      other_extent : HasShape (shape_by m) (at l)
      other_extent = subst (λ s. HasShape s (at l)) other_matrix (shaped_at (need.Like (shape_at p k)) l other)

      pub matrix_like : IsMatrix (at l)
      matrix_like = matrix_is (shape_by m) (at l) refl other_extent

      pub extent_like : (n : Extent) (d : List ℤ) → at l ≡ matrix n d → n ≡ m
      extent_like n d e = (subst (HasShape (shape_by m)) e other_extent).0
