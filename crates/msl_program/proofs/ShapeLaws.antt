-- The lines of a data program that fit the functions have values of their shapes.
use Rattle.std.proofs.Common.{◌≡◌, ◌<◌, ◌≤◌, IsTrue, ℕ, zero, suc, ◌+◌, ◌*◌, ◌%◌, ◌==◌, Bool, true, false, ℤ, pos, List, [], ◌∷◌, ◌++◌, length, take, drop, get_or, Result, Ok, Err, if◌then◌else◌, refl, sym, ap, ◌∙◌, subst, arith, length-append, length-drop, length-take-le, ltb-false}
use Rattle.std.specs.Prelude.{nat_lt}
use Rattle.std.specs.List.{AllZip}
use Rattle.msl_base.specs.declared.fault.Fault.{Fault}
use Rattle.msl_base.specs.Streams.{Record}
use Rattle.msl_fun.specs.declared.funs.Fun.{Fun}
use Rattle.msl_lists.specs.Whole.{◌>>=◌, Function, Extent, transposed, transpose, at_stage, each, list_by, if_same_length, map_index, zip_index, rotate_rows, rotate_cols}
use Rattle.msl_lists.specs.WholeLaws.{IsEach}
use Rattle.msl_lists.proofs.WholeEach.{each_is}
use Rattle.msl_lists.proofs.WholeMoves.{long_by}
use Rattle.msl_program.specs.declared.data.DataStep.{DataStep}
use Rattle.msl_program.specs.declared.data.DataStep.TheVariants.{Array, ArrayAt, Matrix, Map, MapIndex, Zip, ZipIndex, Fold, Scan, Foldl, PermutePartition, Permute, BroadcastPartition, RotateRows, RotateCols, Transpose}
use Rattle.msl_program.specs.declared.data.DataLine.{DataLine}
use Rattle.msl_program.specs.declared.shape.Shape.{Shape}
use Rattle.msl_program.specs.declared.shape.Shape.TheVariants as shape
use Rattle.msl_program.specs.declared.shape.Need.{Need}
use Rattle.msl_program.specs.Programs.{Program, is_array, is_matrix, turned}
use Rattle.msl_program.specs.ProgramPromise.{shape_at, shape_after, one_line, program_of, IsLine, IsStep, EachLineFits}
use Rattle.msl_program.specs.Data.{Value, list, matrix, number, elements, with_elements, Table, value_of, extent, extent_of, cut, used, mapped_index, zipped_index, like, one_number, step_on, extended}
use Rattle.msl_program.specs.Shaped.{HasShape, AreShaped}
use Rattle.msl_program.specs.RunLaws.{LinesHaveShapes, StepsKeepShapes, ProgramsKeepShapes}

-- ---- what a value is made of

got : {A B : Type 0} (r : Result A Fault) (go : A → Result B Fault) (b : B) → (r >>= go) ≡ Ok b → (a : A) × (r ≡ Ok a) × (go a ≡ Ok b)
got (Ok a) go b e = (a, refl, e)
got {B = B} (Err f) go b e = let p : ◌≡◌ {A = Result B Fault} (Err f) (Ok b) = e in cc

same_ok : {A : Type 0} (a b : A) → ◌≡◌ {A = Result A Fault} (Ok a) (Ok b) → a ≡ b
same_ok a b e = cc

else_ok : {A : Type 0} (t : Bool) (f : Fault) (r : Result A Fault) (a : A) → (if t then Err f else r) ≡ Ok a → (t ≡ false) × (r ≡ Ok a)
else_ok true f r a e = cc
else_ok false f r a e = (refl, e)

then_ok : {A : Type 0} (t : Bool) (f : Fault) (r : Result A Fault) (a : A) → (if t then r else Err f) ≡ Ok a → r ≡ Ok a
then_ok true f r a e = e
then_ok false f r a e = cc

-- ---- how long lists are

each_long : (n : ℕ) (f : ℕ → Result ℤ Fault) (ys : List ℤ) → each n f ≡ Ok ys → length ys ≡ n
each_long n f ys e = let h = subst (IsEach n f) e (each_is n f) in h.0

pair_long : (stage : ℕ) (a c : List ℤ) (f : ℕ → Result ℤ Fault) (ys : List ℤ) → if_same_length stage a c (each (length a) f) ≡ Ok ys → length ys ≡ length a
pair_long stage a c f ys e = each_long (length a) f ys (then_ok (length c == length a) _ (each (length a) f) ys e)

moved_long : (r : Result (List ℤ) Fault) (n : ℕ) (f : List ℤ → ℕ → ℤ) (ys : List ℤ) → (r >>= λ by. Ok (list_by n (f by))) ≡ Ok ys → length ys ≡ n
moved_long (Ok by) n f ys e = ap length (sym (same_ok (list_by n (f by)) ys e)) ∙ long_by n (f by)
moved_long (Err fault) n f ys e = let p : ◌≡◌ {A = Result (List ℤ) Fault} (Err fault) (Ok ys) = e in cc

rows_long : (u : Function) (stage : ℕ) (m : Extent) (a ys : List ℤ) → rotate_rows u stage m a ≡ Ok ys → length ys ≡ m.rows * m.cols
rows_long u stage m a ys e = moved_long (each m.grid_rows (λ s. at_stage stage (u (pos s ∷ [])))) (m.rows * m.cols) _ ys (then_ok (m.cols % m.grid_cols == 0) _ _ ys e)

cols_long : (u : Function) (stage : ℕ) (m : Extent) (a ys : List ℤ) → rotate_cols u stage m a ≡ Ok ys → length ys ≡ m.rows * m.cols
cols_long u stage m a ys e = moved_long (each m.grid_cols (λ t. at_stage stage (u (pos t ∷ [])))) (m.rows * m.cols) _ ys (then_ok (m.rows % m.grid_rows == 0) _ _ ys e)

-- ---- one value

kept : (s : Shape) (v : Value) (a : List ℤ) → HasShape s v → length a ≡ length (elements v) → HasShape s (with_elements v a)
kept (shape.Array b) (list c a') a h e = h
kept (shape.Array b) (matrix m a') a h e = h
kept (shape.Array b) (number z) a h e = h
kept (shape.Matrix r c p q) (list b a') a h e = h
kept (shape.Matrix r c p q) (matrix m a') a h e = (h.0, e ∙ h.1)
kept (shape.Matrix r c p q) (number z) a h e = h
kept shape.Number (list b a') a h e = h
kept shape.Number (matrix m a') a h e = h
kept shape.Number (number z) a h e = tt

kept_array : (s : Shape) (v : Value) (a : List ℤ) → IsTrue (is_array s) → HasShape s v → HasShape s (with_elements v a)
kept_array (shape.Array b) (list c a') a i h = h
kept_array (shape.Array b) (matrix m a') a i h = h
kept_array (shape.Array b) (number z) a i h = h
kept_array (shape.Matrix r c p q) v a i h = cc
kept_array shape.Number v a i h = cc

kept_matrix : (s : Shape) (v : Value) (a : List ℤ) → IsTrue (is_matrix s) → HasShape s v → length a ≡ (extent_of v).rows * (extent_of v).cols → HasShape s (with_elements v a)
kept_matrix (shape.Array b) v a i h e = cc
kept_matrix shape.Number v a i h e = cc
kept_matrix (shape.Matrix r c p q) (list b a') a i h e = h
kept_matrix (shape.Matrix r c p q) (number z) a i h e = h
kept_matrix (shape.Matrix r c p q) (matrix m a') a i h e = (h.0, e ∙ ap (λ (w : Extent). w.rows * w.cols) h.0)

turned_value : (s : Shape) (v : Value) → IsTrue (is_matrix s) → HasShape s v → HasShape (turned s) (matrix (transposed (extent_of v)) (transpose (extent_of v) (elements v)))
turned_value (shape.Array b) v i h = cc
turned_value shape.Number v i h = cc
turned_value (shape.Matrix r c p q) (list b a) i h = absurd h
turned_value (shape.Matrix r c p q) (number z) i h = absurd h
turned_value (shape.Matrix r c p q) (matrix m a) i h = (ap transposed h.0, long_by (m.cols * m.rows) _ ∙ ap (λ (w : Extent). w.cols * w.rows) h.0)

-- ---- a table

value_at : (ss : List Shape) (t : Table) (k : ℕ) → AllZip HasShape ss t → k < length ss → HasShape (get_or ss k shape.Number) (get_or t k (number (pos 0)))
value_at [] [] k h lt = absurd (omega (arith, lt))
value_at [] (v ∷ t) k h lt = absurd h
value_at (s ∷ ss) [] k h lt = absurd h
value_at (s ∷ ss) (v ∷ t) zero h lt = h.0
value_at (s ∷ ss) (v ∷ t) (suc k) h lt = value_at ss t k h.1 (omega (arith, lt))

one_more : (ss : List Shape) (t : Table) (s : Shape) (v : Value) → AllZip HasShape ss t → HasShape s v → AllZip HasShape (ss ++ s ∷ []) (t ++ v ∷ [])
one_more [] [] s v h is = (is, tt)
one_more [] (w ∷ t) s v h is = absurd h
one_more (r ∷ ss) [] s v h is = absurd h
one_more (r ∷ ss) (w ∷ t) s v h is = (h.0, one_more ss t s v h.1 is)

pub lines_have_shapes : LinesHaveShapes
lines_have_shapes p t needed k h line = value_at p.shapes t k h.each (omega (arith, line.within, h.paired))

module _ (funs : List Fun) (stage : ℕ) (x : Record) where
  cut_long : (at len : ℕ) (a : List ℤ) → cut funs stage x at len ≡ Ok a → length a ≡ len
  cut_long at len a e =
      let h = else_ok (nat_lt (length x) (at + len)) _ (Ok (take len (drop at x))) a e in
      let room : at + len ≤ length x = ltb-false (length x) (at + len) h.0 in
      let rest : len ≤ length (drop at x) = omega (arith, length-drop at x, room) in
      ap length (sym (same_ok _ a h.1)) ∙ length-take-le len (drop at x) rest

  list_long : (u : Function) (c a : List ℤ) → map_index u stage c ≡ Ok a → length a ≡ length c
  list_long u c a e = each_long (length c) _ a e

  index_long : (u : Function) (v : Value) (a : List ℤ) → mapped_index funs stage x u v ≡ Ok a → length a ≡ length (elements v)
  index_long u (list b c) a e = list_long u c a e
  index_long u (matrix m c) a e = each_long (length c) _ a e
  index_long u (number z) a e = list_long u (z ∷ []) a e

  lists_long : (u : Function) (c d a : List ℤ) → zip_index u stage c d ≡ Ok a → length a ≡ length c
  lists_long u c d a e = pair_long stage c d _ a e

  zip_index_long : (u : Function) (v w : Value) (a : List ℤ) → zipped_index funs stage x u v w ≡ Ok a → length a ≡ length (elements v)
  zip_index_long u (list b c) w a e = lists_long u c (elements w) a e
  zip_index_long u (matrix m c) w a e = pair_long stage c (elements w) _ a e
  zip_index_long u (number z) w a e = lists_long u (z ∷ []) (elements w) a e

  like_it : (s : Shape) (v w : Value) (r : Result (List ℤ) Fault) → ((a : List ℤ) → r ≡ Ok a → HasShape s (with_elements v a)) → like funs stage x v r ≡ Ok w → HasShape s w
  like_it s v w r h e =
      let g = got r (λ a. Ok (with_elements v a)) w e in
      subst (HasShape s) (same_ok (with_elements v g.0) w g.2) (h g.0 g.1)

  one_is : (w : Value) (r : Result ℤ Fault) → one_number funs stage x r ≡ Ok w → HasShape shape.Number w
  one_is w r e =
      let g = got r (λ z. Ok (number z)) w e in
      subst (HasShape shape.Number) (same_ok (number g.0) w g.2) tt

  module _ (p : Program) (t : Table) (shaped : AreShaped p t) where
    at_line : (needed : Need) (k : ℕ) → IsLine p needed k → HasShape (shape_at p k) (value_of t k)
    at_line needed k line = lines_have_shapes p t needed k shaped line

    step_shape : (s : DataStep) (w : Value) → IsStep funs p s → step_on funs stage x t s ≡ Ok w → HasShape (shape_after p s) w
    step_shape (Array b) w h e = subst (HasShape (shape.Array b)) (same_ok (list b x) w e) refl
    step_shape (ArrayAt b at len) w h e =
        let g = got (cut funs stage x at len) (λ a. Ok (list b a)) w e in
        subst (HasShape (shape.Array b)) (same_ok (list b g.0) w g.2) refl
    step_shape (Matrix r c gr gc at) w h e =
        let g = got (cut funs stage x at (r * c)) (λ a. Ok (matrix (extent r c gr gc) a)) w e in
        subst (HasShape (shape.Matrix r c gr gc)) (same_ok (matrix (extent r c gr gc) g.0) w g.2) (refl, cut_long at (r * c) g.0 g.1)
    step_shape (Map u k) w h e = like_it _ (value_of t k) w _ (λ a f. kept _ (value_of t k) a (at_line _ k h.1) (each_long (length (elements (value_of t k))) _ a f)) e
    step_shape (MapIndex u k) w h e = like_it _ (value_of t k) w _ (λ a f. kept _ (value_of t k) a (at_line _ k h.1) (index_long (used funs stage x t u) (value_of t k) a f)) e
    step_shape (Zip u k l) w h e =
        like_it _ (value_of t k) w _ (λ a f. kept _ (value_of t k) a (at_line _ k h.1) (pair_long stage (elements (value_of t k)) (elements (value_of t l)) _ a f)) e
    step_shape (ZipIndex u k l) w h e =
        like_it _ (value_of t k) w _ (λ a f. kept _ (value_of t k) a (at_line _ k h.1) (zip_index_long (used funs stage x t u) (value_of t k) (value_of t l) a f)) e
    step_shape (Fold op k) w h e = one_is w _ e
    step_shape (Scan op k) w h e = like_it _ (value_of t k) w _ (λ a f. kept_array _ (value_of t k) a h.1.suits (at_line _ k h.1)) e
    step_shape (Foldl u first k) w h e = one_is w _ e
    step_shape (PermutePartition u k) w h e = like_it _ (value_of t k) w _ (λ a f. kept_array _ (value_of t k) a h.1.suits (at_line _ k h.1)) e
    step_shape (Permute u k) w h e = like_it _ (value_of t k) w _ (λ a f. kept_array _ (value_of t k) a h.1.suits (at_line _ k h.1)) e
    step_shape (BroadcastPartition j k) w h e = like_it _ (value_of t k) w _ (λ a f. kept_array _ (value_of t k) a h.0.suits (at_line _ k h.0)) e
    step_shape (RotateRows u k) w h e =
        like_it _ (value_of t k) w _ (λ a f. kept_matrix _ (value_of t k) a h.1.suits (at_line _ k h.1) (rows_long (used funs stage x t u) stage (extent_of (value_of t k)) (elements (value_of t k)) a f)) e
    step_shape (RotateCols u k) w h e =
        like_it _ (value_of t k) w _ (λ a f. kept_matrix _ (value_of t k) a h.1.suits (at_line _ k h.1) (cols_long (used funs stage x t u) stage (extent_of (value_of t k)) (elements (value_of t k)) a f)) e
    step_shape (Transpose k) w h e = subst (HasShape (turned (shape_at p k))) (same_ok _ w e) (turned_value (shape_at p k) (value_of t k) h.suits (at_line _ k h))

  line_shaped : (p : Program) (t : Table) (l : DataLine) (v : Value) → AreShaped p t → HasShape (shape_after p l.step) v → AreShaped (one_line p l) (t ++ v ∷ [])
  line_shaped p t l v h is = record {
    paired = omega (arith, length-append p.shapes (shape_after p l.step ∷ []), length-append p.lines (l ∷ []), h.paired);
    each = one_more p.shapes t (shape_after p l.step) v h.each is;
  }

  all_shaped : (ls : List DataLine) (p : Program) (t u : Table) → AreShaped p t → EachLineFits funs p ls → extended funs stage x t ls ≡ Ok u → AreShaped (program_of p ls) u
  all_shaped [] p t u h fit e = subst (AreShaped p) (same_ok t u e) h
  all_shaped (l ∷ ls) p t u h fit e =
      let g = got (step_on funs stage x t l.step) (λ v. extended funs stage x (t ++ v ∷ []) ls) u e in
      all_shaped ls (one_line p l) (t ++ g.0 ∷ []) u (line_shaped p t l g.0 h (step_shape p t h l.step g.0 fit.0.step g.1)) fit.1 g.2

module _ (funs : List Fun) where
  pub steps_keep_shapes : StepsKeepShapes funs
  steps_keep_shapes stage x p t s v h fit e = step_shape funs stage x p t h s v fit e

  pub programs_keep_shapes : ProgramsKeepShapes funs
  programs_keep_shapes stage x p t u ls h fit e = all_shaped funs stage x ls p t u h fit e
