-- What a node is, of what became of its tests.
use Rattle.std.proofs.Common.{◌≡◌, ℕ, ◌+◌, ◌-◌, ◌<◌, ◌==◌, Bool, true, false, ◌&&◌, ◌||◌, ℤ, pos, List, [], ◌∷◌, ◌++◌, length, Result, Ok, Err, refl, sym, ap, ap₂, ◌∙◌, arith}
use Rattle.std.specs.Prelude.{int_lt}
use Rattle.msl_base.specs.Streams.{Record}
use Rattle.msl_base.specs.declared.fault.Fault.{Fault}
use Rattle.msl_base.specs.declared.fault.Fault.TheVariants.{BoundBroken, Count, Depth, Value}
use Rattle.msl_fun.specs.declared.funs.Fun.{Fun}
use Rattle.msl_fun.specs.Meaning.{holds, same, turns_of}
use Rattle.msl_lists.specs.Whole.{◌>>=◌, each}
use Rattle.msl_lists.specs.WholeLaws.{both}
use Rattle.msl_lists.proofs.WholeParts.{each_parts}
use Rattle.msl_program.specs.Along.{Path, most_levels}
use Rattle.msl_program.specs.Calls.{number_by, run}
use Rattle.msl_program.specs.Searches.{Kind, solution, inner, Node, bound, by_solved, children_of, is_below, most_children, own, refused_if}
use Rattle.msl_program.specs.declared.script.BnbSpec.{BnbSpec}
use Rattle.msl_bounding.specs.Nodes.{low_of, found_by, found, kind_of}
use Rattle.msl_bounding.specs.declared.bounding.Found.TheVariants.{Solution, Children}

-- ---- one after the other

bind_bind : {A B C : Type 0} (r : Result A Fault) (f : A → Result B Fault) (g : B → Result C Fault) (h : A → Result C Fault) → ((a : A) → (f a >>= g) ≡ h a) → ((r >>= f) >>= g) ≡ (r >>= h)
bind_bind (Ok a) f g h e = e a
bind_bind (Err k) f g h e = refl

refused_bind : {A B : Type 0} (t : Bool) (k : Fault) (r : Result A Fault) (g : A → Result B Fault) → (refused_if t k r >>= g) ≡ refused_if t k (r >>= g)
refused_bind true k r g = refl
refused_bind false k r g = refl

-- ---- place by place

module _ {A : Type 0} (f : ℕ → Result A Fault) where
  one : (k : ℕ) (r : Result A Fault) → f k ≡ r → each 1 (λ i. f (k + i)) ≡ (r >>= λ x. Ok (x ∷ []))
  one k r e = ap (λ (q : Result A Fault). q >>= λ x. Ok (x ∷ [])) (ap f (omega arith) ∙ e)

  each_next : (k : ℕ) (xs : List A) (y : A) → each k f ≡ Ok xs → f k ≡ Ok y → each (k + 1) f ≡ Ok (xs ++ y ∷ [])
  each_next k xs y all more = each_parts k 1 f ∙ ap₂ both all (one k (Ok y) more)

  each_fault : (n k : ℕ) (xs : List A) (e : Fault) → k < n → each k f ≡ Ok xs → f k ≡ Err e → each n f ≡ Err e
  each_fault n k xs e lt all more =
      let front : each (k + 1) f ≡ Err e = each_parts k 1 f ∙ ap₂ both all (one k (Err e) more) in
      let rest = each (n - (k + 1)) (λ i. f (k + 1 + i)) in
      ap (λ m. each m f) (omega (arith, lt)) ∙ each_parts (k + 1) (n - (k + 1)) f ∙ ap (λ q. both q rest) front

module _ (funs : List Fun) (b : BnbSpec) (stage : ℕ) where
  valued_kind : (x : Record) (low v : ℤ) (s t : Bool) (k l : Fault)
      → (refused_if s k (refused_if t l (Ok (Solution v))) >>= kind_of funs b stage x low) ≡ refused_if s k (refused_if t l (Ok (solution v)))
  valued_kind x low v true t k l = refl
  valued_kind x low v false true k l = refl
  valued_kind x low v false false k l = refl

  counted_kind : (x : Record) (low : ℤ) (n : ℕ) (s t : Bool) (k l : Fault)
      → (refused_if s k (refused_if t l (Ok (Children n))) >>= kind_of funs b stage x low) ≡ refused_if s k (refused_if t l (children_of funs b stage x n >>= λ xs. Ok (inner low xs)))
  counted_kind x low n true t k l = refl
  counted_kind x low n false true k l = refl
  counted_kind x low n false false k l = refl

  found_kind : (q : Path) (x : Record) (low : ℤ) (s : Bool) → (found_by funs b stage s q x low >>= kind_of funs b stage x low) ≡ by_solved funs b stage s q x low
  found_kind q x low true = bind_bind (number_by funs stage b.value x) _ _ _ (λ v.
      valued_kind x low v (int_lt v low) (same v (pos 9223372036854775807)) (BoundBroken stage q) (Value stage q))
  found_kind q x low false = bind_bind (number_by funs stage b.count x) _ _ _ (λ c.
      counted_kind x low (turns_of c) (int_lt c (pos 0) || int_lt (pos most_children) c) (int_lt (pos 0) c && (length q == most_levels)) (Count stage) (Depth stage q))

  -- the node is what is found of it behind its bound, with its children
  pub own_is : (q : Path) (p : Node)
      → own funs b stage q p ≡ (low_of funs b stage q p >>= λ low. found funs b stage q p.numbers low >>= kind_of funs b stage p.numbers low)
  own_is q p = sym (bind_bind (bound funs b stage p.numbers) _ _ _ (λ low.
      refused_bind (is_below low p.above) _ (Ok low) (λ l. found funs b stage q p.numbers l >>= kind_of funs b stage p.numbers l)
      ∙ ap (refused_if (is_below low p.above) (BoundBroken stage q)) (bind_bind (number_by funs stage b.solved p.numbers) _ _ _ (λ s. found_kind q p.numbers low (holds s)))))

  module _ (q : Path) (p : Node) where
    abbrev behind : ℤ → Result Kind Fault
    behind low = found funs b stage q p.numbers low >>= kind_of funs b stage p.numbers low

    -- its bound has a fault
    pub own_low_fault : (f : Fault) → low_of funs b stage q p ≡ Err f → own funs b stage q p ≡ Err f
    own_low_fault f e = own_is q p ∙ ap (λ r. r >>= behind) e

    own_behind : (low : ℤ) → low_of funs b stage q p ≡ Ok low → own funs b stage q p ≡ behind low
    own_behind low e = own_is q p ∙ ap (λ r. r >>= behind) e

    module _ (low : ℤ) (is_low : low_of funs b stage q p ≡ Ok low) where
      -- what is found behind its bound is a fault
      pub own_found_fault : (f : Fault) → found funs b stage q p.numbers low ≡ Err f → own funs b stage q p ≡ Err f
      own_found_fault f e = own_behind low is_low ∙ ap (λ r. r >>= kind_of funs b stage p.numbers low) e

      -- it is a solution
      pub own_solution : (v : ℤ) → found funs b stage q p.numbers low ≡ Ok (Solution v) → own funs b stage q p ≡ Ok (solution v)
      own_solution v e = own_behind low is_low ∙ ap (λ r. r >>= kind_of funs b stage p.numbers low) e

      module _ (n : ℕ) (is_inner : found funs b stage q p.numbers low ≡ Ok (Children n)) where
        pub own_children : own funs b stage q p ≡ (children_of funs b stage p.numbers n >>= λ xs. Ok (inner low xs))
        own_children = own_behind low is_low ∙ ap (λ r. r >>= kind_of funs b stage p.numbers low) is_inner

        -- it has all its children
        pub own_inner : (xs : List Record) → children_of funs b stage p.numbers n ≡ Ok xs → own funs b stage q p ≡ Ok (inner low xs)
        own_inner xs e = own_children ∙ ap (λ (r : Result (List Record) Fault). r >>= λ ys. Ok (inner low ys)) e

        -- one of them has a fault
        pub own_child_fault : (f : Fault) → children_of funs b stage p.numbers n ≡ Err f → own funs b stage q p ≡ Err f
        own_child_fault f e = own_children ∙ ap (λ (r : Result (List Record) Fault). r >>= λ ys. Ok (inner low ys)) e

  -- ---- child by child

  module _ (x : Record) where
    pub children_none : children_of funs b stage x 0 ≡ Ok []
    children_none = refl

    -- one child more
    pub children_next : (k : ℕ) (xs : List Record) (y : Record) → children_of funs b stage x k ≡ Ok xs → run funs stage b.branch (x ++ pos k ∷ []) ≡ Ok y
        → children_of funs b stage x (k + 1) ≡ Ok (xs ++ y ∷ [])
    children_next k xs y all more = each_next (λ j. run funs stage b.branch (x ++ pos j ∷ [])) k xs y all more

    -- the first child that has a fault
    pub children_fault : (n k : ℕ) (xs : List Record) (f : Fault) → k < n → children_of funs b stage x k ≡ Ok xs → run funs stage b.branch (x ++ pos k ∷ []) ≡ Err f
        → children_of funs b stage x n ≡ Err f
    children_fault n k xs f lt all more = each_fault (λ j. run funs stage b.branch (x ++ pos j ∷ [])) n k xs f lt all more
