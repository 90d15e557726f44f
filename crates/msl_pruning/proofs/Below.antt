-- What stands below a node: bounds that don't fall, and values that aren't below them.
use Rattle.std.proofs.Common.{◌≡◌, ℕ, Bool, true, false, not, ◌&&◌, ◌||◌, ◌==◌, ℤ, pos, List, [], ◌∷◌, ◌++◌, length, ◌<◌, Option, Some, None, Result, Ok, Err, IsTrue, refl, sym, ◌∙◌, subst, arith, append_assoc, append-nil}
use Rattle.std.specs.Prelude.{◌≤ℤ◌, int_lt, int_le, option_map, slice_get}
use Rattle.std.proofs.lemmas.Option.{slice_get-map, slice_get_within}
use Rattle.std.proofs.lemmas.Int.{ints}
use Rattle.msl_base.specs.Streams.{Record}
use Rattle.msl_base.specs.declared.fault.Fault.{Fault}
use Rattle.msl_base.specs.declared.fault.Fault.TheVariants.{Count, Depth}
use Rattle.msl_fun.specs.declared.funs.Fun.{Fun}
use Rattle.msl_fun.specs.Meaning.{holds, turns_of}
use Rattle.msl_lists.specs.Whole.{◌>>=◌}
use Rattle.msl_program.specs.Along.{Path, most_levels}
use Rattle.msl_program.specs.Calls.{number_by}
use Rattle.msl_program.specs.Searches.{Kind, solution, inner, Node, node, bound, children_in, children_of, further, is_below, is_droppable_for, most_children, node_behind, own, by_solved, refused_if}
use Rattle.msl_program.specs.declared.script.BnbSpec.{BnbSpec}
use Rattle.msl_program.proofs.TreeLaws.{some_one}

-- ---- integers

pub up : (a b c : ℤ) → a ≤ℤ b → b ≤ℤ c → a ≤ℤ c
up a b c p q = grind (arith, ints)

pub same : (a : ℤ) → a ≤ℤ a
same a = grind (arith, ints)

pub not_lower : (a b : ℤ) → int_lt a b ≡ false → b ≤ℤ a
not_lower a b h = grind (arith, ints)

pub lower : (a b : ℤ) → int_lt a b ≡ true → a ≤ℤ b
lower a b h = grind (arith, ints)

pub le_yes : (a b : ℤ) → IsTrue (int_le a b) → a ≤ℤ b
le_yes a b h = grind (arith, ints)

pub yes_le : (a b : ℤ) → a ≤ℤ b → IsTrue (int_le a b)
yes_le a b h = grind (arith, ints)

-- ---- one after the other

pub bind_ok : {A B : Type 0} (r : Result A Fault) (go : A → Result B Fault) (y : B) → (r >>= go) ≡ Ok y → (a : A) × (r ≡ Ok a) × (go a ≡ Ok y)
bind_ok (Ok a) go y e = (a, refl, e)
bind_ok (Err f) go y e = cc

pub refused_ok : {A : Type 0} (t : Bool) (f : Fault) (r : Result A Fault) (y : A) → refused_if t f r ≡ Ok y → (t ≡ false) × (r ≡ Ok y)
refused_ok true f r y e = cc
refused_ok false f r y e = (refl, e)

pub ok_one : {A : Type 0} {a b : A} → ◌≡◌ {A = Result A Fault} (Ok a) (Ok b) → a ≡ b
ok_one e = cc

-- ---- tests

first_true : (s t : Bool) → IsTrue (s && t) → IsTrue s
first_true true t h = refl
first_true false t h = h

second_true : (s t : Bool) → IsTrue (s && t) → IsTrue t
second_true true t h = h
second_true false t h = cc

both_true : (s t : Bool) → IsTrue s → IsTrue t → IsTrue (s && t)
both_true true t g h = h
both_true false t g h = g

-- ---- children

pub further_some : (o : Option Node) (go : Node → Option Node) (r : Node) → further o go ≡ Some r → (c : Node) × (o ≡ Some c) × (go c ≡ Some r)
further_some None go r e = cc
further_some (Some c) go r e = (c, refl, e)

-- how many children
abbrev pub many : Result Kind Fault → ℕ
many (Ok (inner low xs)) = length xs
many (Ok (solution v)) = 0
many (Err f) = 0

-- c is child k
pub record IsChild (own_kind : Result Kind Fault) (k : ℕ) (c : Node) : Type 0 where
  pub low : ℤ
  pub all : List Record
  pub numbers : Record
  pub own_is : own_kind ≡ Ok (inner low all)
  pub within : k < many own_kind
  pub node_is : c ≡ node numbers (Some low)

child_at : (low : ℤ) (xs : List Record) (k : ℕ) (c : Node) (o : Option Record) → slice_get xs k ≡ o → option_map (λ y. node y (Some low)) o ≡ Some c → IsChild (Ok (inner low xs)) k c
child_at low xs k c None is e = cc
child_at low xs k c (Some y) is e = record { low = low; all = xs; numbers = y; own_is = refl; within = slice_get_within xs k y is; node_is = sym (some_one e) }

pub child_of : (r : Result Kind Fault) (k : ℕ) (c : Node) → slice_get (children_in r) k ≡ Some c → IsChild r k c
child_of (Err f) k c e = cc
child_of (Ok (solution v)) k c e = cc
child_of (Ok (inner low xs)) k c e = child_at low xs k c (slice_get xs k) refl (sym (slice_get-map (λ y. node y (Some low)) xs k) ∙ e)

-- ---- a node without a fault

-- the value isn't below the bound, and that of an inner node is its own
abbrev pub IsFrom : ℤ → Kind → Type 0
IsFrom low (solution v) = low ≤ℤ v
IsFrom low (inner l xs) = l ≡ low

record From (low : ℤ) (r : Result Kind Fault) : Type 0 where
  of : (k : Kind) → r ≡ Ok k → IsFrom low k

module _ (funs : List Fun) (b : BnbSpec) (stage : ℕ) where
  pub record HasBound (p : Node) (k : Kind) : Type 0 where
    pub low : ℤ
    pub is_low : bound funs b stage p.numbers ≡ Ok low
    pub climbs : is_below low p.above ≡ false
    pub kind : IsFrom low k

  record Bounded (p : Node) (r : Result Kind Fault) : Type 0 where
    of : (k : Kind) → r ≡ Ok k → HasBound p k

  from_bind : {A : Type 0} (low : ℤ) (r : Result A Fault) (go : A → Result Kind Fault) → ((a : A) → From low (go a)) → From low (r >>= go)
  from_bind low (Ok a) go h = h a
  from_bind low (Err f) go h = record { of = λ k e. cc }

  from_refused : (low : ℤ) (t : Bool) (f : Fault) (r : Result Kind Fault) → (t ≡ false → From low r) → From low (refused_if t f r)
  from_refused low true f r h = record { of = λ k e. cc }
  from_refused low false f r h = h refl

  from_solution : (low v : ℤ) → int_lt v low ≡ false → From low (Ok (solution v))
  from_solution low v n = record { of = λ k e. subst (IsFrom low) (ok_one e) (not_lower v low n) }

  from_inner : (low : ℤ) (xs : List Record) → From low (Ok (inner low xs))
  from_inner low xs = record { of = λ k e. subst (IsFrom low) (ok_one e) refl }

  from_kinds : (q : Path) (x : Record) (low : ℤ) (t : Bool) → From low (by_solved funs b stage t q x low)
  from_kinds q x low true = from_bind low (number_by funs stage b.value x) _ (λ v. from_refused low (int_lt v low) _ _ (λ n. from_refused low _ _ _ (λ _. from_solution low v n)))
  from_kinds q x low false =
      from_bind low (number_by funs stage b.count x) _ (λ c.
      from_refused low (int_lt c (pos 0) || int_lt (pos most_children) c) (Count stage) _ (λ _.
      from_refused low (int_lt (pos 0) c && (length q == most_levels)) (Depth stage q) _ (λ _.
      from_bind low (children_of funs b stage x (turns_of c)) _ (λ xs. from_inner low xs))))

  bounded_bind : (p : Node) (r : Result ℤ Fault) (go : ℤ → Result Kind Fault) → ((low : ℤ) → r ≡ Ok low → Bounded p (go low)) → Bounded p (r >>= go)
  bounded_bind p (Ok a) go h = h a refl
  bounded_bind p (Err f) go h = record { of = λ k e. cc }

  bounded_refused : (p : Node) (t : Bool) (f : Fault) (r : Result Kind Fault) → (t ≡ false → Bounded p r) → Bounded p (refused_if t f r)
  bounded_refused p true f r h = record { of = λ k e. cc }
  bounded_refused p false f r h = h refl

  bounded : (p : Node) (low : ℤ) (r : Result Kind Fault) → bound funs b stage p.numbers ≡ Ok low → is_below low p.above ≡ false → From low r → Bounded p r
  bounded p low r is climbs h = record { of = λ k e. record { low = low; is_low = is; climbs = climbs; kind = h.of k e } }

  bounds : (q : Path) (p : Node) → Bounded p (own funs b stage q p)
  bounds q p =
      bounded_bind p (bound funs b stage p.numbers) _ (λ low is. bounded_refused p (is_below low p.above) _ _ (λ climbs.
      bounded p low _ is climbs (from_bind low (number_by funs stage b.solved p.numbers) _ (λ s. from_kinds q p.numbers low (holds s)))))

  pub has_bound : (q : Path) (p : Node) (k : Kind) → own funs b stage q p ≡ Ok k → HasBound p k
  has_bound q p k e = (bounds q p).of k e

  -- ---- below a node

  -- the bound of the node, where it is one that keeps the law, isn't below v
  abbrev pub IsFromOn : ℤ → Node → Type 0
  IsFromOn v p = (low : ℤ) → bound funs b stage p.numbers ≡ Ok low → is_below low p.above ≡ false → v ≤ℤ low

  droppable_from : (v : ℤ) (p : Node) (r : Result ℤ Fault) → bound funs b stage p.numbers ≡ r → IsTrue (is_droppable_for funs b stage v p r) → IsFromOn v p
  droppable_from v p (Err f) is h = cc
  droppable_from v p (Ok low) is h = λ l is_l climbs. subst (λ (z : ℤ). v ≤ℤ z) (ok_one (sym is ∙ is_l)) (le_yes v low (first_true (int_le v low) _ h))

  pub is_droppable_from : (v : ℤ) (p : Node) → IsTrue (is_droppable_for funs b stage v p (bound funs b stage p.numbers)) → IsFromOn v p
  is_droppable_from v p h = droppable_from v p (bound funs b stage p.numbers) refl h

  -- what may be dropped for a value may be for a lesser one
  drops_for : (v w : ℤ) (p : Node) (r : Result ℤ Fault) → v ≤ℤ w → IsTrue (is_droppable_for funs b stage w p r) → IsTrue (is_droppable_for funs b stage v p r)
  drops_for v w p (Err f) less h = h
  drops_for v w p (Ok low) less h = both_true (int_le v low) _ (yes_le v low (up v w low less (le_yes w low (first_true (int_le w low) _ h)))) (second_true (int_le w low) _ h)

  pub still_droppable : (v w : ℤ) (p : Node) → v ≤ℤ w → IsTrue (is_droppable_for funs b stage w p (bound funs b stage p.numbers)) → IsTrue (is_droppable_for funs b stage v p (bound funs b stage p.numbers))
  still_droppable v w p less h = drops_for v w p (bound funs b stage p.numbers) less h

  pub droppable_by : (v low : ℤ) (p : Node) → bound funs b stage p.numbers ≡ Ok low → is_below low p.above ≡ false → v ≤ℤ low → IsTrue (is_droppable_for funs b stage v p (bound funs b stage p.numbers))
  droppable_by v low p is climbs less =
      subst (λ (r : Result ℤ Fault). IsTrue (is_droppable_for funs b stage v p r)) (sym is) (both_true (int_le v low) _ (yes_le v low less) (subst (λ t. IsTrue (not t)) (sym climbs) refl))

  pub value_from : (v w : ℤ) (q : Path) (p : Node) → IsFromOn v p → own funs b stage q p ≡ Ok (solution w) → v ≤ℤ w
  value_from v w q p from e = let h = has_bound q p (solution w) e in up v h.low w (from h.low h.is_low h.climbs) h.kind

  from_child : (v low : ℤ) (xs : List Record) (y : Record) (q : Path) (p : Node) → own funs b stage q p ≡ Ok (inner low xs) → IsFromOn v p → IsFromOn v (node y (Some low))
  from_child v low xs y q p is from l is_l climbs =
      let h = has_bound q p (inner low xs) is in
      up v low l (subst (λ (z : ℤ). v ≤ℤ z) (sym h.kind) (from h.low h.is_low h.climbs)) (not_lower l low climbs)

  -- no value below the node is less than v
  pub value_below : (rest : List ℕ) (v w : ℤ) (q : Path) (p r : Node) → node_behind (own funs b stage) rest q p ≡ Some r → IsFromOn v p → own funs b stage (q ++ rest) r ≡ Ok (solution w) → v ≤ℤ w
  value_below [] v w q p r e from is =
      value_from v w q p from (subst (λ (n : Node). own funs b stage q n ≡ Ok (solution w)) (sym (some_one e)) (subst (λ (t : Path). own funs b stage t r ≡ Ok (solution w)) (append-nil q) is))
  value_below (k ∷ rest) v w q p r e from is =
      let step = further_some (slice_get (children_in (own funs b stage q p)) k) _ r e in
      let c = child_of (own funs b stage q p) k step.0 step.1 in
      value_below rest v w (q ++ k ∷ []) step.0 r step.2
      (subst (IsFromOn v) (sym c.node_is) (from_child v c.low c.all c.numbers q p c.own_is from))
      (subst (λ (t : Path). own funs b stage t r ≡ Ok (solution w)) (sym (append_assoc q (k ∷ []) rest)) is)
