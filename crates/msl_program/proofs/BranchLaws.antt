-- The nodes of a search: their numbers along their paths, and how many children they have.
use Rattle.std.proofs.Common.{◌≡◌, ◌≤◌, ℕ, Bool, true, false, ◌||◌, ℤ, pos, negsuc, List, [], ◌∷◌, ◌++◌, length, map, Option, Some, None, Result, Ok, Err, refl, sym, ap, ◌∙◌, arith, ltb-false, zero-le}
use Rattle.std.specs.Prelude.{slice_get, int_lt, option_map}
use Rattle.std.proofs.lemmas.List.{length-map}
use Rattle.std.proofs.lemmas.Option.{slice_get-map, slice_get_within, get_or_from_slice_get}
use Rattle.msl_base.specs.declared.fault.Fault.{Fault}
use Rattle.msl_base.specs.declared.fault.Fault.TheVariants.{Count}
use Rattle.msl_base.specs.Streams.{Record, Outcome}
use Rattle.msl_fun.specs.Meaning.{turns_of, holds}
use Rattle.msl_fun.specs.declared.funs.Fun.{Fun}
use Rattle.msl_lists.specs.Whole.{◌>>=◌}
use Rattle.msl_program.specs.Calls.{run, number_by}
use Rattle.msl_program.specs.Along.{Path, along}
use Rattle.msl_program.specs.declared.script.BnbSpec.{BnbSpec}
use Rattle.msl_program.specs.Searches.{Kind, solution, inner, Node, node, refused_if, children_in, further, node_behind, own, by_solved, bound, children_of, most_children}
use Rattle.msl_program.specs.RunLaws.{ReachesChildren, HasNumbersAlong, IsShallow, HasFewChildren}
use Rattle.msl_program.proofs.TreeLaws.{some_one, one_further}
use Rattle.msl_program.proofs.BestOfLaws.{shallow}
use Rattle.msl_lists.proofs.WholeParts.{each_values}

second_false : (a b : Bool) → (a || b) ≡ false → b ≡ false
second_false true b h = cc
second_false false b h = h

-- a count that is not refused
few_turns : (c : ℤ) → (int_lt c (pos 0) || int_lt (pos most_children) c) ≡ false → turns_of c ≤ most_children
few_turns (pos n) h = ltb-false 64 n (second_false (int_lt (pos n) (pos 0)) (int_lt (pos most_children) (pos n)) h)
few_turns (negsuc n) h = zero-le

module _ (funs : List Fun) (b : BnbSpec) (stage : ℕ) where
  -- few children, each with the numbers that `branch` gives
  record Branches (x : Record) (r : Result Kind Fault) : Type 0 where
    few : length (children_in r) ≤ most_children
    each : (k : ℕ) (c : Node) → slice_get (children_in r) k ≡ Some c → run funs stage b.branch (x ++ pos k ∷ []) ≡ Ok c.numbers

  of_fault : (x : Record) (f : Fault) → Branches x (Err f)
  of_fault x f = record { few = zero-le; each = λ k c e. cc }

  of_solution : (x : Record) (v : ℤ) → Branches x (Ok (solution v))
  of_solution x v = record { few = zero-le; each = λ k c e. cc }

  of_bind : {A : Type 0} (x : Record) (r : Result A Fault) (go : A → Result Kind Fault) → ((a : A) → Branches x (go a)) → Branches x (r >>= go)
  of_bind x (Ok a) go h = h a
  of_bind x (Err f) go h = of_fault x f

  of_refused : (x : Record) (t : Bool) (f : Fault) (r : Result Kind Fault) → Branches x r → Branches x (refused_if t f r)
  of_refused x true f r h = of_fault x f
  of_refused x false f r h = h

  child : (low : ℤ) (c : Node) (m : Outcome) (o : Option Record) → ((y : Record) → o ≡ Some y → m ≡ Ok y) → option_map (λ y. node y (Some low)) o ≡ Some c → m ≡ Ok c.numbers
  child low c m None h e = cc
  child low c m (Some y) h e = h y refl ∙ ap (λ (p : Node). Ok p.numbers) (some_one e)

  of_inner : (x : Record) (low : ℤ) (n : ℕ) (xs : List Record) → n ≤ most_children → children_of funs b stage x n ≡ Ok xs → Branches x (Ok (inner low xs))
  of_inner x low n xs few e =
      let same : length (map (λ (y : Record). node y (Some low)) xs) ≡ length xs = length-map xs _ in
      let values = each_values n (λ k. run funs stage b.branch (x ++ pos k ∷ [])) xs e in
      record {
        few = omega (arith, same, values.0, few);
        each = λ k c is. child low c (run funs stage b.branch (x ++ pos k ∷ [])) (slice_get xs k)
            (λ y at. values.1 k y (omega (arith, slice_get_within xs k y at, values.0)) ∙ ap (λ (z : Record). Ok z) (get_or_from_slice_get xs k y y at))
            (sym (slice_get-map (λ y. node y (Some low)) xs k) ∙ is);
      }

  of_children : (x : Record) (low : ℤ) (n : ℕ) (r : Result (List Record) Fault) → n ≤ most_children → children_of funs b stage x n ≡ r → Branches x (r >>= λ xs. Ok (inner low xs))
  of_children x low n (Ok xs) few e = of_inner x low n xs few e
  of_children x low n (Err f) few e = of_fault x f

  of_count : (x : Record) (low c : ℤ) (t u : Bool) (deep : Fault) → (int_lt c (pos 0) || int_lt (pos most_children) c) ≡ t
      → Branches x (refused_if t (Count stage) (refused_if u deep (children_of funs b stage x (turns_of c) >>= λ xs. Ok (inner low xs))))
  of_count x low c true u deep e = of_fault x (Count stage)
  of_count x low c false u deep e = of_refused x u deep _ (of_children x low (turns_of c) (children_of funs b stage x (turns_of c)) (few_turns c e) refl)

  of_kinds : (q : Path) (x : Record) (low : ℤ) (t : Bool) → Branches x (by_solved funs b stage t q x low)
  of_kinds q x low true = of_bind x (number_by funs stage b.value x) _ (λ v. of_refused x (int_lt v low) _ _ (of_refused x _ _ _ (of_solution x v)))
  of_kinds q x low false = of_bind x (number_by funs stage b.count x) _ (λ c. of_count x low c _ _ _ refl)

  branches : (q : Path) (p : Node) → Branches p.numbers (own funs b stage q p)
  branches q p =
      of_bind p.numbers (bound funs b stage p.numbers) _ (λ low. of_refused p.numbers _ _ _
      (of_bind p.numbers (number_by funs stage b.solved p.numbers) _ (λ s. of_kinds q p.numbers low (holds s))))

  through_child : (k : ℕ) (rest q : Path) (p r : Node) → ((c : Node) → node_behind (own funs b stage) rest (q ++ k ∷ []) c ≡ Some r → along funs stage b.branch c.numbers rest ≡ Ok r.numbers)
      → (o : Option Node) → slice_get (children_in (own funs b stage q p)) k ≡ o → further o (node_behind (own funs b stage) rest (q ++ k ∷ [])) ≡ Some r
      → (run funs stage b.branch (p.numbers ++ pos k ∷ []) >>= λ y. along funs stage b.branch y rest) ≡ Ok r.numbers
  through_child k rest q p r deeper None is e = cc
  through_child k rest q p r deeper (Some c) is e = ap (λ (m : Outcome). m >>= λ y. along funs stage b.branch y rest) ((branches q p).each k c is) ∙ deeper c e

  numbers_along : (rest q : Path) (p r : Node) → node_behind (own funs b stage) rest q p ≡ Some r → along funs stage b.branch p.numbers rest ≡ Ok r.numbers
  numbers_along [] q p r e = ap (λ (n : Node). Ok n.numbers) (some_one e)
  numbers_along (k ∷ rest) q p r e =
      through_child k rest q p r (λ c f. numbers_along rest (q ++ k ∷ []) c r f) (slice_get (children_in (own funs b stage q p)) k) refl e

module _ (funs : List Fun) (b : BnbSpec) where
  pub reaches_children : ReachesChildren funs b
  reaches_children stage x q k = one_further (own funs b stage) q [] k (node x None)

  pub has_numbers_along : HasNumbersAlong funs b
  has_numbers_along stage x q p e = numbers_along funs b stage q [] (node x None) p e

  pub is_shallow : IsShallow funs b
  is_shallow stage x q p e = let m = shallow funs b stage q [] (node x None) p e (zero-le {n = 64}) in omega (arith, m)

  pub has_few_children : HasFewChildren funs b
  has_few_children stage q p = (branches funs b stage q p).few
