-- The node behind a path, by its parent.
use Rattle.std.proofs.Common.{◌≡◌, ℕ, ℤ, pos, List, [], ◌∷◌, ◌++◌, Some, None, Result, Ok, Err, sym, ap, ◌∙◌}
use Rattle.std.specs.Prelude.{slice_get}
use Rattle.msl_base.specs.Streams.{Record, Outcome}
use Rattle.msl_base.specs.declared.answer.Halt.{Halt}
use Rattle.msl_base.specs.declared.answer.Halt.TheVariants as halt
use Rattle.msl_base.specs.declared.fault.Fault.{Fault}
use Rattle.msl_bounding.specs.Nodes.{Tells, low_of}
use Rattle.msl_fun.specs.declared.funs.Fun.{Fun}
use Rattle.msl_lists.specs.Whole.{◌>>=◌}
use Rattle.msl_program.specs.Along.{Path, along}
use Rattle.msl_program.specs.Calls.{run}
use Rattle.msl_program.specs.Searches.{inner, Node, node, bound, children_in, own, reached}
use Rattle.msl_program.specs.declared.script.BnbSpec.{BnbSpec}
use Rattle.msl_program.proofs.AlongLaws.{goes_along}
use Rattle.msl_program.proofs.BranchLaws.{reaches_children, has_numbers_along}
use Rattle.msl_pruning.proofs.Below.{child_of, further_some, has_bound, ok_one}

-- what is wanted has no fault
pub tells_ok : {A : Type 0} (B : Type 0) (want : Result A Fault) (a c : A) (why : Halt) → want ≡ Ok a → Tells {B = B} want (Ok c) why → c ≡ a
tells_ok B want a c why is h = ok_one (sym h ∙ is)

pub tells_err : {A B : Type 0} (want : Result A Fault) (a : A) (e : B) (why : Halt) → want ≡ Ok a → Tells want (Err e) why → ⊥
tells_err want a e (halt.Fault f) is h = let clash : Ok a ≡ Err f = sym is ∙ h in cc
tells_err want a e halt.NoMemory is h = h

module _ (funs : List Fun) (b : BnbSpec) (stage : ℕ) (root : Record) where
  -- the child of a node
  pub record HasParent (front : Path) (last : ℕ) (p : Node) : Type 0 where
    pub parent : Record
    pub low : ℤ
    pub is_parent : along funs stage b.branch root front ≡ Ok parent
    pub is_low : bound funs b stage parent ≡ Ok low
    pub is_child : run funs stage b.branch (parent ++ pos last ∷ []) ≡ Ok p.numbers
    pub is_above : p.above ≡ Some low

  parent_is : (front : Path) (last : ℕ) (p m : Node) → reached funs b stage root (front ++ last ∷ []) ≡ Some p → reached funs b stage root front ≡ Some m
      → slice_get (children_in (own funs b stage front m)) last ≡ Some p → HasParent front last p
  parent_is front last p m at at_parent at_child =
      let c = child_of (own funs b stage front m) last p at_child in
      let bounded = has_bound funs b stage front m (inner c.low c.all) c.own_is in
      let met = has_numbers_along funs b stage root front m at_parent in
      record {
        parent = m.numbers;
        low = bounded.low;
        is_parent = met;
        is_low = bounded.is_low;
        is_child =
            sym (goes_along funs stage b.branch root front last ∙ ap (λ (r : Outcome). r >>= λ y. run funs stage b.branch (y ++ pos last ∷ [])) met)
            ∙ has_numbers_along funs b stage root (front ++ last ∷ []) p at;
        is_above = ap (λ (n : Node). n.above) c.node_is ∙ ap Some bounded.kind;
      }

  pub has_parent : (front : Path) (last : ℕ) (p : Node) → reached funs b stage root (front ++ last ∷ []) ≡ Some p → HasParent front last p
  has_parent front last p at =
      let step = further_some (reached funs b stage root front) _ p (sym (reaches_children funs b stage root front last) ∙ at) in
      parent_is front last p step.0 at step.1 step.2

  -- the bound of a node, tested against none
  pub low_alone : (q : Path) (x : Record) (low : ℤ) → bound funs b stage x ≡ Ok low → low_of funs b stage q (node x None) ≡ Ok low
  low_alone q x low is = ap (λ (r : Result ℤ Fault). r >>= λ l. Ok l) is

  pub child_is : (p : Node) (y : Record) (low : ℤ) → p.numbers ≡ y → p.above ≡ Some low → node y (Some low) ≡ p
  child_is p y low is above = λ i. node (sym is i) (sym above i)
