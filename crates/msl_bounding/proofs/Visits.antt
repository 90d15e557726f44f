-- What visits leave of the best so far, node by node.
use Rattle.std.proofs.Common.{◌≡◌, ℕ, suc, ◌+◌, ◌-◌, ◌<◌, ◌==◌, true, ℤ, List, [], ◌∷◌, ◌++◌, length, get_or, drop, Some, None, Result, Ok, Err, refl, sym, ap, ◌∙◌, arith, length-append}
use Rattle.std.proofs.lemmas.Bool.Decides.{nat_tests}
use Rattle.std.specs.Result.{IsErrAnd}
use Rattle.std.proofs.lemmas.List.{at_drop_more}
use Rattle.msl_base.specs.Streams.{Record}
use Rattle.msl_base.specs.declared.answer.Halt.{Halt}
use Rattle.msl_base.specs.declared.answer.Halt.TheVariants as halt
use Rattle.msl_base.specs.declared.fault.Fault.{Fault}
use Rattle.msl_fun.specs.Meaning.{params_of}
use Rattle.msl_fun.specs.declared.funs.Fun.{Fun}
use Rattle.msl_lists.specs.Whole.{◌>>=◌}
use Rattle.msl_program.specs.Along.{Path, most_levels}
use Rattle.msl_program.specs.declared.script.BnbSpec.{BnbSpec}
use Rattle.msl_program.specs.Searches.{Kind, solution, inner, Node, node, Visit, all_from, children_in, children_of, first_best, first_best_outcome, outcome_by, preorder_by}
use Rattle.msl_bounding.specs.Nodes.{Tells, Leaves, low_of, found}
use Rattle.msl_bounding.specs.Visits.{Best, better_by, best_after, best_below, answer_of, own_by, visits, visits_from}
use Rattle.msl_bounding.specs.declared.bounding.Bounding.{Bounding}
use Rattle.msl_bounding.specs.declared.bounding.Found.TheVariants.{Solution, Children}
use Rattle.msl_bounding.proofs.Nodes.{own_low_fault, own_found_fault, own_solution, own_children}

-- ---- a fault is handed on

module _ {A B C D E : Type 0} (want : Result A Fault) (more : Result C Fault) (left : C) (b : B) (on : (f : Fault) → want ≡ Err f → more ≡ Err f) where
  -- told by one call, it is told by the next
  pub told_on : (Q : E → Type 0) (r : Result D E) (why : Halt) → IsErrAnd r Q → Tells {B = B} want (Err b) why → Leaves more left r why
  told_on Q (Ok d) why e h = absurd e
  told_on Q (Err c) (halt.Fault f) e h = on f h
  told_on Q (Err c) halt.NoMemory e h = absurd h

  pub left_on : (Q : E → Type 0) (G : Type 0) (old : A) (r : Result D E) (why : Halt) → IsErrAnd r Q → Leaves {B = G} want old (Err b) why → Leaves more left r why
  left_on Q G old (Ok d) why e h = absurd e
  left_on Q G old (Err c) (halt.Fault f) e h = on f h
  left_on Q G old (Err c) halt.NoMemory e h = absurd h

module _ (s : Bounding) where
  -- ---- one visit after the other

  after_append : (best : Best) (vs ws : List Visit) → best_after s best (vs ++ ws) ≡ (best_after s best vs >>= λ b. best_after s b ws)
  after_append best [] ws = refl
  after_append best ((y, Err f) ∷ vs) ws = refl
  after_append best ((y, Ok k) ∷ vs) ws = after_append (better_by s best y k) vs ws

  -- the answer is that of the best after all visits
  answer_after : (best : Best) (vs : List Visit) → first_best s.calls s.spec.now s.stage best vs ≡ (best_after s best vs >>= answer_of s)
  answer_after best [] = refl
  answer_after None ((y, Err f) ∷ vs) = refl
  answer_after (Some b) ((y, Err f) ∷ vs) = refl
  answer_after None ((y, Ok k) ∷ vs) = answer_after (better_by s None y k) vs
  answer_after (Some b) ((y, Ok k) ∷ vs) = answer_after (better_by s (Some b) y k) vs

  seen_all : (x : Record) → length x ≡ params_of s.calls s.spec.now.bound
      → first_best_outcome s.calls s.spec.now s.stage x ≡ (best_after s None (visits s [] (node x None)) >>= answer_of s)
  seen_all x wide =
      let tested : (length x == params_of s.calls s.spec.now.bound) ≡ true = grind (arith, nat_tests, wide) in
      ap (λ t. outcome_by s.calls s.spec.now s.stage t x) tested ∙ answer_after None (visits s [] (node x None))

  -- the answer of the whole search
  pub outcome_is : (funs : List Fun) (b : BnbSpec) (stage : ℕ) (x : Record) → s.calls ≡ funs → s.spec.now ≡ b → s.stage ≡ stage → length x ≡ params_of funs b.bound
      → first_best_outcome funs b stage x ≡ (best_after s None (visits s [] (node x None)) >>= answer_of s)
  outcome_is funs b stage x is_funs is_spec is_stage wide =
      ap (λ (f : List Fun). first_best_outcome f b stage x) (sym is_funs)
      ∙ ap (λ (c : BnbSpec). first_best_outcome s.calls c stage x) (sym is_spec)
      ∙ ap (λ n. first_best_outcome s.calls s.spec.now n x) (sym is_stage)
      ∙ seen_all x (wide ∙ ap (λ (f : List Fun). params_of f b.bound) (sym is_funs) ∙ ap (λ (c : BnbSpec). params_of s.calls c.bound) (sym is_spec))

  -- ---- the visits of a node

  inner_leaves : (best : Best) (y : Record) (low : ℤ) (xs : List Record) → better_by s best y (inner low xs) ≡ best
  inner_leaves None y low xs = refl
  inner_leaves (Some b) y low xs = refl

  module _ (best : Best) (q : Path) (p : Node) where
    -- the node is so
    abbrev by_kind : Result Kind Fault → Result Best Fault
    by_kind r = best_after s best ((p.numbers, r) ∷ all_from (λ k. preorder_by (own_by s) (most_levels - length q) (q ++ k ∷ [])) 0 (children_in r))

    by_children : (low : ℤ) (r : Result (List Record) Fault) → by_kind (r >>= λ xs. Ok (inner low xs)) ≡ (r >>= λ xs. best_after s best (visits_from s q low 0 xs))
    by_children low (Err f) = refl
    by_children low (Ok xs) = ap (λ b. best_after s b (visits_from s q low 0 xs)) (inner_leaves best p.numbers low xs)

    pub low_faults : (f : Fault) → low_of s.calls s.spec.now s.stage q p ≡ Err f → best_after s best (visits s q p) ≡ Err f
    low_faults f e = ap by_kind (own_low_fault s.calls s.spec.now s.stage q p f e)

    module _ (low : ℤ) (is_low : low_of s.calls s.spec.now s.stage q p ≡ Ok low) where
      pub found_faults : (f : Fault) → found s.calls s.spec.now s.stage q p.numbers low ≡ Err f → best_after s best (visits s q p) ≡ Err f
      found_faults f e = ap by_kind (own_found_fault s.calls s.spec.now s.stage q p low is_low f e)

      pub found_solution : (v : ℤ) → found s.calls s.spec.now s.stage q p.numbers low ≡ Ok (Solution v) → best_after s best (visits s q p) ≡ Ok (better_by s best p.numbers (solution v))
      found_solution v e = ap by_kind (own_solution s.calls s.spec.now s.stage q p low is_low v e)

      pub found_children : (n : ℕ) → found s.calls s.spec.now s.stage q p.numbers low ≡ Ok (Children n) → best_after s best (visits s q p) ≡ best_below s best q p.numbers low n
      found_children n e = ap by_kind (own_children s.calls s.spec.now s.stage q p low is_low n e) ∙ by_children low (children_of s.calls s.spec.now s.stage p.numbers n)

  -- ---- the visits of children

  module _ (q : Path) (deep : length q < most_levels) (low : ℤ) where
    child_visits : (k : ℕ) (y : Record) → preorder_by (own_by s) (most_levels - length q) (q ++ k ∷ []) (node y (Some low)) ≡ visits s (q ++ k ∷ []) (node y (Some low))
    child_visits k y =
        let longer : length (q ++ k ∷ []) ≡ length q + 1 = length-append q (k ∷ []) in
        let levels : most_levels - length q ≡ suc (most_levels - length (q ++ k ∷ [])) = omega (arith, deep, longer) in
        ap (λ n. preorder_by (own_by s) n (q ++ k ∷ []) (node y (Some low))) levels

    -- one child and then the others
    pub next_child : (best : Best) (xs : List Record) (k : ℕ) → k < length xs
        → best_after s best (visits_from s q low k (drop k xs)) ≡ (best_after s best (visits s (q ++ k ∷ []) (node (get_or xs k []) (Some low))) >>= λ b. best_after s b (visits_from s q low (k + 1) (drop (k + 1) xs)))
    next_child best xs k lt =
        let rest = visits_from s q low (k + 1) (drop (k + 1) xs) in
        at_drop_more (λ ys. best_after s best (visits_from s q low k ys)) xs k [] lt
        ∙ ap (λ vs. best_after s best (vs ++ rest)) (child_visits k (get_or xs k []))
        ∙ after_append best (visits s (q ++ k ∷ []) (node (get_or xs k []) (Some low))) rest
