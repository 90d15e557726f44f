-- Where nothing is left, the best so far is an answer.
use Rattle.std.proofs.Common.{◌≡◌, ◌⊎◌, ℕ, ℤ, List, [], ◌∷◌, ◌++◌, length, Contains, Some, None, Result, Ok, Err, inl, inr, refl, sym, ap, ◌∙◌, subst, arith, append_assoc, append-nil}
use Rattle.std.specs.Prelude.{◌≤ℤ◌, slice_get}
use Rattle.std.proofs.Math.Seq.{take-append_seam, take-length}
use Rattle.std.proofs.lemmas.List.Elements.{All-contains}
use Rattle.msl_base.specs.Covers.{Split, split, split_paths, Covers, ComesUp}
use Rattle.msl_base.specs.Streams.{Record}
use Rattle.msl_base.specs.declared.fault.Fault.{Fault}
use Rattle.msl_cover.proofs.Covers.{is_kept, root_comes_up, child_comes_up, contains-split}
use Rattle.msl_fun.specs.declared.funs.Fun.{Fun}
use Rattle.msl_program.specs.Along.{Path}
use Rattle.msl_program.specs.Searches.{Kind, solution, inner, Node, node, children_in, further, node_behind, own, reached, IsAnswer, IsCutOff, IsDroppable}
use Rattle.msl_program.specs.declared.script.BnbSpec.{BnbSpec}
use Rattle.msl_program.proofs.BranchLaws.{reaches_children}
use Rattle.msl_program.proofs.TreeLaws.{some_one}
use Rattle.msl_pruning.specs.Pruned.{Best, outcome_of, IsDropped, IsDone, IsShut, IsSplit, HasPruned}
use Rattle.msl_pruning.proofs.Below.{child_of, further_some, is_droppable_from, many, ok_one, value_below, value_from}

module _ (funs : List Fun) (b : BnbSpec) (stage : ℕ) (root : Record) where
  -- the node lies at or below one that is dropped for the best
  abbrev IsBelow : Best → Path → Node → Type 0
  IsBelow None q r = ⊥
  IsBelow (Some best) q r = IsCutOff funs b stage root q best.0 × ((w : ℤ) → own funs b stage q r ≡ Ok (solution w) → best.0 ≤ℤ w)

  below : (best : Best) (rest q : Path) (p r : Node) → reached funs b stage root q ≡ Some p → node_behind (own funs b stage) rest q p ≡ Some r → IsDropped funs b stage best p → IsBelow best (q ++ rest) r
  below None rest q p r at e h = absurd h
  below (Some best) rest q p r at e h = (
    (length q, subst (λ t. IsDroppable funs b stage root t best.0) (sym (take-append_seam q rest)) (p, at, h)),
    (λ w is. value_below funs b stage rest best.0 w q p r e (is_droppable_from funs b stage best.0 p h) is),
  )

  module _ (best : Best) (splits : List Split) (shut : List (List ℕ)) (covers : Covers splits shut) (h : HasPruned funs b stage root best splits shut) where
    -- ---- what is known of a node that comes up

    module _ (q : Path) (p : Node) (at : reached funs b stage root q ≡ Some p) where
      -- it was split
      record IsParted : Type 0 where
        parted : Split
        is_in : Contains splits parted
        path_is : parted.path ≡ q
        low : ℤ
        all : List Record
        own_is : own funs b stage q p ≡ Ok (inner low all)
        count_is : length all ≡ parted.count

      parted_at : (s : Split) → Contains splits s → s.path ≡ q → IsSplit funs b stage root (split q s.count) → IsParted
      parted_at s is_in path_is (n, at_n, (low, xs, own_is, count_is)) = record {
        parted = s;
        is_in = is_in;
        path_is = path_is;
        low = low;
        all = xs;
        own_is = subst (λ (m : Node). own funs b stage q m ≡ Ok (inner low xs)) (some_one (sym at_n ∙ at)) own_is;
        count_is = count_is;
      }

      is_parted : Contains (split_paths splits) q → IsParted
      is_parted is_in =
          let s = contains-split q splits is_in in
          parted_at s.0 s.1 s.2 (subst (λ (t : Path). IsSplit funs b stage root (split t s.0.count)) s.2 (All-contains (IsSplit funs b stage root) splits s.0 h.are_split s.1))

      -- it was shut
      is_done : Contains shut q → IsDone funs b stage best q p
      is_done is_in =
          let d = All-contains (IsShut funs b stage root best) shut q h.are_shut is_in in
          subst (IsDone funs b stage best q) (some_one (sym d.1 ∙ at)) d.2

      known : ComesUp splits q → IsParted ⊎ IsDone funs b stage best q p
      known up = elim (is_kept splits shut q covers up) [ inl s ↦ inl (is_parted s) | inr d ↦ inr (is_done d) ]

    -- ---- down a path

    module _ (k : ℕ) (rest q : Path) (p c r : Node) (at : reached funs b stage root q ≡ Some p) (is_child : slice_get (children_in (own funs b stage q p)) k ≡ Some c)
        (behind : node_behind (own funs b stage) (k ∷ rest) q p ≡ Some r) where
      child_up : (s : IsParted q p at) → ComesUp splits (q ++ k ∷ [])
      child_up s =
          let d = child_of (own funs b stage q p) k c is_child in
          let all : many (own funs b stage q p) ≡ length s.all = ap many s.own_is in
          subst (λ (t : Path). ComesUp splits (t ++ k ∷ [])) s.path_is (child_comes_up splits s.parted k s.is_in (omega (arith, d.within, all, s.count_is)))

      done_below : IsDone funs b stage best q p → IsBelow best (q ++ k ∷ rest) r
      done_below (inl (v, is, _)) = let d = child_of (own funs b stage q p) k c is_child in let none : many (own funs b stage q p) ≡ 0 = ap many is in absurd (omega (arith, d.within, none))
      done_below (inr (inl (low, is))) = let d = child_of (own funs b stage q p) k c is_child in let none : many (own funs b stage q p) ≡ 0 = ap many is in absurd (omega (arith, d.within, none))
      done_below (inr (inr dropped)) = below best (k ∷ rest) q p r at behind dropped

    walk : (rest q : Path) (p r : Node) → reached funs b stage root q ≡ Some p → node_behind (own funs b stage) rest q p ≡ Some r → ComesUp splits q
        → ComesUp splits (q ++ rest) ⊎ IsBelow best (q ++ rest) r
    walk [] q p r at e up = inl (subst (ComesUp splits) (sym (append-nil q)) up)
    walk (k ∷ rest) q p r at e up =
        let step = further_some (slice_get (children_in (own funs b stage q p)) k) _ r e in
        elim (known q p at up) [
          | inl s ↦ subst (λ (t : Path). ComesUp splits t ⊎ IsBelow best t r) (append_assoc q (k ∷ []) rest)
              (walk rest (q ++ k ∷ []) step.0 r (reaches_children funs b stage root q k ∙ ap (λ o. further o (λ n. slice_get (children_in (own funs b stage q n)) k)) at ∙ step.1) step.2
              (child_up k rest q p step.0 r at step.1 e s))
          | inr d ↦ inr (done_below k rest q p step.0 r at step.1 e d)
        ]

    -- ---- the ends

    -- the node was split, is done, or lies below one that is dropped
    settled : (q : Path) (r : Node) (at : reached funs b stage root q ≡ Some r) → (IsParted q r at ⊎ IsDone funs b stage best q r) ⊎ IsBelow best q r
    settled q r at = elim (walk q [] (node root None) r refl at (root_comes_up splits)) [ inl up ↦ inl (known q r at up) | inr below ↦ inr below ]

  -- ---- the answer

  value_is : {v w : ℤ} → solution v ≡ solution w → v ≡ w
  value_is e = cc

  solution_is : (q : Path) (r : Node) (v w : ℤ) → own funs b stage q r ≡ Ok (solution v) → own funs b stage q r ≡ Ok (solution w) → v ≡ w
  solution_is q r v w is was = value_is (ok_one (sym is ∙ was))

  no_inner : (q : Path) (r : Node) (w low : ℤ) (xs : List Record) → own funs b stage q r ≡ Ok (solution w) → own funs b stage q r ≡ Ok (inner low xs) → ⊥
  no_inner q r w low xs is was = let e : ◌≡◌ {A = Result Kind Fault} (Ok (solution w)) (Ok (inner low xs)) = sym is ∙ was in cc

  no_fault : (q : Path) (r : Node) (f : Fault) (k : Kind) → own funs b stage q r ≡ Err f → own funs b stage q r ≡ Ok k → ⊥
  no_fault q r f k is was = let e : ◌≡◌ {A = Result Kind Fault} (Err f) (Ok k) = sym is ∙ was in cc

  module _ (splits : List Split) (shut : List (List ℕ)) (covers : Covers splits shut) where
    module _ (h : HasPruned funs b stage root None splits shut) where
      no_solution : (q : Path) (r : Node) (w : ℤ) (at : reached funs b stage root q ≡ Some r) → own funs b stage q r ≡ Ok (solution w)
          → (IsParted None splits shut covers h q r at ⊎ IsDone funs b stage None q r) ⊎ IsBelow None q r → ⊥
      no_solution q r w at is (inl (inl s)) = no_inner q r w s.low s.all is s.own_is
      no_solution q r w at is (inl (inr (inl (v, was, none)))) = none
      no_solution q r w at is (inl (inr (inr (inl (low, was))))) = no_inner q r w low [] is was
      no_solution q r w at is (inl (inr (inr (inr none)))) = none
      no_solution q r w at is (inr none) = none

      never_faults : (q : Path) (r : Node) (f : Fault) (at : reached funs b stage root q ≡ Some r) → own funs b stage q r ≡ Err f
          → (IsParted None splits shut covers h q r at ⊎ IsDone funs b stage None q r) ⊎ IsBelow None q r → ⊥
      never_faults q r f at is (inl (inl s)) = no_fault q r f _ is s.own_is
      never_faults q r f at is (inl (inr (inl (v, was, none)))) = none
      never_faults q r f at is (inl (inr (inr (inl (low, was))))) = no_fault q r f _ is was
      never_faults q r f at is (inl (inr (inr (inr none)))) = none
      never_faults q r f at is (inr none) = none

    module _ (best : ℤ × Record) (h : HasPruned funs b stage root (Some best) splits shut) where
      not_less : (q : Path) (r : Node) (w : ℤ) (at : reached funs b stage root q ≡ Some r) → own funs b stage q r ≡ Ok (solution w)
          → (IsParted (Some best) splits shut covers h q r at ⊎ IsDone funs b stage (Some best) q r) ⊎ IsBelow (Some best) q r → best.0 ≤ℤ w
      not_less q r w at is (inl (inl s)) = absurd (no_inner q r w s.low s.all is s.own_is)
      not_less q r w at is (inl (inr (inl (v, was, most)))) = subst (λ (z : ℤ). best.0 ≤ℤ z) (solution_is q r v w was is) most
      not_less q r w at is (inl (inr (inr (inl (low, was))))) = absurd (no_inner q r w low [] is was)
      not_less q r w at is (inl (inr (inr (inr dropped)))) = value_from funs b stage best.0 w q r (is_droppable_from funs b stage best.0 r dropped) is
      not_less q r w at is (inr below) = below.1 w is

      cut_off : (q : Path) (r : Node) (f : Fault) (at : reached funs b stage root q ≡ Some r) → own funs b stage q r ≡ Err f
          → (IsParted (Some best) splits shut covers h q r at ⊎ IsDone funs b stage (Some best) q r) ⊎ IsBelow (Some best) q r → IsCutOff funs b stage root q best.0
      cut_off q r f at is (inl (inl s)) = absurd (no_fault q r f _ is s.own_is)
      cut_off q r f at is (inl (inr (inl (v, was, most)))) = absurd (no_fault q r f _ is was)
      cut_off q r f at is (inl (inr (inr (inl (low, was))))) = absurd (no_fault q r f _ is was)
      cut_off q r f at is (inl (inr (inr (inr dropped)))) = (length q, subst (λ t. IsDroppable funs b stage root t best.0) (sym (take-length q)) (r, at, dropped))
      cut_off q r f at is (inr below) = below.0

    pub prunes : (best : Best) → HasPruned funs b stage root best splits shut → IsAnswer funs b stage root (outcome_of best)
    prunes None h = record {
      none = λ q z w s. no_solution h q s.0 w s.1 s.2.1 (settled None splits shut covers h q s.0 s.1);
      whole = λ q f s. never_faults h q s.0 f s.1 s.2 (settled None splits shut covers h q s.0 s.1);
    }
    prunes (Some best) h = record {
      found = h.is_found;
      least = λ q z w s. not_less best h q s.0 w s.1 s.2.1 (settled (Some best) splits shut covers h q s.0 s.1);
      faults = λ q f s. cut_off best h q s.0 f s.1 s.2 (settled (Some best) splits shut covers h q s.0 s.1);
    }
