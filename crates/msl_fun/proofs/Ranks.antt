-- What the ranks of functions are: of the functions that an expression calls, by the variant of the code, and of one more function.
use Rattle.std.proofs.Common.{◌≡◌, ℕ, suc, ◌+◌, max, List, [], ◌∷◌, ◌++◌, length, get_or, refl, ap, sym, ◌∙◌, arith, length-append, ◌⊎◌, inl, inr, ◌≤◌, ◌-◌, ⊎_elim, length-take}
use Rattle.std.proofs.lemmas.Option.{slice_get_cases}
use Rattle.msl_fun.specs.declared.expr.BinOp.{BinOp}
use Rattle.msl_fun.specs.declared.expr.Expr.{Expr, Row_of-Expr, end_of-Expr, more_of-Expr, items-the_row-Expr, items_hidden-the_row-Expr-1}
use Rattle.msl_fun.specs.declared.expr.Expr.TheVariants.{Neg, Not, Bin, If, Let, Loop, Call}
use Rattle.msl_fun.specs.declared.expr.Expr.TheBlock as block
use Rattle.msl_fun.specs.declared.funs.Fun.{Fun}
use Rattle.msl_fun.specs.Checks.{AreFuns, rank_called, rank_called_by, greatest, ranks_from}
use Rattle.msl_fun.proofs.Nodes.{row_of}

-- ---- expressions

module _ (rank : ℕ → ℕ) where
  pub one_part : (e a : Expr) → (e ≡ Neg a) ⊎ (e ≡ Not a) → rank_called rank a ≡ rank_called rank e
  unfolding block.shape-the_row-Expr-0 block.hidden-the_row-Expr-0 denote.Hole.Carrier.hidden
  one_part e a (inl p) = sym (ap (rank_called rank) p)
  one_part e a (inr p) = sym (ap (rank_called rank) p)

  pub two_parts : (e a b : Expr) → ((op : BinOp) × (e ≡ Bin op a b)) ⊎ (e ≡ Let a b) → max (rank_called rank a) (rank_called rank b) ≡ rank_called rank e
  unfolding block.shape-the_row-Expr-0 block.hidden-the_row-Expr-0 denote.Hole.Carrier.hidden
  two_parts e a b (inl p) = sym (ap (rank_called rank) p.1)
  two_parts e a b (inr p) = sym (ap (rank_called rank) p)

  pub three_parts : (e a b d : Expr) → (e ≡ If a b d) ⊎ (e ≡ Loop a b d) → max (rank_called rank a) (max (rank_called rank b) (rank_called rank d)) ≡ rank_called rank e
  unfolding block.shape-the_row-Expr-0 block.hidden-the_row-Expr-0 denote.Hole.Carrier.hidden
  three_parts e a b d (inl p) = sym (ap (rank_called rank) p)
  three_parts e a b d (inr p) = sym (ap (rank_called rank) p)

  -- the arguments of a call, as a row
  row_rank : (n : _) (row : Row_of-Expr n) → rank_called_by rank row ≡ greatest (rank_called rank) (items-the_row-Expr n row)
  row_rank n end_of-Expr = refl
  row_rank n (more_of-Expr e es) = ap (max (rank_called rank e)) (row_rank _ es)

  pub arguments : (e : Expr) (f : ℕ) (args : List Expr) → e ≡ Call f args → max (rank f) (greatest (rank_called rank) args) ≡ rank_called rank e
  arguments e f args is =
      let row = row_of (Call f args) in
      let all = row_rank row.0 row.1 ∙ ap (greatest (rank_called rank)) (items_hidden-the_row-Expr-1 args) in
      sym (ap (rank_called rank) is ∙ ap (max (rank f)) all)

-- ---- functions

-- the rank of one more function
abbrev pub next_rank : List ℕ → Fun → ℕ
next_rank ranks f = suc (greatest (rank_called (λ k. get_or ranks k 0)) f.results)

-- it is found from the results
pub next_is : (f : Fun) (known ranks : List ℕ) (es : List Expr) (n : ℕ) → n ≡ greatest (rank_called (λ k. get_or ranks k 0)) es → ranks ≡ known → es ≡ f.results → n + 1 ≡ next_rank known f
next_is f known ranks es n is same results =
    let m = ap (λ (ranks : List ℕ). greatest (rank_called (λ k. get_or ranks k 0)) es) same ∙ ap (greatest (rank_called (λ k. get_or known k 0))) results in
    omega (arith, is, m)

pub ranks_added : (known : List ℕ) (funs : List Fun) (f : Fun) → ranks_from known (funs ++ f ∷ []) ≡ ranks_from known funs ++ next_rank (ranks_from known funs) f ∷ []
ranks_added known [] f = refl
ranks_added known (g ∷ funs) f = ranks_added (known ++ next_rank known g ∷ []) funs f

pub length-ranks : (known : List ℕ) (funs : List Fun) → length (ranks_from known funs) ≡ length known + length funs
length-ranks known [] = omega arith
length-ranks known (f ∷ funs) = omega (arith, length-append known (next_rank known f ∷ []), length-ranks (known ++ next_rank known f ∷ []) funs)

-- there are at most 256
pub few : (funs : List Fun) → AreFuns funs → length funs ≤ 256
few funs rules =
    ⊎_elim
    (λ last. omega (arith, (rules.each (length funs - 1) last.0 last.2).few_funs, length-take (length funs - 1) funs))
    (λ none. omega (arith, none.0))
    (slice_get_cases funs (length funs - 1)).1
