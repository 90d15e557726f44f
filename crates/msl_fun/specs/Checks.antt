-- The rules on one function, over those before it.
use Rattle.std.specs.Prelude.{◌≡◌, ℕ, suc, ◌+◌, ◌<◌, ◌≤◌, max, Bool, false, ◌&&◌, ◌==◌, nat_lt, not, pos, int_le, List, [], ◌∷◌, ◌++◌, length, take, Option, Some, None, option_map, map, slice_get, slice_index_or, IsTrue, if◌then◌else◌}
use Rattle.std.specs.List.{list_all}
use Rattle.msl_base.specs.declared.limits.TheConstants.{GREATEST_NUMBER, MOST_DEPTH, MOST_FUNS, MOST_NAMES, MOST_PARAMS, MOST_RANK, MOST_RESULTS}
use Rattle.msl_fun.specs.declared.expr.Expr.{Expr, Row_of-Expr, end_of-Expr, more_of-Expr}
use Rattle.msl_fun.specs.declared.expr.Expr.TheVariants.{Lit, Slot, Call'}
use Rattle.msl_fun.specs.declared.funs.Fun.{Fun}
use Rattle.msl_base.specs.Names.{Text, is_among, are_distinct}
use Rattle.msl_lex.specs.Names.{is_name}
use Rattle.msl_fun.specs.Shapes.{minus, opposite, binary, choice, binding, looping}

-- ---- depth and rank

abbrev mutual
  -- 1 for a literal or a variable, else one more than the greatest of its parts
  pub depth : Expr → ℕ
  depth (Lit n) = 1
  depth (Slot k) = 1
  depth (minus a) = suc (depth a)
  depth (opposite a) = suc (depth a)
  depth (binary op a b) = suc (max (depth a) (depth b))
  depth (choice c a b) = suc (max (depth c) (max (depth a) (depth b)))
  depth (binding a b) = suc (max (depth a) (depth b))
  depth (looping n s e) = suc (max (depth n) (max (depth s) (depth e)))
  depth (Call' f _ args) = suc (greatest_depth args)

  pub greatest_depth : {n : _} → Row_of-Expr n → ℕ
  greatest_depth end_of-Expr = 0
  greatest_depth (more_of-Expr e es) = max (depth e) (greatest_depth es)

module _ (rank : ℕ → ℕ) where
  abbrev mutual
    -- the greatest rank of the functions that are called
    pub rank_called : Expr → ℕ
    rank_called (Lit n) = 0
    rank_called (Slot k) = 0
    rank_called (minus a) = rank_called a
    rank_called (opposite a) = rank_called a
    rank_called (binary op a b) = max (rank_called a) (rank_called b)
    rank_called (choice c a b) = max (rank_called c) (max (rank_called a) (rank_called b))
    rank_called (binding a b) = max (rank_called a) (rank_called b)
    rank_called (looping n s e) = max (rank_called n) (max (rank_called s) (rank_called e))
    rank_called (Call' f _ args) = max (rank f) (rank_called_by args)

    pub rank_called_by : {n : _} → Row_of-Expr n → ℕ
    rank_called_by end_of-Expr = 0
    rank_called_by (more_of-Expr e es) = max (rank_called e) (rank_called_by es)

abbrev pub greatest : (Expr → ℕ) → List Expr → ℕ
greatest f [] = 0
greatest f (e ∷ es) = max (f e) (greatest f es)

-- the ranks of functions, each one more than the greatest of those that it calls
abbrev pub ranks_from : List ℕ → List Fun → List ℕ
ranks_from known [] = known
ranks_from known (f ∷ fs) = ranks_from (known ++ suc (greatest (rank_called (λ k. slice_index_or known k 0)) f.results) ∷ []) fs

abbrev pub rank_of : List Fun → ℕ → ℕ
rank_of funs k = slice_index_or (ranks_from [] funs) k 0

-- ---- scopes and calls

-- how many parameters and results a function has
abbrev pub widths_of : List Fun → ℕ → Option (ℕ × ℕ)
widths_of funs f = option_map (λ g. (length g.params, length g.results)) (slice_get funs f)

-- so many arguments fit, and there is one result
abbrev pub takes : Option (ℕ × ℕ) → ℕ → Bool
takes None n = false
takes (Some w) n = (w.0 == n) && (w.1 == 1)

abbrev pub and_then : Option (List Text) → (List Text → Option (List Text)) → Option (List Text)
and_then None go = None
and_then (Some names) go = go names

abbrev pub where_true : Bool → Option (List Text) → Option (List Text)
where_true b names = if b then names else None

-- the first name comes into this scope
abbrev pub bind : List Text → List Text → (Text → List Text → Option (List Text)) → Option (List Text)
bind scope [] go = None
bind scope (n ∷ names) go = where_true (is_name n && not (is_among scope n) && nat_lt (length scope) MOST_NAMES) (go n names)

module _ (funs : List Fun) where
  -- An expression in a scope takes the names that it binds from the front of a list, in the order of the text. What is left of the list, where all rules hold.
  abbrev mutual
    pub names_after : Expr → List Text → List Text → Option (List Text)
    names_after (Lit n) scope names = where_true (int_le (pos 0) n && int_le n (pos GREATEST_NUMBER)) (Some names)
    names_after (Slot k) scope names = where_true (nat_lt k (length scope)) (Some names)
    names_after (minus a) scope names = names_after a scope names
    names_after (opposite a) scope names = names_after a scope names
    names_after (binary op a b) scope names = and_then (names_after a scope names) (names_after b scope)
    names_after (choice c a b) scope names = and_then (names_after c scope names) (λ m. and_then (names_after a scope m) (names_after b scope))
    names_after (binding a b) scope names = bind scope names (λ n rest. and_then (names_after a scope rest) (names_after b (scope ++ n ∷ [])))
    names_after (looping n s e) scope names =
        bind scope names (λ i rest. and_then (names_after n scope rest)
        (λ m. bind (scope ++ i ∷ []) m (λ a more. and_then (names_after s scope more) (names_after e (scope ++ i ∷ a ∷ [])))))
    names_after (Call' f _ args) scope names = where_true (takes (widths_of funs f) (count_of args)) (names_after_all args scope names)

    pub names_after_all : {n : _} → Row_of-Expr n → List Text → List Text → Option (List Text)
    names_after_all end_of-Expr scope names = Some names
    names_after_all (more_of-Expr e es) scope names = and_then (names_after e scope names) (names_after_all es scope)

    pub count_of : {n : _} → Row_of-Expr n → ℕ
    count_of end_of-Expr = 0
    count_of (more_of-Expr e es) = count_of es + 1

  abbrev pub names_after_results : List Expr → List Text → List Text → Option (List Text)
  names_after_results [] scope names = Some names
  names_after_results (e ∷ es) scope names = and_then (names_after e scope names) (names_after_results es scope)

-- ---- functions

abbrev pub names_of : List Fun → List Text
names_of funs = map (λ f. f.name) funs

-- a function may stand after these
pub record MayFollow (funs : List Fun) (f : Fun) : Type 0 where
  pub few_funs : length funs < MOST_FUNS
  pub name : IsTrue (is_name f.name && not (is_among (names_of funs) f.name))
  pub params : IsTrue (list_all is_name f.params && are_distinct f.params)
  pub some_params : 1 ≤ length f.params
  pub few_params : length f.params ≤ MOST_PARAMS
  pub some_results : 1 ≤ length f.results
  pub few_results : length f.results ≤ MOST_RESULTS
  -- every name is used up
  pub bodies : names_after_results funs f.results f.params f.names ≡ Some []
  pub depth : greatest depth f.results ≤ MOST_DEPTH
  pub rank : suc (greatest (rank_called (rank_of funs)) f.results) ≤ MOST_RANK

-- each may stand after those before it
pub record AreFuns (funs : List Fun) : Type 0 where
  pub each : (k : ℕ) (f : Fun) → slice_get funs k ≡ Some f → MayFollow (take k funs) f
