-- How reading goes on at the first token.
use Rattle.std.proofs.Common.{◌≡◌, ◌≢◌, ℕ, Bool, true, false, List, [], ◌∷◌, ◌++◌, drop, Some, None, Err, codes, pos, refl, sym, ◌∙◌, nat_lt}
use Rattle.msl_lex.specs.declared.kind.Kind.TheVariants.{Expected, Deep, Unknown}
use Rattle.msl_lex.specs.Lexemes.{Lexeme, close}
use Rattle.msl_fun.specs.declared.expr.BinOp.{BinOp}
use Rattle.msl_fun.specs.declared.expr.Expr.TheVariants.{Lit, Slot}
use Rattle.msl_fun.specs.declared.funs.Fun.{Fun}
use Rattle.msl_fun_read.specs.declared.parse.first.First.{First}
use Rattle.msl_fun_read.specs.declared.parse.first.First.TheVariants as first
use Rattle.msl_fun_read.specs.declared.parse.level.Level.{Level}
use Rattle.msl_fun_read.specs.declared.parse.level.Level.TheVariants as level
use Rattle.msl_fun.specs.Shapes.{minus, opposite}
use Rattle.msl_base.specs.Names.{Text}
use Rattle.msl_read.specs.Reading.{Refusal, says, place, failing, moved}
use Rattle.msl_read.specs.Front.{form, form_behind}
use Rattle.msl_fun_read.specs.Grammar.{State, Then, Context, Tree, Callee, token, expr, operand, more, arguments, deeper, first_in, fun_at, callee_tests, choice_rest, binding_rest, looping_rest, pair_rest, parenthesis_rest, call_rest, operator_in, second_operand, tighter, over_one, expr_by, unary_by, or_by, reading}
use Rattle.msl_read.specs.Front.{word_in, number_in}
use Rattle.msl_base.specs.Names.{place_among}

abbrev pub first_at : List Lexeme → First
first_at ts = first_in (form ts) (form_behind ts)

-- an `expr` or `unary` may begin here
abbrev pub begins_unary : First → Bool
begins_unary first.If = false
begins_unary first.Let = false
begins_unary first.Loop = false
begins_unary first.Nothing = false
begins_unary _ = true

abbrev pub begins_expr : First → Bool
begins_expr first.Nothing = false
begins_expr _ = true

module _ (funs : List Fun) (others : List Text) where
  pub token_taken : (ts : List Lexeme) (w : Text) (s : State) → says w (form ts) ≡ true → reading funs others ts (token w s) ≡ reading funs others (drop 1 ts) s
  token_taken [] w s h = cc
  token_taken (t ∷ ts) w s h = rw h refl

  pub token_refused : (ts : List Lexeme) (w : Text) (s : State) → says w (form ts) ≡ false → reading funs others ts (token w s) ≡ Err (Expected, place ts)
  token_refused [] w s h = refl
  token_refused (t ∷ ts) w s h = rw h refl

  module _ (c : Context) (ns : List Text) (k : Then) where
    -- ---- an `expr`

    pub expr_stops : (ts : List Lexeme) → first_at ts ≡ first.Nothing → reading funs others ts (expr c ns k) ≡ Err (Expected, place ts)
    expr_stops [] h = refl
    expr_stops (t ∷ ts) h = rw h refl

    expr_at_deep : (f : First) (t : Lexeme) (ts : List Lexeme) (behind : _) → begins_expr f ≡ true → nat_lt c.opened 256 ≡ false → moved (expr_by funs others f t c ns k) t ts behind ≡ Err (Deep, t.at)
    expr_at_deep first.If t ts behind b o = rw o refl
    expr_at_deep first.Let t ts behind b o = rw o refl
    expr_at_deep first.Loop t ts behind b o = rw o refl
    expr_at_deep first.Minus t ts behind b o = rw o refl
    expr_at_deep first.Not t ts behind b o = rw o refl
    expr_at_deep first.Number t ts behind b o = rw o refl
    expr_at_deep first.Variable t ts behind b o = rw o refl
    expr_at_deep first.Call t ts behind b o = rw o refl
    expr_at_deep (first.Pair op) t ts behind b o = rw o refl
    expr_at_deep first.Parenthesis t ts behind b o = rw o refl
    expr_at_deep first.Nothing t ts behind b o = cc

    pub expr_deep : (ts : List Lexeme) → begins_expr (first_at ts) ≡ true → nat_lt c.opened 256 ≡ false → reading funs others ts (expr c ns k) ≡ Err (Deep, place ts)
    expr_deep [] h o = cc
    expr_deep (t ∷ ts) h o = expr_at_deep _ t ts (reading funs others ts) h o

    pub expr_if : (ts : List Lexeme) → first_at ts ≡ first.If → nat_lt c.opened 256 ≡ true
        → reading funs others ts (expr c ns k) ≡ reading funs others (drop 1 ts) (choice_rest (deeper c) ns k)
    expr_if [] h o = cc
    expr_if (t ∷ ts) h o = rw (h, o) refl

    pub expr_let : (ts : List Lexeme) → first_at ts ≡ first.Let → nat_lt c.opened 256 ≡ true
        → reading funs others ts (expr c ns k) ≡ reading funs others (drop 1 ts) (binding_rest (deeper c) ns k)
    expr_let [] h o = cc
    expr_let (t ∷ ts) h o = rw (h, o) refl

    pub expr_loop : (ts : List Lexeme) → first_at ts ≡ first.Loop → nat_lt c.opened 256 ≡ true
        → reading funs others ts (expr c ns k) ≡ reading funs others (drop 1 ts) (looping_rest (deeper c) ns k)
    expr_loop [] h o = cc
    expr_loop (t ∷ ts) h o = rw (h, o) refl

    expr_at_operand : (f : First) (t : Lexeme) (ts : List Lexeme) (behind : _) → begins_unary f ≡ true → nat_lt c.opened 256 ≡ true
        → moved (expr_by funs others f t c ns k) t ts behind ≡ moved (or_by funs others f t (deeper c) ns k) t ts behind
    expr_at_operand first.If t ts behind b o = cc
    expr_at_operand first.Let t ts behind b o = cc
    expr_at_operand first.Loop t ts behind b o = cc
    expr_at_operand first.Minus t ts behind b o = rw o refl
    expr_at_operand first.Not t ts behind b o = rw o refl
    expr_at_operand first.Number t ts behind b o = rw o refl
    expr_at_operand first.Variable t ts behind b o = rw o refl
    expr_at_operand first.Call t ts behind b o = rw o refl
    expr_at_operand (first.Pair op) t ts behind b o = rw o refl
    expr_at_operand first.Parenthesis t ts behind b o = rw o refl
    expr_at_operand first.Nothing t ts behind b o = cc

    pub expr_operand : (ts : List Lexeme) → begins_unary (first_at ts) ≡ true → nat_lt c.opened 256 ≡ true
        → reading funs others ts (expr c ns k) ≡ reading funs others ts (operand level.Or (deeper c) ns k)
    expr_operand [] h o = refl
    expr_operand (t ∷ ts) h o = expr_at_operand _ t ts (reading funs others ts) h o

    -- ---- operators

    pub operand_tighter : (l : Level) (ts : List Lexeme) → l ≢ level.Unary
        → reading funs others ts (operand l c ns k) ≡ reading funs others ts (operand (tighter l) c ns (λ ms a. more l c ms a k))
    operand_tighter level.Unary ts h = absurd (h refl)
    operand_tighter level.Product [] h = refl
    operand_tighter level.Product (t ∷ ts) h = refl
    operand_tighter level.Sum [] h = refl
    operand_tighter level.Sum (t ∷ ts) h = refl
    operand_tighter level.Comparison [] h = refl
    operand_tighter level.Comparison (t ∷ ts) h = refl
    operand_tighter level.And [] h = refl
    operand_tighter level.And (t ∷ ts) h = refl
    operand_tighter level.Or [] h = refl
    operand_tighter level.Or (t ∷ ts) h = refl

    pub more_ends : (l : Level) (a : Tree) (ts : List Lexeme) → operator_in l (form ts) ≡ None
        → reading funs others ts (more l c ns a k) ≡ reading funs others ts (k ns a)
    more_ends l a [] h = refl
    more_ends l a (t ∷ ts) h = rw h refl

    no_operator : (l : Level) → operator_in l close ≡ None
    no_operator level.Unary = refl
    no_operator level.Product = refl
    no_operator level.Sum = refl
    no_operator level.Comparison = refl
    no_operator level.And = refl
    no_operator level.Or = refl

    pub more_goes : (l : Level) (a : Tree) (op : BinOp) (ts : List Lexeme) → operator_in l (form ts) ≡ Some op
        → reading funs others ts (more l c ns a k) ≡ reading funs others (drop 1 ts) (second_operand l op c ns a k)
    more_goes l a op [] h = let q = sym (no_operator l) ∙ h in cc
    more_goes l a op (t ∷ ts) h = rw h refl

    -- ---- a `unary`

    unary_at_stops : (f : First) (t : Lexeme) (ts : List Lexeme) (behind : _) → begins_unary f ≡ false → moved (unary_by funs others f t c ns k) t ts behind ≡ Err (Expected, t.at)
    unary_at_stops first.If t ts behind b = refl
    unary_at_stops first.Let t ts behind b = refl
    unary_at_stops first.Loop t ts behind b = refl
    unary_at_stops first.Minus t ts behind b = cc
    unary_at_stops first.Not t ts behind b = cc
    unary_at_stops first.Number t ts behind b = cc
    unary_at_stops first.Variable t ts behind b = cc
    unary_at_stops first.Call t ts behind b = cc
    unary_at_stops (first.Pair op) t ts behind b = cc
    unary_at_stops first.Parenthesis t ts behind b = cc
    unary_at_stops first.Nothing t ts behind b = refl

    pub unary_stops : (ts : List Lexeme) → begins_unary (first_at ts) ≡ false → reading funs others ts (operand level.Unary c ns k) ≡ Err (Expected, place ts)
    unary_stops [] h = refl
    unary_stops (t ∷ ts) h = unary_at_stops _ t ts (reading funs others ts) h

    unary_at_deep : (f : First) (t : Lexeme) (ts : List Lexeme) (behind : _) → begins_unary f ≡ true → nat_lt c.opened 256 ≡ false → moved (unary_by funs others f t c ns k) t ts behind ≡ Err (Deep, t.at)
    unary_at_deep first.If t ts behind b o = cc
    unary_at_deep first.Let t ts behind b o = cc
    unary_at_deep first.Loop t ts behind b o = cc
    unary_at_deep first.Minus t ts behind b o = rw o refl
    unary_at_deep first.Not t ts behind b o = rw o refl
    unary_at_deep first.Number t ts behind b o = rw o refl
    unary_at_deep first.Variable t ts behind b o = rw o refl
    unary_at_deep first.Call t ts behind b o = rw o refl
    unary_at_deep (first.Pair op) t ts behind b o = rw o refl
    unary_at_deep first.Parenthesis t ts behind b o = rw o refl
    unary_at_deep first.Nothing t ts behind b o = cc

    pub unary_deep : (ts : List Lexeme) → begins_unary (first_at ts) ≡ true → nat_lt c.opened 256 ≡ false → reading funs others ts (operand level.Unary c ns k) ≡ Err (Deep, place ts)
    unary_deep [] h o = cc
    unary_deep (t ∷ ts) h o = unary_at_deep _ t ts (reading funs others ts) h o

    pub unary_minus : (ts : List Lexeme) → first_at ts ≡ first.Minus → nat_lt c.opened 256 ≡ true
        → reading funs others ts (operand level.Unary c ns k) ≡ reading funs others (drop 1 ts) (operand level.Unary (deeper c) ns (λ ms a. k ms (over_one minus a)))
    unary_minus [] h o = cc
    unary_minus (t ∷ ts) h o = rw (h, o) refl

    pub unary_not : (ts : List Lexeme) → first_at ts ≡ first.Not → nat_lt c.opened 256 ≡ true
        → reading funs others ts (operand level.Unary c ns k) ≡ reading funs others (drop 1 ts) (operand level.Unary (deeper c) ns (λ ms a. k ms (over_one opposite a)))
    unary_not [] h o = cc
    unary_not (t ∷ ts) h o = rw (h, o) refl

    pub unary_pair : (op : BinOp) (ts : List Lexeme) → first_at ts ≡ first.Pair op → nat_lt c.opened 256 ≡ true
        → reading funs others ts (operand level.Unary c ns k) ≡ reading funs others (drop 1 ts) (pair_rest op (deeper c) ns k)
    unary_pair op [] h o = cc
    unary_pair op (t ∷ ts) h o = rw (h, o) refl

    pub unary_parenthesis : (ts : List Lexeme) → first_at ts ≡ first.Parenthesis → nat_lt c.opened 256 ≡ true
        → reading funs others ts (operand level.Unary c ns k) ≡ reading funs others (drop 1 ts) (parenthesis_rest (deeper c) ns k)
    unary_parenthesis [] h o = cc
    unary_parenthesis (t ∷ ts) h o = rw (h, o) refl

    pub unary_number : (ts : List Lexeme) → first_at ts ≡ first.Number → nat_lt c.opened 256 ≡ true
        → reading funs others ts (operand level.Unary c ns k) ≡ reading funs others (drop 1 ts) (k ns (Some (Lit (pos (number_in (form ts))))))
    unary_number [] h o = cc
    unary_number (t ∷ ts) h o = rw (h, o) refl

    pub unary_variable : (j : ℕ) (ts : List Lexeme) → first_at ts ≡ first.Variable → nat_lt c.opened 256 ≡ true → place_among c.scope (word_in (form ts)) ≡ Some j
        → reading funs others ts (operand level.Unary c ns k) ≡ reading funs others (drop 1 ts) (k ns (Some (Slot j)))
    unary_variable j [] h o p = cc
    unary_variable j (t ∷ ts) h o p = rw (h, o, p) refl

    pub unary_unknown : (ts : List Lexeme) → first_at ts ≡ first.Variable → nat_lt c.opened 256 ≡ true → place_among c.scope (word_in (form ts)) ≡ None
        → reading funs others ts (operand level.Unary c ns k) ≡ Err (Unknown, place ts)
    unary_unknown [] h o p = cc
    unary_unknown (t ∷ ts) h o p = rw (h, o, p) refl

    pub unary_call : (ts : List Lexeme) → first_at ts ≡ first.Call → nat_lt c.opened 256 ≡ true → failing (callee_tests funs others (place ts) (word_in (form ts))) ≡ None
        → reading funs others ts (operand level.Unary c ns k) ≡ reading funs others (drop 1 ts) (call_rest (record { fun = fun_at funs others (word_in (form ts)); at = place ts }) (deeper c) ns k)
    unary_call [] h o p = cc
    unary_call (t ∷ ts) h o p = rw (h, o, p) refl

    pub unary_no_call : (r : Refusal) (ts : List Lexeme) → first_at ts ≡ first.Call → nat_lt c.opened 256 ≡ true → failing (callee_tests funs others (place ts) (word_in (form ts))) ≡ Some r
        → reading funs others ts (operand level.Unary c ns k) ≡ Err r
    unary_no_call r [] h o p = cc
    unary_no_call r (t ∷ ts) h o p = rw (h, o, p) refl

    -- ---- arguments

    pub one_argument_more : (f : Callee) (args : List Tree) (ts : List Lexeme) → says (codes ",") (form ts) ≡ true
        → reading funs others ts (arguments f c ns args k) ≡ reading funs others (drop 1 ts) (expr c ns (λ ms a. arguments f c ms (args ++ a ∷ []) k))
    one_argument_more f args [] h = cc
    one_argument_more f args (t ∷ ts) h = rw h refl
