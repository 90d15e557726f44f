-- The one text of a function in its canonical form, as tokens and the blanks between them.
use Rattle.std.specs.Prelude.{ℕ, ◌+◌, ◌≤◌, max, Bool, true, false, ℤ, pos, negsuc, List, [], ◌∷◌, ◌++◌, map, drop, slice_index_or, if◌then◌else◌, codes}
use Rattle.msl_base.specs.declared.limits.TheConstants.{MOST_OPENED}
use Rattle.msl_lex.specs.Lexemes.{Form, word, number, sign}
use Rattle.msl_lex.specs.Printing.{Bit, token, blank}
use Rattle.msl_fun.specs.declared.expr.BinOp.{BinOp}
use Rattle.msl_fun.specs.declared.expr.BinOp.TheVariants.{Add, Sub, Mul, Div, Rem, Eq, Ne, Lt, Le, Gt, Ge, And, Or, Min, Max}
use Rattle.msl_fun.specs.declared.expr.Expr.{Expr, Row_of-Expr, end_of-Expr, more_of-Expr}
use Rattle.msl_fun.specs.declared.expr.Expr.TheVariants.{Lit, Slot, Call'}
use Rattle.msl_fun.specs.declared.funs.Fun.{Fun}
use Rattle.msl_fun.specs.Shapes.{minus, opposite, binary, choice, binding, looping, row}
use Rattle.msl_base.specs.Names.{Text}
use Rattle.msl_fun.specs.Checks.{names_of}

-- ---- bits

abbrev pub space : Bit
space = blank 32

-- a word of the grammar, or a name
abbrev pub named : Text → Bit
named w = token (word w)

abbrev pub mark : Text → Bit
mark s = token (sign s)

-- no literal is below 0
abbrev pub literal : ℤ → Bit
literal (pos n) = token (number n)
literal (negsuc n) = token (number 0)

abbrev pub operator : BinOp → Form
operator Add = sign (codes "+")
operator Sub = sign (codes "-")
operator Mul = sign (codes "*")
operator Div = sign (codes "/")
operator Rem = sign (codes "%")
operator Eq = sign (codes "==")
operator Ne = sign (codes "!=")
operator Lt = sign (codes "<")
operator Le = sign (codes "<=")
operator Gt = sign (codes ">")
operator Ge = sign (codes ">=")
operator And = word (codes "and")
operator Or = word (codes "or")
operator Min = word (codes "min")
operator Max = word (codes "max")

abbrev pub in_parentheses : List Bit → List Bit
in_parentheses bits = mark (codes "(") ∷ bits ++ mark (codes ")") ∷ []

-- parts with commas between them
abbrev pub listed : List (List Bit) → List Bit
listed [] = []
listed (p ∷ []) = p
listed (p ∷ q ∷ ps) = p ++ mark (codes ",") ∷ space ∷ listed (q ∷ ps)

abbrev pub body_bits : List (List Bit) → List Bit
body_bits (p ∷ []) = p
body_bits ps = mark (codes "[") ∷ listed ps ++ mark (codes "]") ∷ []

-- ---- expressions

-- an operator that stands before its operands
abbrev pub is_pair : BinOp → Bool
is_pair Min = true
is_pair Max = true
is_pair _ = false

-- it needs no parentheses as an operand
abbrev pub is_simple : Expr → Bool
is_simple (Lit n) = true
is_simple (Slot k) = true
is_simple (Call' f _ args) = true
is_simple (binary op a b) = is_pair op
is_simple _ = false

abbrev pub as_operand : Expr → List Bit → List Bit
as_operand e bits = if is_simple e then bits else in_parentheses bits

-- `min(a, b)`, or the operator between its operands
abbrev pub binary_bits : BinOp → Expr → Expr → List Bit → List Bit → List Bit
binary_bits op a b left right =
    if is_pair op then token (operator op) ∷ in_parentheses (listed (left ∷ right ∷ []))
    else as_operand a left ++ space ∷ token (operator op) ∷ space ∷ as_operand b right

abbrev pub choice_bits : List Bit → List Bit → List Bit → List Bit
choice_bits c a b = named (codes "if") ∷ space ∷ c ++ space ∷ named (codes "then") ∷ space ∷ a ++ space ∷ named (codes "else") ∷ space ∷ b

abbrev pub binding_bits : Text → List Bit → List Bit → List Bit
binding_bits x a b = named (codes "let") ∷ space ∷ named x ∷ space ∷ mark (codes "=") ∷ space ∷ a ++ space ∷ named (codes "in") ∷ space ∷ b

abbrev pub looping_bits : Text → List Bit → Text → List Bit → List Bit → List Bit
looping_bits i n a s e =
    named (codes "loop") ∷ space ∷ named i ∷ space ∷ named (codes "below") ∷ space ∷ n ++ mark (codes ",") ∷ space ∷
    named a ∷ space ∷ mark (codes "=") ∷ space ∷ s ++ space ∷ named (codes "in") ∷ space ∷ e

abbrev mutual
  -- the names that an expression leaves of a list, behind those that it binds
  pub names_left : Expr → List Text → List Text
  names_left (Lit n) names = names
  names_left (Slot k) names = names
  names_left (minus a) names = names_left a names
  names_left (opposite a) names = names_left a names
  names_left (binary op a b) names = names_left b (names_left a names)
  names_left (choice c a b) names = names_left b (names_left a (names_left c names))
  names_left (binding a b) names = names_left b (names_left a (drop 1 names))
  names_left (looping n s e) names = names_left e (names_left s (drop 1 (names_left n (drop 1 names))))
  names_left (Call' f _ args) names = names_left_by args names

  pub names_left_by : {n : _} → Row_of-Expr n → List Text → List Text
  names_left_by end_of-Expr names = names
  names_left_by (more_of-Expr e es) names = names_left_by es (names_left e names)

abbrev pub first_of : List Text → Text
first_of names = slice_index_or names 0 []

module _ (funs : List Fun) where
  -- An expression in a scope takes the names that it binds from the front of a list.
  abbrev mutual
    pub expr_bits : Expr → List Text → List Text → List Bit
    expr_bits (Lit n) scope names = literal n ∷ []
    expr_bits (Slot k) scope names = named (slice_index_or scope k []) ∷ []
    expr_bits (minus a) scope names = mark (codes "-") ∷ as_operand a (expr_bits a scope names)
    expr_bits (opposite a) scope names = named (codes "not") ∷ space ∷ as_operand a (expr_bits a scope names)
    expr_bits (binary op a b) scope names = binary_bits op a b (expr_bits a scope names) (expr_bits b scope (names_left a names))
    expr_bits (choice c a b) scope names =
        let m = names_left c names in
        choice_bits (expr_bits c scope names) (expr_bits a scope m) (expr_bits b scope (names_left a m))
    expr_bits (binding a b) scope names =
        let x = first_of names in
        let m = drop 1 names in
        binding_bits x (expr_bits a scope m) (expr_bits b (scope ++ x ∷ []) (names_left a m))
    expr_bits (looping n s e) scope names =
        let i = first_of names in
        let m = names_left n (drop 1 names) in
        let a = first_of m in
        let l = drop 1 m in
        looping_bits i (expr_bits n scope (drop 1 names)) a (expr_bits s scope l) (expr_bits e (scope ++ i ∷ a ∷ []) (names_left s l))
    expr_bits (Call' f _ args) scope names = named (slice_index_or (names_of funs) f []) ∷ in_parentheses (listed (all_bits args scope names))

    pub all_bits : {n : _} → Row_of-Expr n → List Text → List Text → List (List Bit)
    all_bits end_of-Expr scope names = []
    all_bits (more_of-Expr e es) scope names = expr_bits e scope names ∷ all_bits es scope (names_left e names)

  -- ---- functions

  abbrev pub fun_bits : Fun → List Bit
  fun_bits f =
      named (codes "fun") ∷ space ∷ named f.name ∷ in_parentheses (listed (map (λ p. named p ∷ []) f.params)) ++
      space ∷ mark (codes "=") ∷ space ∷ body_bits (all_bits (row f.results) f.params f.names) ++ mark (codes ";") ∷ []

-- ---- how many `expr` and `unary` are open at once

-- an operand opens one `unary`, and in parentheses one `expr` and one `unary` more
abbrev pub operand_opened : Expr → ℕ → ℕ
operand_opened e inside = if is_simple e then inside else inside + 2

abbrev mutual
  -- in the text of an expression, within its own `expr`
  pub opened : Expr → ℕ
  opened (Lit n) = 1
  opened (Slot k) = 1
  opened (minus a) = operand_opened a (opened a) + 1
  opened (opposite a) = operand_opened a (opened a) + 1
  opened (binary op a b) = if is_pair op then max (opened a) (opened b) + 2 else max (operand_opened a (opened a)) (operand_opened b (opened b))
  opened (choice c a b) = max (opened c) (max (opened a) (opened b)) + 1
  opened (binding a b) = max (opened a) (opened b) + 1
  opened (looping n s e) = max (opened n) (max (opened s) (opened e)) + 1
  opened (Call' f _ args) = opened_all args + 2

  pub opened_all : {n : _} → Row_of-Expr n → ℕ
  opened_all end_of-Expr = 0
  opened_all (more_of-Expr e es) = max (opened e) (opened_all es)

-- the text of a function opens no more at once than its reader allows
abbrev pub OpensFew : Fun → Type 0
OpensFew f = opened_all (row f.results) + 1 ≤ MOST_OPENED
