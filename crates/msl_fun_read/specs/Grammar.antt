-- How a function is read, token by token, with the tests that are due at each.
--
--     fun    = "fun" name "(" name { "," name } ")" "=" body ";"
--     body   = expr | "[" expr { "," expr } "]"
--     expr   = "if" expr "then" expr "else" expr
--            | "let" name "=" expr "in" expr
--            | "loop" name "below" expr "," name "=" expr "in" expr
--            | or
--     or     = and { "or" and }
--     and    = cmp { "and" cmp }
--     cmp    = sum [ ("==" | "!=" | "<" | "<=" | ">" | ">=") sum ]
--     sum    = prod { ("+" | "-") prod }
--     prod   = unary { ("*" | "/" | "%") unary }
--     unary  = "-" unary | "not" unary | prim
--     prim   = num | name | name "(" expr { "," expr } ")"
--            | ("min" | "max") "(" expr "," expr ")" | "(" expr ")"
use Rattle.std.specs.Prelude.{ℕ, ◌+◌, Bool, not, ◌||◌, ◌==◌, nat_lt, nat_le, pos, List, [], ◌∷◌, ◌++◌, length, map, slice_index_or, Option, Some, None, is_some, unwrap_or, option_map, Result, if◌then◌else◌, codes}
use Rattle.msl_base.specs.declared.limits.TheConstants.{MOST_DEPTH, MOST_FUNS, MOST_NAMES, MOST_OPENED, MOST_PARAMS, MOST_RANK, MOST_RESULTS}
use Rattle.msl_lex.specs.declared.kind.Kind.TheVariants.{Many, Deep, Twice, Unknown, WrongKind, Width}
use Rattle.msl_lex.specs.Lexemes.{Form, Lexeme, word, number}
use Rattle.msl_fun.specs.declared.expr.BinOp.{BinOp}
use Rattle.msl_fun.specs.declared.expr.BinOp.TheVariants.{Add, Sub, Mul, Div, Rem, Eq, Ne, Lt, Le, Gt, Ge, And, Or, Min, Max}
use Rattle.msl_fun.specs.declared.expr.Expr.{Expr}
use Rattle.msl_fun.specs.declared.expr.Expr.TheVariants.{Lit, Slot}
use Rattle.msl_fun.specs.declared.funs.Fun.{Fun}
use Rattle.msl_fun_read.specs.declared.parse.first.First.{First}
use Rattle.msl_fun_read.specs.declared.parse.first.First.TheVariants as first
use Rattle.msl_fun_read.specs.declared.parse.level.Level.{Level}
use Rattle.msl_fun_read.specs.declared.parse.level.Level.TheVariants as level
use Rattle.msl_fun.specs.Shapes.{minus, opposite, binary, choice, binding, looping, calling}
use Rattle.msl_base.specs.Names.{Text, is_among}
use Rattle.msl_lex.specs.Names.{reserved}
use Rattle.msl_fun.specs.Checks.{depth, rank_of, names_of}
use Rattle.msl_base.specs.Names.{place_among}
use Rattle.msl_read.specs.Front.{name_in, word_in, number_in}
use Rattle.msl_read.specs.Reading.{Refusal, Test, test, Move, takes, ends, stops, under, read, says}

-- ---- trees

-- an expression, or none where it is deeper than that of a function may be
abbrev pub Tree : Type 0
Tree = Option Expr

abbrev pub if_shallow : Expr → Tree
if_shallow e = if nat_le (depth e) MOST_DEPTH then Some e else None

abbrev pub over_one : (Expr → Expr) → Tree → Tree
over_one make (Some a) = if_shallow (make a)
over_one make None = None

abbrev pub over_two : (Expr → Expr → Expr) → Tree → Tree → Tree
over_two make (Some a) b = over_one (make a) b
over_two make None b = None

abbrev pub over_three : (Expr → Expr → Expr → Expr) → Tree → Tree → Tree → Tree
over_three make (Some a) b c = over_two (make a) b c
over_three make None b c = None

-- all expressions, or none where one is too deep
abbrev pub all_of : List Tree → Option (List Expr)
all_of [] = Some []
all_of (None ∷ ts) = None
all_of (Some e ∷ ts) = option_map (λ es. e ∷ es) (all_of ts)

abbrev pub call_of : ℕ → Option (List Expr) → Tree
call_of f (Some es) = if_shallow (calling f es)
call_of f None = None

-- ---- what stands at the front of an expression

abbrev pub other_first : Form → Form → First
other_first (word w) behind = if is_among reserved w then first.Nothing else if says (codes "(") behind then first.Call else first.Variable
other_first (number n) behind = first.Number
other_first _ behind = first.Nothing

-- what begins with a token, where it and the token behind it are such
abbrev pub first_in : Form → Form → First
first_in f behind =
    if says (codes "if") f then first.If
    else if says (codes "let") f then first.Let
    else if says (codes "loop") f then first.Loop
    else if says (codes "-") f then first.Minus
    else if says (codes "not") f then first.Not
    else if says (codes "min") f then first.Pair Min
    else if says (codes "max") f then first.Pair Max
    else if says (codes "(") f then first.Parenthesis
    else other_first f behind

-- ---- what is still to come

-- where an expression stands: the variables in scope, and how many `expr` and `unary` are open around it
pub record Context : Type 0 where
  pub scope : List Text
  pub opened : ℕ

abbrev pub deeper : Context → Context
deeper c = record c { opened = c.opened + 1 }

abbrev pub with_names : List Text → Context → Context
with_names ns c = record c { scope = c.scope ++ ns }

-- a function that is called: its place among the functions, and where its name stands
pub record Callee : Type 0 where
  pub fun : ℕ
  pub at : ℕ

-- the name of a function, where it stands, and the parameters so far
pub record Head : Type 0 where
  pub name : Text
  pub at : ℕ
  pub params : List Text

-- A part says what follows it, by the names that were bound so far and by its tree.
pub data State : Type 0 where
  -- a quoted token
  token : Text → State → State
  -- a name that comes into a scope
  new_name : List Text → (Text → State) → State
  -- an `expr`
  expr : Context → List Text → (List Text → Tree → State) → State
  -- an expression of operators that bind as tightly as this level's or more
  operand : Level → Context → List Text → (List Text → Tree → State) → State
  -- behind an operand of a level: maybe one of its operators, and more
  more : Level → Context → List Text → Tree → (List Text → Tree → State) → State
  -- behind an argument: more of them, or the end of the call
  arguments : Callee → Context → List Text → List Tree → (List Text → Tree → State) → State
  fun : State
  fun_name : State
  param : Head → State
  more_params : Head → State
  body : Head → State
  result : Head → List Text → List Tree → State
  more_results : Head → List Text → List Tree → State
  end_fun : Head → List Text → List Tree → State
  done : Fun → State

abbrev pub Then : Type 0
Then = List Text → Tree → State

abbrev pub Turn : Type 0
Turn = Move State Fun

abbrev pub go : State → Turn
go s = takes [] s

-- "if" expr "then" expr "else" expr, behind the "if"
abbrev pub choice_rest : Context → List Text → Then → State
choice_rest c ns k =
    expr c ns (λ n1 a. token (codes "then") (expr c n1 (λ n2 b. token (codes "else") (expr c n2 (λ n3 d. k n3 (over_three choice a b d))))))

-- "let" name "=" expr "in" expr, behind the "let"
abbrev pub binding_rest : Context → List Text → Then → State
binding_rest c ns k =
    new_name c.scope (λ x. token (codes "=") (expr c (ns ++ x ∷ [])
    (λ n1 a. token (codes "in") (expr (with_names (x ∷ []) c) n1 (λ n2 b. k n2 (over_two binding a b))))))

-- "loop" name "below" expr "," name "=" expr "in" expr, behind the "loop"
abbrev pub looping_rest : Context → List Text → Then → State
looping_rest c ns k =
    new_name c.scope (λ i. token (codes "below") (expr c (ns ++ i ∷ [])
    (λ n1 n. token (codes ",") (new_name (c.scope ++ i ∷ []) (λ a. token (codes "=") (expr c (n1 ++ a ∷ [])
    (λ n2 s. token (codes "in") (expr (with_names (i ∷ a ∷ []) c) n2 (λ n3 e. k n3 (over_three looping n s e))))))))))

-- "(" expr "," expr ")"
abbrev pub pair_rest : BinOp → Context → List Text → Then → State
pair_rest op c ns k =
    token (codes "(") (expr c ns (λ n1 a. token (codes ",") (expr c n1 (λ n2 b. token (codes ")") (k n2 (over_two (binary op) a b))))))

-- expr ")"
abbrev pub parenthesis_rest : Context → List Text → Then → State
parenthesis_rest c ns k = expr c ns (λ n1 a. token (codes ")") (k n1 a))

-- "(" expr { "," expr } ")"
abbrev pub call_rest : Callee → Context → List Text → Then → State
call_rest f c ns k = token (codes "(") (expr c ns (λ n1 a. arguments f c n1 (a ∷ []) k))

-- ---- operators

abbrev pub products : Form → Option BinOp
products f =
    if says (codes "*") f then Some Mul else if says (codes "/") f then Some Div else if says (codes "%") f then Some Rem else None

abbrev pub sums : Form → Option BinOp
sums f = if says (codes "+") f then Some Add else if says (codes "-") f then Some Sub else None

abbrev pub comparisons : Form → Option BinOp
comparisons f =
    if says (codes "==") f then Some Eq else if says (codes "!=") f then Some Ne
    else if says (codes "<") f then Some Lt else if says (codes "<=") f then Some Le
    else if says (codes ">") f then Some Gt else if says (codes ">=") f then Some Ge else None

-- the operator of a level that a token is
abbrev pub operator_in : Level → Form → Option BinOp
operator_in level.Or f = if says (codes "or") f then Some Or else None
operator_in level.And f = if says (codes "and") f then Some And else None
operator_in level.Comparison f = comparisons f
operator_in level.Sum f = sums f
operator_in level.Product f = products f
operator_in level.Unary f = None

-- the level whose operators bind next more tightly
abbrev pub tighter : Level → Level
tighter level.Or = level.And
tighter level.And = level.Comparison
tighter level.Comparison = level.Sum
tighter level.Sum = level.Product
tighter level.Product = level.Unary
tighter level.Unary = level.Unary

-- behind the second operand: more of a level, but for the comparisons, of which there is at most one
abbrev pub grown : Level → Context → List Text → Tree → Then → State
grown level.Comparison c ns a k = k ns a
grown l c ns a k = more l c ns a k

-- behind an operator and the first operand
abbrev pub second_operand : Level → BinOp → Context → List Text → Tree → Then → State
second_operand l op c ns a k = operand (tighter l) c ns (λ ms b. grown l c ms (over_two (binary op) a b) k)

abbrev pub at_operator : Option BinOp → (BinOp → State) → Turn → Turn
at_operator (Some op) second otherwise = go (second op)
at_operator None second otherwise = otherwise

-- ---- the turns

-- one more `expr` or `unary` is open
abbrev pub opening : ℕ → Context → List Test
opening at c = test Deep at (nat_lt c.opened MOST_OPENED) ∷ []

-- a name that comes into this scope
abbrev pub name_turn : List Test → Option Text → (Text → State) → Turn
name_turn due None k = stops
name_turn due (Some n) k = takes due (k n)

module _ (funs : List Fun) (others : List Text) where
  abbrev pub is_declared : Text → Bool
  is_declared n = is_among (names_of funs) n || is_among others n

  abbrev pub results_at : ℕ → ℕ
  results_at f = slice_index_or (map (λ g. length g.results) funs) f 1

  abbrev pub params_at : ℕ → ℕ
  params_at f = slice_index_or (map (λ g. length g.params) funs) f 0

  abbrev pub fun_at : Text → ℕ
  fun_at n = unwrap_or (place_among (names_of funs) n) (length funs)

  -- the name of a function that is called
  abbrev pub callee_tests : ℕ → Text → List Test
  callee_tests at n =
      test Deep at (nat_lt (rank_of funs (fun_at n)) MOST_RANK) ∷
      test Unknown at (is_declared n) ∷
      test WrongKind at (is_among (names_of funs) n) ∷
      test Width at (results_at (fun_at n) == 1) ∷ []

  abbrev pub variable_turn : ℕ → Option ℕ → List Text → Then → Turn
  variable_turn at k ns next = takes (test Unknown at (is_some k) ∷ []) (next ns (Some (Slot (unwrap_or k 0))))

  -- by what stands there
  abbrev pub unary_first : First → Lexeme → Context → List Text → Then → Turn
  unary_first first.Minus t c ns k = go (operand level.Unary c ns (λ ms a. k ms (over_one minus a)))
  unary_first first.Not t c ns k = go (operand level.Unary c ns (λ ms a. k ms (over_one opposite a)))
  unary_first first.Number t c ns k = go (k ns (Some (Lit (pos (number_in t.form)))))
  unary_first first.Variable t c ns k = variable_turn t.at (place_among c.scope (word_in t.form)) ns k
  unary_first first.Call t c ns k = takes (callee_tests t.at (word_in t.form)) (call_rest (record { fun = fun_at (word_in t.form); at = t.at }) c ns k)
  unary_first (first.Pair op) t c ns k = go (pair_rest op c ns k)
  unary_first first.Parenthesis t c ns k = go (parenthesis_rest c ns k)
  unary_first _ t c ns k = stops

  abbrev pub unary_by : First → Lexeme → Context → List Text → Then → Turn
  unary_by f t c ns k = under (opening t.at c) (unary_first f t (deeper c) ns k)

  abbrev pub prod_by : First → Lexeme → Context → List Text → Then → Turn
  prod_by f t c ns k = unary_by f t c ns (λ ms a. more level.Product c ms a k)

  abbrev pub sum_by : First → Lexeme → Context → List Text → Then → Turn
  sum_by f t c ns k = prod_by f t c ns (λ ms a. more level.Sum c ms a k)

  abbrev pub cmp_by : First → Lexeme → Context → List Text → Then → Turn
  cmp_by f t c ns k = sum_by f t c ns (λ ms a. more level.Comparison c ms a k)

  abbrev pub and_by : First → Lexeme → Context → List Text → Then → Turn
  and_by f t c ns k = cmp_by f t c ns (λ ms a. more level.And c ms a k)

  abbrev pub or_by : First → Lexeme → Context → List Text → Then → Turn
  or_by f t c ns k = and_by f t c ns (λ ms a. more level.Or c ms a k)

  abbrev pub operand_by : Level → First → Lexeme → Context → List Text → Then → Turn
  operand_by level.Unary f t c ns k = unary_by f t c ns k
  operand_by level.Product f t c ns k = prod_by f t c ns k
  operand_by level.Sum f t c ns k = sum_by f t c ns k
  operand_by level.Comparison f t c ns k = cmp_by f t c ns k
  operand_by level.And f t c ns k = and_by f t c ns k
  operand_by level.Or f t c ns k = or_by f t c ns k

  abbrev pub expr_first : First → Lexeme → Context → List Text → Then → Turn
  expr_first first.If t c ns k = go (choice_rest c ns k)
  expr_first first.Let t c ns k = go (binding_rest c ns k)
  expr_first first.Loop t c ns k = go (looping_rest c ns k)
  expr_first f t c ns k = or_by f t c ns k

  abbrev pub expr_by : First → Lexeme → Context → List Text → Then → Turn
  expr_by f t c ns k = under (opening t.at c) (expr_first f t (deeper c) ns k)

  -- the end of a call, or one argument more
  abbrev pub arguments_turn : Lexeme → Callee → Context → List Text → List Tree → Then → Turn
  arguments_turn t f c ns args k =
      if says (codes ",") t.form then go (expr c ns (λ ms a. arguments f c ms (args ++ a ∷ []) k))
      else if says (codes ")") t.form then takes (test Width f.at (length args == params_at f.fun) ∷ []) (k ns (call_of f.fun (all_of args)))
      else stops

  abbrev pub function_of : Head → List Text → List Tree → Fun
  function_of h ns rs = record { name = h.name; params = h.params; results = unwrap_or (all_of rs) []; names = ns }

  abbrev pub outermost : Head → Context
  outermost h = record { scope = h.params; opened = 0 }

  abbrev pub on : State → Lexeme → Lexeme → Turn
  on (token text s) t behind = if says text t.form then go s else stops
  on (new_name scope k) t behind =
      name_turn (test Many t.at (nat_lt (length scope) MOST_NAMES) ∷ test Twice t.at (not (is_among scope (word_in t.form))) ∷ []) (name_in t.form) k
  on (expr c ns k) t behind = expr_by (first_in t.form behind.form) t c ns k
  on (operand l c ns k) t behind = operand_by l (first_in t.form behind.form) t c ns k
  on (more l c ns a k) t behind = at_operator (operator_in l t.form) (λ op. second_operand l op c ns a k) (on (k ns a) t behind)
  on (arguments f c ns args k) t behind = arguments_turn t f c ns args k
  on fun t behind = if says (codes "fun") t.form then takes (test Many t.at (nat_lt (length funs) MOST_FUNS) ∷ []) fun_name else stops
  on fun_name t behind =
      name_turn (test Twice t.at (not (is_declared (word_in t.form))) ∷ []) (name_in t.form) (λ n. token (codes "(") (param (record { name = n; at = t.at; params = [] })))
  on (param h) t behind =
      name_turn (test Many t.at (nat_lt (length h.params) MOST_PARAMS) ∷ test Twice t.at (not (is_among h.params (word_in t.form))) ∷ []) (name_in t.form)
      (λ n. more_params (record h { params = h.params ++ n ∷ [] }))
  on (more_params h) t behind =
      if says (codes ",") t.form then go (param h) else if says (codes ")") t.form then go (token (codes "=") (body h)) else stops
  on (body h) t behind =
      if says (codes "[") t.form then go (result h [] [])
      else expr_by (first_in t.form behind.form) t (outermost h) [] (λ ns e. end_fun h ns (e ∷ []))
  on (result h ns rs) t behind =
      under (test Many t.at (nat_lt (length rs) MOST_RESULTS) ∷ []) (expr_by (first_in t.form behind.form) t (outermost h) ns (λ ms e. more_results h ms (rs ++ e ∷ [])))
  on (more_results h ns rs) t behind =
      if says (codes ",") t.form then go (result h ns rs) else if says (codes "]") t.form then go (end_fun h ns rs) else stops
  on (end_fun h ns rs) t behind =
      if says (codes ";") t.form then takes (test Deep h.at (is_some (all_of rs)) ∷ []) (done (function_of h ns rs)) else stops
  on (done f) t behind = ends f

  -- what these tokens are read as from a state on
  abbrev pub reading : List Lexeme → State → Result (Fun × List Lexeme) Refusal
  reading ts s = read State Fun on ts s

  -- the function at the front of the tokens, and the tokens behind it; or the first test that fails
  abbrev pub read_fun : List Lexeme → Result (Fun × List Lexeme) Refusal
  read_fun ts = reading ts fun
