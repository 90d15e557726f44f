-- What is written of a function's text, and how it grows.
use Rattle.std.specs.Prelude.{ℕ, List, [], ◌∷◌, ◌++◌, take, drop, map, codes}
use Rattle.msl_lex.specs.Printing.{Bit, text_of, spelling}
use Rattle.msl_fun.specs.declared.expr.BinOp.{BinOp}
use Rattle.msl_fun.specs.declared.expr.Expr.{Expr}
use Rattle.msl_fun.specs.declared.funs.Fun.{Fun}
use Rattle.msl_fun_print.specs.declared.text.Writer.{Writer}
use Rattle.msl_fun.specs.Shapes.{row}
use Rattle.msl_base.specs.Names.{Text}
use Rattle.msl_fun_print.specs.FunText.{mark, named, space, operator, listed, as_operand, expr_bits, all_bits, body_bits, names_left, names_left_by}

-- the text so far, the variables in scope, and the names that are still to be bound
pub record Writing : Type 0 where
  pub text : List ℕ
  pub scope : List Text
  pub names : List Text

abbrev pub seen : Writer → Writing
seen w = record { text = w.text.items; scope = map (λ n. n.now) w.scope.items; names = w.names.now }

abbrev pub with_text : List ℕ → Writing → Writing
with_text t w = record { text = w.text ++ t; scope = w.scope; names = w.names }

abbrev pub with_bits : List Bit → Writing → Writing
with_bits bits w = with_text (text_of bits) w

-- a name and the parenthesis behind it
abbrev pub with_opening : Text → Writing → Writing
with_opening name w = with_text (name ++ codes "(") w

-- an operator between blanks
abbrev pub with_operator : BinOp → Writing → Writing
with_operator op w = with_text (codes " " ++ (spelling (operator op) ++ codes " ")) w

-- a name is taken from the front
abbrev pub past_name : Writing → Writing
past_name w = record { text = w.text; scope = w.scope; names = drop 1 w.names }

abbrev pub in_scope : List Text → Writing → Writing
in_scope ns w = record { text = w.text; scope = w.scope ++ ns; names = w.names }

-- only the first n names stay in scope
abbrev pub in_first : ℕ → Writing → Writing
in_first n w = record { text = w.text; scope = take n w.scope; names = w.names }

-- Each text is put together from the right, so that the bits of a shape are those of its parts as they stand.
module _ (funs : List Fun) where
  abbrev pub with_expr : Expr → Writing → Writing
  with_expr e w = record { text = w.text ++ text_of (expr_bits funs e w.scope w.names); scope = w.scope; names = names_left e w.names }

  -- an expression behind a text
  abbrev pub with_part : List ℕ → Expr → Writing → Writing
  with_part before e w = record { text = w.text ++ (before ++ text_of (expr_bits funs e w.scope w.names)); scope = w.scope; names = names_left e w.names }

  -- a name between two texts, and an expression behind them
  abbrev pub with_value : List ℕ → Text → List ℕ → Expr → Writing → Writing
  with_value before name after e w =
      record { text = w.text ++ (before ++ (name ++ (after ++ text_of (expr_bits funs e w.scope w.names)))); scope = w.scope; names = names_left e w.names }

  abbrev pub with_operand : Expr → Writing → Writing
  with_operand e w = record { text = w.text ++ text_of (as_operand e (expr_bits funs e w.scope w.names)); scope = w.scope; names = names_left e w.names }

  -- an operand behind its operator
  abbrev pub with_prefixed : List ℕ → Expr → Writing → Writing
  with_prefixed op e w = record { text = w.text ++ (op ++ text_of (as_operand e (expr_bits funs e w.scope w.names))); scope = w.scope; names = names_left e w.names }

  -- expressions with commas between them
  abbrev pub with_list : List Expr → Writing → Writing
  with_list es w = record { text = w.text ++ text_of (listed (all_bits funs (row es) w.scope w.names)); scope = w.scope; names = names_left_by (row es) w.names }

  -- the results of a function and the `=` before them
  abbrev pub with_results : List Expr → Writing → Writing
  with_results es w = record { text = w.text ++ (codes " = " ++ text_of (body_bits (all_bits funs (row es) w.scope w.names))); scope = w.scope; names = names_left_by (row es) w.names }

abbrev pub with_params : List Text → Writing → Writing
with_params ps w = record { text = w.text ++ text_of (listed (map (λ p. named p ∷ []) ps)); scope = w.scope ++ ps; names = w.names }

abbrev pub with_head : Fun → Writing → Writing
with_head f w = record {
  text = w.text ++ text_of (named (codes "fun") ∷ space ∷ named f.name ∷ mark (codes "(") ∷ listed (map (λ p. named p ∷ []) f.params) ++ mark (codes ")") ∷ []);
  scope = w.scope ++ f.params;
  names = w.names;
}
