-- What a parser answers, by the reading of the tokens.
use Rattle.std.specs.Prelude.{◌≡◌, ◌≤◌, List, ◌++◌, length, Some, None, Result, Ok, Err, ℕ}
use Rattle.msl_lex.specs.Lexemes.{Lexeme}
use Rattle.msl_fun.specs.declared.expr.Expr.{Expr}
use Rattle.msl_fun.specs.declared.funs.Fun.{Fun}
use Rattle.msl_read.specs.declared.fault.ReadFault.{ReadFault}
use Rattle.msl_fun_read.specs.declared.parse.draft.Draft.{Draft}
use Rattle.msl_base.specs.Names.{Text}
use Rattle.msl_fun.specs.Checks.{names_after, rank_called, rank_of}
use Rattle.msl_fun_read.specs.Grammar.{State, Then, Tree, Context, token, expr, on}
use Rattle.msl_read.specs.Parts as parts

abbrev pub context : List Text → ℕ → Context
context scope opened = record { scope = scope; opened = opened }

-- an `expr` and a quoted token behind it
abbrev pub expr_before : Context → List Text → Text → Then → State
expr_before c ns text k = expr c ns (λ ms t. token text (k ms t))

-- a part that gives the names that are bound behind it, and a value
abbrev pub Part : Type 0 → Type 0
Part A = (List Text × A → State) → State

-- what follows a tree, as the grammar takes it
abbrev pub curried : (List Text × Tree → State) → Then
curried k ns t = k (ns, t)

-- a part of the grammar that gives a tree
abbrev pub of_tree : (Then → State) → Part Tree
of_tree start k = start (curried k)

-- two expressions, and a quoted token between them
abbrev pub two_exprs : Context → Context → List Text → Text → Part (Tree × Tree)
two_exprs c d ns text k = expr_before c ns text (λ ms a. expr d ms (λ ls b. k (ls, (a, b))))

-- a value with these names
abbrev pub named : {A : Type 0} → List Text → Result A ReadFault → Result (List Text × A) ReadFault
named ns (Ok a) = Ok (ns, a)
named ns (Err e) = Err e

-- An expression keeps the rules on a function in this scope. It binds the names that were added.
pub record Fits (funs : List Fun) (scope before after : List Text) (e : Expr) : Type 0 where
  pub bound : List Text
  pub names : after ≡ before ++ bound
  pub scoped : (rest : List Text) → names_after funs e scope (bound ++ rest) ≡ Some rest
  pub rank : rank_called (rank_of funs) e ≤ 7

abbrev pub FitsTree : List Fun → List Text → List Text → List Text → Tree → Type 0
FitsTree funs scope before after None = Unit {0}
FitsTree funs scope before after (Some e) = Fits funs scope before after e

module _ (funs : List Fun) (others : List Text) where
  -- a part is read up to where the draft stands, or it is refused, whatever follows
  abbrev pub IsPart : {A : Type 0} → List Lexeme → Part A → Draft → Result A ReadFault → Type 0
  IsPart ts part new r = parts.IsRead (on funs others) ts part new.cursor (named new.names r)

  -- the same of a part that gives a tree
  abbrev pub IsRead : List Lexeme → (Then → State) → Draft → Result Tree ReadFault → Type 0
  IsRead ts start new r = IsPart ts (of_tree start) new r

-- a tree keeps the rules, and nothing is left in scope
pub record Keeps (funs : List Fun) (old new : Draft) (t : Tree) : Type 0 where
  pub fits : FitsTree funs old.scope old.names new.names t
  pub scope : new.scope ≡ old.scope
  pub shorter : length new.cursor ≤ length old.cursor

-- two expressions keep the rules, the second in a scope of its own
pub record KeepsTwo (funs : List Fun) (inner : List Text) (old new : Draft) (r : Tree × Tree) : Type 0 where
  pub between : List Text
  pub first : FitsTree funs old.scope old.names between r.0
  pub second : FitsTree funs inner between new.names r.1
  pub scope : new.scope ≡ old.scope
  pub shorter : length new.cursor ≤ length old.cursor
