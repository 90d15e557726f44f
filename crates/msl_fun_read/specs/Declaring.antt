-- What the parser of a function answers, part by part.
use Rattle.std.specs.Prelude.{◌≡◌, ◌≤◌, ◌<◌, ◌+◌, ℕ, List, [], ◌∷◌, ◌++◌, length, drop, Option, Some, None, Ok, IsTrue, true, false, codes}
use Rattle.std.specs.List.{list_all}
use Rattle.msl_base.specs.declared.limits.TheConstants.{MOST_DEPTH, MOST_FUNS, MOST_PARAMS, MOST_RESULTS}
use Rattle.msl_lex.specs.Lexemes.{Lexeme}
use Rattle.msl_fun.specs.declared.expr.Expr.{Expr}
use Rattle.msl_fun.specs.declared.funs.Fun.{Fun}
use Rattle.msl_fun_read.specs.declared.parse.draft.Draft.{Draft}
use Rattle.msl_fun_read.specs.declared.parse.function.FunName.{FunName}
use Rattle.msl_fun.specs.Shapes.{row}
use Rattle.msl_base.specs.Names.{Text, is_among, are_distinct}
use Rattle.msl_fun.specs.Checks.{MayFollow, names_of, depth, greatest, names_after_all, rank_called_by, rank_of}
use Rattle.msl_lex.specs.Names.{is_name}
use Rattle.msl_fun_read.specs.Grammar.{Tree, Head, token, fun, fun_name, param, more_params, body, result, more_results, end_fun, done, all_of, function_of, reading, read_fun}

abbrev pub head : Text → ℕ → List Text → Head
head name at params = record { name = name; at = at; params = params }

-- expressions in this scope that bind the names that were added, one after the other
pub record FitList (funs : List Fun) (scope before after : List Text) (es : List Expr) : Type 0 where
  pub bound : List Text
  pub names : after ≡ before ++ bound
  pub scoped : (rest : List Text) → names_after_all funs (row es) scope (bound ++ rest) ≡ Some rest
  pub rank : rank_called_by (rank_of funs) (row es) ≤ 7

abbrev pub FitsAll : List Fun → List Text → List Text → List Text → Option (List Expr) → Type 0
FitsAll funs scope before after None = Unit {0}
FitsAll funs scope before after (Some es) = FitList funs scope before after es

module _ (funs : List Fun) (others : List Text) where
  -- the word `fun` was taken
  pub record BeginsFun (old new : Draft) : Type 0 where
    pub few : length funs < MOST_FUNS
    pub goes : reading funs others old.cursor fun ≡ reading funs others new.cursor fun_name
    pub scope : new.scope ≡ old.scope
    pub names : new.names ≡ old.names

  -- the function's name was taken, which is new
  pub record NamesFun (old new : Draft) (h : FunName) : Type 0 where
    pub is_name : IsTrue (is_name h.name)
    pub is_new : is_among (names_of funs) h.name ≡ false
    pub goes : reading funs others old.cursor fun_name ≡ reading funs others new.cursor (token (codes "(") (param (head h.name h.at [])))
    pub scope : new.scope ≡ old.scope
    pub names : new.names ≡ old.names

  -- one parameter was taken
  pub record NamesParam (old new : Draft) (p : Text) : Type 0 where
    pub is_name : IsTrue (is_name p)
    pub is_new : is_among old.scope p ≡ false
    pub few : length old.scope < MOST_PARAMS
    pub cursor : new.cursor ≡ drop 1 old.cursor
    pub scope : new.scope ≡ old.scope ++ p ∷ []
    pub names : new.names ≡ old.names
    pub goes : (n : Text) (at : ℕ) → reading funs others old.cursor (param (head n at old.scope)) ≡ reading funs others new.cursor (more_params (head n at new.scope))

  -- all parameters were taken
  pub record NamesParams (old new : Draft) : Type 0 where
    pub are_names : list_all is_name new.scope ≡ true
    pub distinct : are_distinct new.scope ≡ true
    pub some : 1 ≤ length new.scope
    pub few : length new.scope ≤ MOST_PARAMS
    pub names : new.names ≡ old.names
    pub goes : (n : Text) (at : ℕ) → reading funs others old.cursor (param (head n at [])) ≡ reading funs others new.cursor (token (codes "=") (body (head n at new.scope)))

  -- all up to the body was taken
  pub record ReadsHead (old new : Draft) (h : FunName) : Type 0 where
    pub few_funs : length funs < MOST_FUNS
    pub are_names : list_all is_name new.scope ≡ true
    pub is_name : IsTrue (is_name h.name)
    pub is_new : is_among (names_of funs) h.name ≡ false
    pub distinct : are_distinct new.scope ≡ true
    pub some : 1 ≤ length new.scope
    pub few : length new.scope ≤ MOST_PARAMS
    pub names : new.names ≡ old.names
    pub goes : reading funs others old.cursor fun ≡ reading funs others new.cursor (body (head h.name h.at new.scope))

  -- some results were taken, behind those that there were
  pub record GivesResults (old new : Draft) (some all : List Tree) : Type 0 where
    pub few : length all ≤ MOST_RESULTS
    pub scope : new.scope ≡ old.scope
    pub fits : (scope before : List Text) → scope ≡ old.scope → FitsAll funs scope before old.names (all_of some) → FitsAll funs scope before new.names (all_of all)

  -- one result was taken
  pub record GivesResult (old new : Draft) (some all : List Tree) : Type 0 where
    pub more : length all ≡ length some + 1
    pub shorter : length new.cursor ≤ length old.cursor
    pub gives : GivesResults old new some all
    pub goes : (n : Text) (at : ℕ) → reading funs others old.cursor (result (head n at old.scope) old.names some) ≡ reading funs others new.cursor (more_results (head n at old.scope) new.names all)

  -- the results up to a bracket were taken
  pub record GivesAllResults (old new : Draft) (some all : List Tree) : Type 0 where
    pub more : length some < length all
    pub gives : GivesResults old new some all
    pub goes : (n : Text) (at : ℕ) → reading funs others old.cursor (result (head n at old.scope) old.names some) ≡ reading funs others new.cursor (end_fun (head n at old.scope) new.names all)

  -- a body was taken
  pub record IsBody (old new : Draft) (results : List Tree) : Type 0 where
    pub some : 1 ≤ length results
    pub few : length results ≤ MOST_RESULTS
    pub scope : new.scope ≡ old.scope
    pub fits : FitsAll funs old.scope [] new.names (all_of results)
    pub goes : (n : Text) (at : ℕ) → reading funs others old.cursor (body (head n at old.scope)) ≡ reading funs others new.cursor (end_fun (head n at old.scope) new.names results)

  -- the end of a function was taken
  pub record EndsFun (old new : Draft) (at : ℕ) (results : List Tree) (es : List Expr) : Type 0 where
    pub all : all_of results ≡ Some es
    pub shallow : greatest depth es ≤ MOST_DEPTH
    pub scope : new.scope ≡ old.scope
    pub names : new.names ≡ old.names
    pub goes : (n : Text) (params ns : List Text) → reading funs others old.cursor (end_fun (head n at params) ns results) ≡ reading funs others new.cursor (done (function_of funs others (head n at params) ns results))

  -- these tokens begin with this function, which keeps the rules, and the rest is behind it
  pub record ReadsFun (ts : List Lexeme) (f : Fun) (rest : List Lexeme) : Type 0 where
    pub read : read_fun funs others ts ≡ Ok (f, rest)
    pub shorter : length rest < length ts
    pub rules : MayFollow funs f
