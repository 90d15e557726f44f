-- A function whose parts were read keeps the rules.
use Rattle.std.proofs.Common.{◌≡◌, ◌≤◌, ◌<◌, max, true, false, List, [], ◌∷◌, length, Option, Some, None, Ok, IsTrue, refl, ap, sym, subst, ◌∙◌, arith, append-nil}
use Rattle.std.specs.List.{list_all}
use Rattle.std.specs.Option.{unwrap_or}
use Rattle.msl_fun.specs.declared.expr.Expr.{Expr}
use Rattle.msl_fun.specs.declared.funs.Fun.{Fun}
use Rattle.msl_fun_read.specs.declared.parse.draft.Draft.{Draft}
use Rattle.msl_fun_read.specs.declared.parse.function.FunName.{FunName}
use Rattle.msl_fun.specs.Shapes.{row}
use Rattle.msl_base.specs.Names.{Text, is_among, are_distinct}
use Rattle.msl_fun.specs.Checks.{MayFollow, names_of, depth, greatest, rank_of, rank_called, rank_called_by, names_after, names_after_all, names_after_results, and_then}
use Rattle.msl_lex.specs.Names.{is_name}
use Rattle.msl_fun_read.specs.Grammar.{Tree, fun, function_of, reading}
use Rattle.msl_fun_read.specs.Declaring.{head, FitList, FitsAll, ReadsHead, IsBody, EndsFun}
use Rattle.msl_fun_read.proofs.Fitting.{as_many}
use Rattle.msl_fun_read.proofs.Suffixes.{all_read}

module _ (funs : List Fun) where
  names_of_results : (es : List Expr) (scope names : List Text) → names_after_results funs es scope names ≡ names_after_all funs (row es) scope names
  names_of_results [] scope names = refl
  names_of_results (e ∷ es) scope names = along (λ ns. names_of_results es scope ns) (names_after funs e scope names)
    where
      along : ((ns : List Text) → names_after_results funs es scope ns ≡ names_after_all funs (row es) scope ns)
          → (o : Option (List Text)) → and_then o (names_after_results funs es scope) ≡ and_then o (names_after_all funs (row es) scope)
      along rest None = refl
      along rest (Some ns) = rest ns

  rank_of_results : (es : List Expr) → greatest (rank_called (rank_of funs)) es ≡ rank_called_by (rank_of funs) (row es)
  rank_of_results [] = refl
  rank_of_results (e ∷ es) = ap (max (rank_called (rank_of funs) e)) (rank_of_results es)

  module _ (name : Text) (params names : List Text) (es : List Expr) (fits : FitList funs params [] names es) where
    used_up : names_after_results funs es params names ≡ Some []
    used_up = names_of_results es params names ∙ ap (names_after_all funs (row es) params) (fits.names ∙ sym (append-nil fits.bound)) ∙ fits.scoped []

    pub may_follow :
        length funs < 256 → IsTrue (is_name name) → is_among (names_of funs) name ≡ false
        → list_all is_name params ≡ true → are_distinct params ≡ true → 1 ≤ length params → length params ≤ 16
        → 1 ≤ length es → length es ≤ 16 → greatest depth es ≤ 100
        → MayFollow funs (record { name = name; params = params; results = es; names = names })
    may_follow few is_word new are_words distinct some_params few_params some_results few_results shallow = record {
      few_funs = few;
      name = rw (is_word, new) refl;
      params = rw (are_words, distinct) refl;
      some_params = some_params;
      few_params = few_params;
      some_results = some_results;
      few_results = few_results;
      bodies = used_up;
      depth = shallow;
      rank = omega (arith, rank_of_results es, fits.rank);
    }

-- a function by its head, its body and its end
module _ (funs : List Fun) (others : List Text) (before begun given ended : Draft) (h : FunName) (results : List Tree) (es : List Expr) where
  abbrev whole : Fun
  whole = record { name = h.name; params = ended.scope; results = es; names = ended.names }

  module _ (heads : ReadsHead funs others before begun h) (bodies : IsBody funs others begun given results) (ends : EndsFun funs others given ended h.at results es) where
    params_are : begun.scope ≡ ended.scope
    params_are = sym (ends.scope ∙ bodies.scope)

    pub whole_follows : MayFollow funs whole
    whole_follows =
        let many = as_many results es ends.all in
        let fits = subst (FitsAll funs begun.scope [] given.names) ends.all bodies.fits in
        let rules = may_follow funs h.name begun.scope given.names es fits heads.few_funs heads.is_name heads.is_new heads.are_names heads.distinct heads.some heads.few
        (omega (arith, many, bodies.some)) (omega (arith, many, bodies.few)) ends.shallow in
        subst (MayFollow funs) (λ i. record { name = h.name; params = params_are i; results = es; names = sym ends.names i }) rules

    pub whole_read : 1 ≤ length ended.cursor → reading funs others before.cursor fun ≡ Ok (whole, ended.cursor)
    whole_read some =
        heads.goes ∙ bodies.goes h.name h.at
        ∙ ends.goes h.name begun.scope given.names
        ∙ all_read funs others ended.cursor (function_of funs others (head h.name h.at begun.scope) given.names results) some
        ∙ (λ i. Ok (record { name = h.name; params = params_are i; results = unwrap_or (ends.all i) []; names = sym ends.names i }, ended.cursor))
