-- A function that is printed is read as it is, and is laid out.
use Rattle.std.proofs.Common.{◌≡◌, ◌≤◌, ◌<◌, ℕ, ◌+◌, max, Bool, true, false, not, ◌||◌, List, [], ◌∷◌, ◌++◌, length, map, drop, get_or, Option, Some, None, Ok, pos, negsuc, nat_lt, if◌then◌else◌, codes, refl, sym, ap, subst, ◌∙◌, arith, lt-ltb, append_assoc, append-nil, length-append}
use Rattle.std.proofs.lemmas.Bool.{ltb-true}
use Rattle.std.proofs.lemmas.List.Folds.{list_any-append}
use Rattle.std.specs.List.{list_all}
use Rattle.std.specs.Str.{bytes_eq}
use Rattle.msl_base.specs.declared.limits.TheConstants.{MOST_FUNS, MOST_OPENED, MOST_PARAMS, MOST_RESULTS}
use Rattle.msl_lex.specs.Lexemes.{Lexeme, word, sign}
use Rattle.msl_lex.specs.Printing.{Bit, is_laid}
use Rattle.msl_lex.specs.Printing as printing
use Rattle.msl_fun.specs.declared.expr.BinOp.{BinOp}
use Rattle.msl_fun.specs.declared.expr.BinOp.TheVariants.{Add, Sub, Mul, Div, Rem, Eq, Ne, Lt, Le, Gt, Ge, And, Or, Min, Max}
use Rattle.msl_fun.specs.declared.expr.Expr.{Expr, Row_of-Expr, end_of-Expr, more_of-Expr}
use Rattle.msl_fun.specs.declared.expr.Expr.TheVariants.{Lit, Slot, Call'}
use Rattle.msl_fun.specs.declared.funs.Fun.{Fun}
use Rattle.msl_fun.specs.Shapes.{minus, opposite, binary, choice, binding, looping, row}
use Rattle.msl_base.specs.Names.{Text, is_among, are_distinct}
use Rattle.msl_fun.specs.Checks.{AreFuns, MayFollow, names_of, greatest, rank_called, rank_called_by, rank_of, names_after, names_after_all, names_after_results, and_then, bind, count_of, takes, widths_of}
use Rattle.msl_lex.specs.Names.{is_name}
use Rattle.msl_read.specs.Reading.{says, place}
use Rattle.msl_read.specs.Front.{form}
use Rattle.msl_fun_read.specs.Grammar.{Tree, Head, fun, fun_name, param, more_params, body, more_results, end_fun, done, all_of, is_declared, reading, read_fun}
use Rattle.msl_read.specs.Front.{name_in}
use Rattle.msl_fun_read.specs.Declaring.{head}
use Rattle.msl_fun_print.specs.FunText.{space, named, mark, operator, in_parentheses, listed, is_pair, is_simple, as_operand, binary_bits, looping_bits, first_of, names_left, expr_bits, all_bits, body_bits, fun_bits, opened_all, OpensFew}
use Rattle.msl_fun_read.proofs.Declarings.{fun_name_taken, param_taken, one_param_more, params_end, result_goes, one_result_more, results_end, body_opens, body_is_one}
use Rattle.msl_fun.proofs.Functions.{held, parts, takes_is, called_within}
use Rattle.msl_muscle_laws.proofs.PrintedCalls.{exprs, some_all, all_of_some, AllPrinted, GivenAll, GoesOn, reads_list, call_printed}
use Rattle.msl_muscle_laws.proofs.PrintedExprs.{IsScope, Given, Printed, literal_printed, variable_printed, minus_printed, opposite_printed, binary_printed}
use Rattle.msl_muscle_laws.proofs.PrintedForms.{choice_printed, binding_printed, looping_printed}
use Rattle.msl_muscle_laws.proofs.PrintedLayout.{Laid, AllLaid, nothing_laid, word_laid, spaced_laid, blank_laid, free_laid, joined_laid, parentheses_laid, all_laid, laid_end, free, name_spelt, row_laid}
use Rattle.msl_muscle_laws.proofs.PrintedLeft.{binds, left_is}
use Rattle.msl_muscle_laws.proofs.PrintedLevels.{Ends, bracket_ends, semicolon_ends}
use Rattle.msl_muscle_laws.proofs.PrintedNames.{or_false, and_true, not_true, turned, passes_at, is_named, no_sign, fun_named}
use Rattle.msl_fun_print.proofs.Listed.{later, listed_is}
use Rattle.msl_muscle_laws.proofs.PrintedTokens.{Says, split}
use Rattle.msl_fun_read.proofs.Rules.{taken}
use Rattle.msl_fun_read.proofs.Trees.{row_depth}

-- ---- every expression

module _ (funs : List Fun) (others : List Text) (all : List Text) (rules : AreFuns funs) where
  mutual
    pub printed : (e : Expr) → Printed funs others all e
    printed (Lit n) = literal_printed funs others all n
    printed (Slot k) = variable_printed funs others all k
    printed (minus a) = minus_printed funs others all a (printed a)
    printed (opposite a) = opposite_printed funs others all a (printed a)
    printed (binary op a b) = binary_printed funs others all op a b (printed a) (printed b)
    printed (choice c a b) = choice_printed funs others all c a b (printed c) (printed a) (printed b)
    printed (binding a b) = binding_printed funs others all a b (printed a) (printed b)
    printed (looping n s e) = looping_printed funs others all n s e (printed n) (printed s) (printed e)
    printed (Call' f shape args) = call_printed funs others all rules f shape args (all_printed args)

    pub all_printed : {n : _} (es : Row_of-Expr n) → AllPrinted funs others all es
    all_printed end_of-Expr = tt
    all_printed (more_of-Expr e es) = (printed e, all_printed es)

-- ---- no expression begins with a bracket

operator_begins : (op : BinOp) → says (codes "[") (operator op) ≡ false
operator_begins Add = refl
operator_begins Sub = refl
operator_begins Mul = refl
operator_begins Div = refl
operator_begins Rem = refl
operator_begins Eq = refl
operator_begins Ne = refl
operator_begins Lt = refl
operator_begins Le = refl
operator_begins Gt = refl
operator_begins Ge = refl
operator_begins And = refl
operator_begins Or = refl
operator_begins Min = refl
operator_begins Max = refl

module _ (funs : List Fun) (rules : AreFuns funs) where
  abbrev Begins : Expr → Type 0
  Begins e = (scope ns ms : List Text) (ts us : List Lexeme) → names_after funs e scope ns ≡ Some ms → IsScope scope → Says (expr_bits funs e scope ns) ts us → says (codes "[") (form ts) ≡ false

  operand_begins : (a : Expr) (bits : List Bit) (ts us : List Lexeme) → (Says bits ts us → says (codes "[") (form ts) ≡ false) → Says (as_operand a bits) ts us → says (codes "[") (form ts) ≡ false
  operand_begins a bits ts us inner said = by (is_simple a) said
    where
      by : (b : Bool) → Says (if b then bits else in_parentheses bits) ts us → says (codes "[") (form ts) ≡ false
      by true h = inner h
      by false h = ap (says (codes "[")) h.0

  binary_begins : (op : BinOp) (a b : Expr) (left right : List Bit) (ts us : List Lexeme) → ((at : List Lexeme) → Says left ts at → says (codes "[") (form ts) ≡ false)
      → Says (binary_bits op a b left right) ts us → says (codes "[") (form ts) ≡ false
  binary_begins op a b left right ts us inner said = by (is_pair op) said
    where
      by : (t : Bool) → Says (if t then printing.token (operator op) ∷ in_parentheses (listed (left ∷ right ∷ [])) else as_operand a left ++ space ∷ printing.token (operator op) ∷ space ∷ as_operand b right) ts us
          → says (codes "[") (form ts) ≡ false
      by true h = ap (says (codes "[")) h.0 ∙ operator_begins op
      by false h = let s = split (as_operand a left) (space ∷ printing.token (operator op) ∷ space ∷ as_operand b right) ts us h in operand_begins a left ts s.at (inner s.at) s.front

  loop_begins : (n s e : Expr) (scope : List Text) (i : Text) (ns mid ms : List Text) (ts us : List Lexeme)
      → bind (scope ++ i ∷ []) mid (λ a more. and_then (names_after funs s scope more) (names_after funs e (scope ++ i ∷ a ∷ []))) ≡ Some ms
      → Says (looping_bits i (expr_bits funs n scope ns) (first_of mid) (expr_bits funs s scope (drop 1 mid)) (expr_bits funs e (scope ++ i ∷ first_of mid ∷ []) (names_left s (drop 1 mid)))) ts us
      → says (codes "[") (form ts) ≡ false
  loop_begins n s e scope i ns [] ms ts us h said = cc
  loop_begins n s e scope i ns (a ∷ m) ms ts us h said = ap (says (codes "[")) said.0

  begins : (e : Expr) → Begins e
  begins (Lit (pos n)) scope ns ms ts us h s said = ap (says (codes "[")) said.0
  begins (Lit (negsuc n)) scope ns ms ts us h s said = ap (says (codes "[")) said.0
  begins (Slot k) scope ns ms ts us h s said =
      let within : k < length scope = ltb-true k (length scope) (held (nat_lt k (length scope)) (Some ns) ms h).0 in
      ap (says (codes "[")) said.0 ∙ no_sign (get_or scope k []) (passes_at is_name scope k [] s.names within) (codes "[") refl
  begins (minus a) scope ns ms ts us h s said = ap (says (codes "[")) said.0
  begins (opposite a) scope ns ms ts us h s said = ap (says (codes "[")) said.0
  begins (binary op a b) scope ns ms ts us h s said =
      let q = parts (names_after funs a scope ns) (names_after funs b scope) ms h in
      binary_begins op a b (expr_bits funs a scope ns) (expr_bits funs b scope (names_left a ns)) ts us (λ at front. begins a scope ns q.0 ts at q.1 s front) said
  begins (choice c a b) scope ns ms ts us h s said = ap (says (codes "[")) said.0
  begins (binding a b) scope [] ms ts us h s said = cc
  begins (binding a b) scope (x ∷ ns) ms ts us h s said = ap (says (codes "[")) said.0
  begins (looping n t e) scope [] ms ts us h s said = cc
  begins (looping n t e) scope (i ∷ ns) ms ts us h s said =
      let go : Text → List Text → Option (List Text) = λ j m. bind (scope ++ j ∷ []) m (λ a more. and_then (names_after funs t scope more) (names_after funs e (scope ++ j ∷ a ∷ []))) in
      let b = binds scope ns i (λ j rest. and_then (names_after funs n scope rest) (go j)) ms h in
      let q = parts (names_after funs n scope ns) (go i) ms b.goes in
      let bits : List Text → List Bit = λ m. looping_bits i (expr_bits funs n scope ns) (first_of m) (expr_bits funs t scope (drop 1 m)) (expr_bits funs e (scope ++ i ∷ first_of m ∷ []) (names_left t (drop 1 m))) in
      loop_begins n t e scope i ns q.0 ms ts us q.2 (subst (λ m. Says (bits m) ts us) (left_is funs n scope ns q.0 q.1) said)
  begins (Call' f _ args) scope ns ms ts us h s said =
      let p = held (takes (widths_of funs f) (count_of funs args)) (names_after_all funs args scope ns) ms h in
      let within : f < length funs = called_within funs f (count_of funs args) (takes_is (widths_of funs f) (count_of funs args) p.0) in
      ap (says (codes "[")) said.0 ∙ no_sign (get_or (names_of funs) f []) (fun_named funs rules f within) (codes "[") refl

-- ---- lists as rows

exprs_row : (es : List Expr) → exprs (row es) ≡ es
unfolding exprs
exprs_row [] = refl
exprs_row (e ∷ es) = ap (λ (ds : List Expr). e ∷ ds) (exprs_row es)

row_rank : (rank : ℕ → ℕ) (es : List Expr) → rank_called_by rank (row es) ≡ greatest (rank_called rank) es
row_rank rank [] = refl
row_rank rank (e ∷ es) = ap (max (rank_called rank e)) (row_rank rank es)

results_row : (funs : List Fun) (es : List Expr) (scope ns : List Text) → names_after_results funs es scope ns ≡ names_after_all funs (row es) scope ns
results_row funs [] scope ns = refl
results_row funs (e ∷ es) scope ns = by (names_after funs e scope ns) (λ m. results_row funs es scope m)
  where
    by : (o : Option (List Text)) → ((m : List Text) → names_after_results funs es scope m ≡ names_after_all funs (row es) scope m)
        → and_then o (names_after_results funs es scope) ≡ and_then o (names_after_all funs (row es) scope)
    by None rest = refl
    by (Some m) rest = rest m

-- ---- parameters

fresh : (before : List Text) (p : Text) (ps : List Text) → are_distinct (before ++ p ∷ ps) ≡ true → is_among before p ≡ false
fresh [] p ps h = refl
fresh (b ∷ before) p ps h =
    let both = and_true (not (is_among (before ++ p ∷ ps) b)) (are_distinct (before ++ p ∷ ps)) h in
    let apart = or_false (is_among before b) (bytes_eq b p || is_among ps b) (sym (list_any-append (bytes_eq b) before (p ∷ ps)) ∙ not_true (is_among (before ++ p ∷ ps) b) both.0) in
    let other : bytes_eq p b ≡ false = turned b p (or_false (bytes_eq b p) (is_among ps b) apart.1).0 in
    rw other (fresh before p ps both.1)

abbrev alone : List Text → List (List Bit)
alone ps = map (λ p. named p ∷ []) ps

module _ (funs : List Fun) (others : List Text) (n : Text) (at : ℕ) where
  one_param : (p : Text) (before ps : List Text) (ts : List Lexeme) → is_name p ≡ true → are_distinct (before ++ p ∷ ps) ≡ true → length (before ++ p ∷ ps) ≤ MOST_PARAMS → form ts ≡ word p
      → reading funs others ts (param (head n at before)) ≡ reading funs others (drop 1 ts) (more_params (head n at (before ++ p ∷ [])))
  one_param p before ps ts name distinct few is =
      param_taken funs others n at before ts p (ap name_in is ∙ is_named p name) (omega (arith, length-append before (p ∷ ps))) (fresh before p ps distinct)

  params_more : (ps before : List Text) (ts us : List Lexeme) → list_all is_name ps ≡ true → are_distinct (before ++ ps) ≡ true → length (before ++ ps) ≤ MOST_PARAMS → Says (later (alone ps)) ts us
      → reading funs others ts (more_params (head n at before)) ≡ reading funs others us (more_params (head n at (before ++ ps)))
  params_more [] before ts us names distinct few said = λ i. reading funs others (said i) (more_params (head n at (sym (append-nil before) i)))
  params_more (p ∷ ps) before ts us names distinct few said =
      let both = and_true (is_name p) (list_all is_name ps) names in
      let s : Says ((named p ∷ []) ++ later (alone ps)) (drop 1 ts) us = subst (λ bs. Says bs (drop 1 ts) us) (listed_is (named p ∷ []) (alone ps)) said.1 in
      let joined = append_assoc before (p ∷ []) ps in
      one_param_more funs others n at before ts (ap (says (codes ",")) said.0)
      ∙ (one_param p before ps (drop 1 ts) both.0 distinct few s.0
      ∙ (params_more ps (before ++ p ∷ []) (drop 1 (drop 1 ts)) us both.1 (ap are_distinct joined ∙ distinct) (rw joined few) s.1
      ∙ ap (λ (l : List Text). reading funs others us (more_params (head n at l))) joined))

  params_read : (ps : List Text) (ts us : List Lexeme) → 1 ≤ length ps → list_all is_name ps ≡ true → are_distinct ps ≡ true → length ps ≤ MOST_PARAMS → Says (listed (alone ps)) ts us
      → reading funs others ts (param (head n at [])) ≡ reading funs others us (more_params (head n at ps))
  params_read [] ts us some names distinct few said = absurd (omega arith)
  params_read (p ∷ ps) ts us some names distinct few said =
      let both = and_true (is_name p) (list_all is_name ps) names in
      let s : Says ((named p ∷ []) ++ later (alone ps)) ts us = subst (λ bs. Says bs ts us) (listed_is (named p ∷ []) (alone ps)) said in
      one_param p [] ps ts both.0 distinct few s.0 ∙ params_more ps (p ∷ []) (drop 1 ts) us both.1 distinct few s.1

-- ---- the function

module _ (funs : List Fun) (others : List Text) where
  fun_begins : (ts : List Lexeme) → says (codes "fun") (form ts) ≡ true → length funs < MOST_FUNS → reading funs others ts fun ≡ reading funs others (drop 1 ts) fun_name
  fun_begins [] h few = cc
  fun_begins (t ∷ ts) h few = rw (h, lt-ltb (length funs) MOST_FUNS few) refl

  fun_ends : (h : Head) (ns : List Text) (rs : List Tree) (es : List Expr) (ts : List Lexeme) → says (codes ";") (form ts) ≡ true → all_of rs ≡ Some es
      → reading funs others ts (end_fun h ns rs) ≡ reading funs others (drop 1 ts) (done (record { name = h.name; params = h.params; results = es; names = ns }))
  fun_ends h ns rs es [] is found = cc
  fun_ends h ns rs es (t ∷ ts) is found = rw (is, found) refl

  module _ (f : Fun) (rules : AreFuns funs) (may : MayFollow funs f) (few : OpensFew f) (at : ℕ) where
    abbrev of_fun : Head
    of_fun = head f.name at f.params

    scoped : IsScope f.params
    scoped = let both = and_true (list_all is_name f.params) (are_distinct f.params) may.params in record { names = both.0; distinct = both.1 }

    given : GivenAll funs others f.names (row f.results) f.params f.names [] []
    given = record {
      split = refl;
      names = sym (results_row funs f.results f.params f.names) ∙ may.bodies;
      in_scope = scoped;
      shallow = omega (arith, row_depth f.results, may.depth);
      rank = omega (arith, row_rank (rank_of funs) f.results, may.rank);
    }

    -- so are the results
    record Body (ts us : List Lexeme) : Type 0 where
      trees : List Tree
      found : all_of trees ≡ Some f.results
      goes : reading funs others ts (body of_fun) ≡ reading funs others us (end_fun of_fun f.names trees)

    results_on : GoesOn funs others f.names f.params 0 MOST_RESULTS (more_results of_fun)
    results_on ns trees ts lt comma = one_result_more funs others of_fun ns trees ts comma ∙ result_goes funs others of_fun ns trees (drop 1 ts) lt

    ended : (ns : List Text) → f.names ≡ ns ++ [] → ns ≡ f.names
    ended ns h = sym (h ∙ append-nil ns)

    body_read : (es : List Expr) → f.results ≡ es → (ts us : List Lexeme) → Ends (form us) → Says (body_bits (all_bits funs (row es) f.params f.names)) ts us → Body ts us
    body_read [] is ts us ends said = absurd (omega (arith, may.some_results, ap length is))
    body_read (e ∷ []) is ts us ends said =
        let g = subst (λ (ds : List Expr). GivenAll funs others f.names (row ds) f.params f.names [] []) is given in
        let lt : opened_all (row (e ∷ [])) + 1 ≤ MOST_OPENED = subst (λ (ds : List Expr). opened_all (row ds) + 1 ≤ MOST_OPENED) is few in
        let q = parts (names_after funs e f.params f.names) (names_after_all funs end_of-Expr f.params) [] g.names in
        let last : q.0 ≡ [] = let w = q.2 in cc in
        let ge : Given funs others f.names e f.params f.names q.0 [] = record { split = refl; names = q.1; in_scope = scoped; shallow = omega (arith, g.shallow); rank = omega (arith, g.rank) } in
        let r = (printed funs others f.names rules e).as_expr f.params f.names q.0 [] 0 ts us ge (omega (arith, lt)) ends said in
        let all_names : r.done ≡ f.names = ended r.done (r.split ∙ ap (λ (m : List Text). r.done ++ m) last) in
        record {
          trees = Some e ∷ [];
          found = ap Some (sym is);
          goes = body_is_one funs others of_fun ts (begins funs rules e f.params f.names q.0 ts us q.1 scoped said)
              ∙ (r.goes (λ ns t. end_fun of_fun ns (t ∷ [])) ∙ ap (λ (ns : List Text). reading funs others us (end_fun of_fun ns (Some e ∷ []))) all_names);
        }
    body_read (e ∷ d ∷ es) is ts us ends said =
        let ds : List Expr = e ∷ d ∷ es in
        let g = subst (λ (ds : List Expr). GivenAll funs others f.names (row ds) f.params f.names [] []) is given in
        let lt : opened_all (row ds) + 1 ≤ MOST_OPENED = subst (λ (ds : List Expr). opened_all (row ds) + 1 ≤ MOST_OPENED) is few in
        let s = split (listed (all_bits funs (row ds) f.params f.names)) (mark (codes "]") ∷ []) (drop 1 ts) us said.1 in
        let size : length (exprs (row ds)) ≡ length f.results = ap length (exprs_row ds) ∙ ap length (sym is) in
        let r = reads_list funs others f.names f.params 0 (row ds) (all_printed funs others f.names rules (row ds)) f.names [] [] (drop 1 ts) s.at g (omega (arith, lt)) (subst Ends (sym s.back.0) bracket_ends)
        (omega (arith, size, may.some_results)) s.front in
        let trees : List Tree = some_all (exprs (row ds)) in
        record {
          trees = trees;
          found = all_of_some (exprs (row ds)) ∙ ap Some (exprs_row ds ∙ sym is);
          goes = body_opens funs others of_fun ts (ap (says (codes "[")) said.0)
              ∙ (result_goes funs others of_fun [] [] (drop 1 ts) (omega arith)
              ∙ (r.goes MOST_RESULTS (more_results of_fun) results_on (omega (arith, size, may.few_results))
              ∙ (results_end funs others of_fun r.after trees s.at (ap (says (codes ",")) s.back.0) (ap (says (codes "]")) s.back.0)
              ∙ (λ i. reading funs others (s.back.1 i) (end_fun of_fun (ended r.after r.split i) trees)))));
        }

  pub fun_read : (f : Fun) (ts rest : List Lexeme) (t : Lexeme) → AreFuns funs → MayFollow funs f → is_among others f.name ≡ false → OpensFew f → Says (fun_bits funs f) ts (t ∷ rest)
      → read_fun funs others ts ≡ Ok (f, t ∷ rest)
  fun_read f ts rest t rules may new few said =
      let params : List Bit = listed (alone f.params) in
      let results : List Bit = body_bits (all_bits funs (row f.results) f.params f.names) in
      let from : List Lexeme = drop 1 (drop 1 (drop 1 ts)) in
      let s1 = split ((params ++ mark (codes ")") ∷ []) ++ space ∷ mark (codes "=") ∷ space ∷ results) (mark (codes ";") ∷ []) from (t ∷ rest) said.1.1.1 in
      let s2 = split (params ++ mark (codes ")") ∷ []) (space ∷ mark (codes "=") ∷ space ∷ results) from s1.at s1.front in
      let s3 = split params (mark (codes ")") ∷ []) from s2.at s2.front in
      let name = and_true (is_name f.name) (not (is_among (names_of funs) f.name)) may.name in
      let undeclared : is_declared funs others f.name ≡ false = rw (not_true (is_among (names_of funs) f.name) name.1) new in
      let at : ℕ = place (drop 1 ts) in
      let h : Head = head f.name at f.params in
      let scope = and_true (list_all is_name f.params) (are_distinct f.params) may.params in
      let b = body_read f rules may few at f.results refl (drop 1 s2.at) s1.at (subst Ends (sym s1.back.0) semicolon_ends) s2.back.1 in
      fun_begins ts (ap (says (codes "fun")) said.0) may.few_funs
      ∙ (fun_name_taken funs others (drop 1 ts) f.name (ap name_in said.1.0 ∙ is_named f.name name.0) undeclared
      ∙ (taken funs others (drop 1 (drop 1 ts)) from (codes "(") (param (head f.name at [])) (ap (says (codes "(")) said.1.1.0, refl)
      ∙ (params_read funs others f.name at f.params from s3.at may.some_params scope.0 scope.1 may.few_params s3.front
      ∙ (params_end funs others f.name at f.params s3.at (ap (says (codes ",")) s3.back.0) (ap (says (codes ")")) s3.back.0)
      ∙ (taken funs others (drop 1 s3.at) (drop 1 s2.at) (codes "=") (body h) (ap (λ (l : List Lexeme). says (codes "=") (form l)) s3.back.1 ∙ ap (says (codes "=")) s2.back.0, ap (drop 1) (sym s3.back.1))
      ∙ (b.goes
      ∙ (fun_ends h f.names b.trees f.results s1.at (ap (says (codes ";")) s1.back.0) b.found
      ∙ ap (λ (l : List Lexeme). reading funs others l (done f)) s1.back.1)))))))

-- ---- its layout

params_laid : (ps : List Text) → list_all is_name ps ≡ true → AllLaid (alone ps)
params_laid [] h = tt
params_laid (p ∷ ps) h =
    let both = and_true (is_name p) (list_all is_name ps) h in
    (word_laid p [] (name_spelt p both.0) (λ more a. a) nothing_laid, params_laid ps both.1)

body_laid : (ps : List (List Bit)) → AllLaid ps → Laid (body_bits ps)
body_laid [] ls = free_laid (codes "[") (mark (codes "]") ∷ []) (free (codes "[") refl refl) (free_laid (codes "]") [] (free (codes "]") refl refl) nothing_laid)
body_laid (p ∷ []) ls = ls.0
body_laid (p ∷ q ∷ ps) ls =
    free_laid (codes "[") (listed (p ∷ q ∷ ps) ++ mark (codes "]") ∷ []) (free (codes "[") refl refl)
    (joined_laid (listed (p ∷ q ∷ ps)) (mark (codes "]") ∷ []) (all_laid (p ∷ q ∷ ps) ls) (λ more a. refl) (free_laid (codes "]") [] (free (codes "]") refl refl) nothing_laid))

pub fun_laid : (funs : List Fun) (f : Fun) (more : List Bit) → AreFuns funs → MayFollow funs f → is_laid more ≡ true → is_laid (fun_bits funs f ++ more) ≡ true
fun_laid funs f more rules may h =
    let params : List Bit = listed (alone f.params) in
    let results : List Bit = body_bits (all_bits funs (row f.results) f.params f.names) in
    let scope = and_true (list_all is_name f.params) (are_distinct f.params) may.params in
    let name = and_true (is_name f.name) (not (is_among (names_of funs) f.name)) may.name in
    let rest : List Bit = space ∷ mark (codes "=") ∷ space ∷ results in
    let front : List Bit = named (codes "fun") ∷ space ∷ named f.name ∷ in_parentheses params ++ rest in
    let results_laid : Laid results =
    body_laid (all_bits funs (row f.results) f.params f.names)
    (row_laid funs rules (row f.results) f.params f.names [] (sym (results_row funs f.results f.params f.names) ∙ may.bodies) (record { names = scope.0; distinct = scope.1 })) in
    let front_laid : Laid front =
    spaced_laid (word (codes "fun")) (named f.name ∷ in_parentheses params ++ rest) refl
    (word_laid f.name (in_parentheses params ++ rest) (name_spelt f.name name.0) (λ more a. refl)
    (joined_laid (in_parentheses params) rest (parentheses_laid params (all_laid (alone f.params) (params_laid f.params scope.0))) (λ more a. refl)
    (blank_laid (mark (codes "=") ∷ space ∷ results) (spaced_laid (sign (codes "=")) results refl results_laid)))) in
    ap is_laid (append_assoc front (mark (codes ";") ∷ []) more) ∙ front_laid.before (mark (codes ";") ∷ more) refl (laid_end more h)
