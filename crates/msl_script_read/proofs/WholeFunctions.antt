-- A function that is read, token by token, keeps the rules on functions.
use Rattle.std.proofs.Common.{◌≡◌, ◌<◌, ◌≤◌, ℕ, zero, suc, ◌==◌, pos, Bool, true, false, not, ◌||◌, nat_le, nat_lt, List, [], ◌∷◌, ◌++◌, length, map, Option, Some, None, is_some, option_map, if◌then◌else◌, codes, refl, ap, sym, subst, ◌∙◌, arith, ltb-true, lit≤, length-append}
use Rattle.std.specs.Prelude.{unwrap_or, slice_index_or}
use Rattle.std.specs.List.{list_all}
use Rattle.std.specs.Str.{bytes_eq}
use Rattle.std.proofs.lemmas.Bool.{le-leb, leb-true, eqb-true}
use Rattle.std.proofs.lemmas.List.{length-map}
use Rattle.std.proofs.lemmas.List.Quantifiers.{position-Some}
use Rattle.msl_lex.specs.declared.kind.Kind.{Kind}
use Rattle.msl_lex.specs.declared.kind.Kind.TheVariants as kind
use Rattle.msl_lex.specs.Layout as layout
use Rattle.msl_lex.specs.Lexemes.{Form, Lexeme, word, number, sign, close}
use Rattle.msl_fun.specs.declared.expr.BinOp.{BinOp}
use Rattle.msl_fun.specs.declared.expr.Expr.{Expr}
use Rattle.msl_fun.specs.declared.expr.Expr.TheVariants.{Lit}
use Rattle.msl_fun.specs.declared.funs.Fun.{Fun}
use Rattle.msl_fun_read.specs.declared.parse.first.First.{First}
use Rattle.msl_fun_read.specs.declared.parse.first.First.TheVariants as first
use Rattle.msl_fun_read.specs.declared.parse.level.Level.{Level}
use Rattle.msl_fun_read.specs.declared.parse.level.Level.TheVariants as level
use Rattle.msl_fun.specs.Shapes.{minus, opposite, binary, choice, binding, looping, calling}
use Rattle.msl_base.specs.Names.{Text, is_among, are_distinct}
use Rattle.msl_fun.specs.Checks.{MayFollow, names_of, depth, greatest, rank_of, widths_of}
use Rattle.msl_lex.specs.Names.{is_name, reserved}
use Rattle.msl_lex.specs.Layout.{is_word}
use Rattle.msl_read.specs.Reading.{Test, test, takes, ends, stops, under, failing}
use Rattle.msl_fun_read.specs.Grammar.{State, Turn, Tree, Context, Callee, Head, Then, if_shallow, over_one, over_two, over_three, all_of, call_of, first_in, deeper, choice_rest, binding_rest, looping_rest, pair_rest, call_rest, operator_in, grown, second_operand, at_operator, opening, name_turn, is_declared, results_at, params_at, fun_at, callee_tests, variable_turn, unary_first, unary_by, prod_by, sum_by, cmp_by, and_by, or_by, operand_by, expr_first, expr_by, arguments_turn, function_of, outermost, on, token, new_name, expr, operand, more, arguments, fun, fun_name, param, more_params, body, result, more_results, end_fun, done}
use Rattle.msl_read.specs.Front.{name_in, word_in, number_in}
use Rattle.msl_base.specs.Names.{place_among}
use Rattle.msl_fun_read.specs.Parsing.{FitsTree}
use Rattle.msl_fun_read.specs.Declaring.{FitsAll}
use Rattle.msl_base.proofs.Names.{has_place}
use Rattle.msl_read.proofs.Cursors.{name_is}
use Rattle.msl_fun_read.proofs.Declarings.{names_more, distinct_more}
use Rattle.msl_fun_read.proofs.Fitting.{as_many, no_arguments, tree_minus, tree_opposite, tree_binary, tree_choice, tree_binding, tree_looping, tree_call, trees_more, fits_variable, fits_number}
use Rattle.msl_fun_read.proofs.Callees.{params_are}
use Rattle.msl_fun_read.proofs.Wholes.{may_follow}
use Rattle.msl_lex.specs.Spelling.{IsSpelt}

-- ---- tests

-- the tests that are due first, and those behind them
pub behind_tests : (tests due : List Test) → failing (tests ++ due) ≡ None → failing due ≡ None
behind_tests [] due h = h
behind_tests (t ∷ tests) due h = by (behind_tests tests due) t.holds h
  where
    by : (failing (tests ++ due) ≡ None → failing due ≡ None) → (b : Bool) → (if b then failing (tests ++ due) else Some (t.kind, t.at)) ≡ None → failing due ≡ None
    by rest true h = rest h
    by rest false h = cc

pub first_test : (k : Kind) (at : ℕ) (b : Bool) (due : List Test) → failing (test k at b ∷ due) ≡ None → (b ≡ true) × (failing due ≡ None)
first_test k at true due h = (refl, h)
first_test k at false due h = cc

-- ---- names and numbers

same_words : (w : Text) → layout.is_word w ≡ is_word w
same_words [] = refl
same_words (c ∷ w) = refl

pub spelt_name : (f : Form) (n : Text) → IsSpelt f → name_in f ≡ Some n → is_name n ≡ true
spelt_name (word w) n h e = by (is_among reserved w) refl e
  where
    by : (b : Bool) → is_among reserved w ≡ b → (if b then None else Some w) ≡ Some n → is_name n ≡ true
    by true r e = cc
    by false r e =
        let same : n ≡ w = cc in
        rw (same, sym (same_words w), h.0, le-leb (length w) 64 h.1, r) refl
spelt_name (number v) n h e = cc
spelt_name (sign s) n h e = cc
spelt_name close n h e = cc

spelt_number : (f : Form) → IsSpelt f → number_in f ≤ 9223372036854775807
spelt_number (number n) h = h
spelt_number (word w) h = omega arith
spelt_number (sign s) h = omega arith
spelt_number close h = omega arith

-- ---- shallow trees

abbrev IsShallow : Tree → Type 0
IsShallow None = Unit {0}
IsShallow (Some e) = depth e ≤ 100

abbrev AreShallow : List Tree → Type 0
AreShallow [] = Unit {0}
AreShallow (t ∷ ts) = IsShallow t × AreShallow ts

shallow : (e : Expr) → IsShallow (if_shallow e)
shallow e = by (nat_le (depth e) 100) refl
  where
    by : (b : Bool) → nat_le (depth e) 100 ≡ b → IsShallow (if b then Some e else None)
    by true h = leb-true (depth e) 100 h
    by false h = tt

shallow_one : (make : Expr → Expr) (t : Tree) → IsShallow (over_one make t)
shallow_one make None = tt
shallow_one make (Some a) = shallow (make a)

shallow_two : (make : Expr → Expr → Expr) (t u : Tree) → IsShallow (over_two make t u)
shallow_two make None u = tt
shallow_two make (Some a) u = shallow_one (make a) u

shallow_three : (make : Expr → Expr → Expr → Expr) (t u v : Tree) → IsShallow (over_three make t u v)
shallow_three make None u v = tt
shallow_three make (Some a) u v = shallow_two (make a) u v

shallow_call : (f : ℕ) (o : Option (List Expr)) → IsShallow (call_of f o)
shallow_call f None = tt
shallow_call f (Some es) = shallow (calling f es)

shallow_more : (ts : List Tree) (t : Tree) → AreShallow ts → IsShallow t → AreShallow (ts ++ t ∷ [])
shallow_more [] t h g = (g, tt)
shallow_more (u ∷ ts) t h g = (h.0, shallow_more ts t h.1 g)

all_shallow : (ts : List Tree) (es : List Expr) → all_of ts ≡ Some es → AreShallow ts → greatest depth es ≤ 100
all_shallow [] es e h = let same : es ≡ [] = cc in rw same (omega arith)
all_shallow (None ∷ ts) es e h = cc
all_shallow (Some d ∷ ts) es e h = by (λ fs is. all_shallow ts fs is h.1) (all_of ts) refl e
  where
    by : ((fs : List Expr) → all_of ts ≡ Some fs → greatest depth fs ≤ 100) → (o : Option (List Expr)) → all_of ts ≡ o → option_map (λ fs. d ∷ fs) o ≡ Some es → greatest depth es ≤ 100
    by rest None is e = cc
    by rest (Some fs) is e =
        let same : es ≡ d ∷ fs = cc in
        let all : greatest depth fs ≤ 100 = rest fs is in
        let one : depth d ≤ 100 = h.0 in
        rw same (omega arith)

-- ---- functions that are called

widths : (fs : List Fun) (k : ℕ) → k < length fs → slice_index_or (map (λ g. length g.results) fs) k 1 ≡ 1 → (p : ℕ) × (widths_of fs k ≡ Some (p, 1))
widths [] k h e = absurd (omega arith)
widths (f ∷ fs) zero h e = (length f.params, ap (λ r. Some (length f.params, r)) e)
widths (f ∷ fs) (suc k) h e = widths fs k (omega arith) e

-- a name that is among others has a place there
pub placed : (names : List Text) (n : Text) (o : Option ℕ) (other : ℕ) → place_among names n ≡ o → is_some o ≡ true → unwrap_or o other < length names
placed names n None other is h = cc
placed names n (Some i) other is h = (position-Some (bytes_eq n) names i [] is).0

module _ (funs : List Fun) (others : List Text) where
  pub record IsCalled (f : Callee) : Type 0 where
    pub params : ℕ
    pub widths : widths_of funs f.fun ≡ Some (params, 1)
    pub rank : rank_of funs f.fun ≤ 7

  is_called : (at : ℕ) (n : Text) → failing (callee_tests funs others at n) ≡ None → IsCalled (record { fun = fun_at funs others n; at = at })
  is_called at n h =
      let low = first_test kind.Deep at (nat_lt (rank_of funs (fun_at funs others n)) 8) (test kind.Unknown at (is_declared funs others n) ∷ test kind.WrongKind at (is_among (names_of funs) n) ∷ test kind.Width at (results_at funs others (fun_at funs others n) == 1) ∷ []) h in
      let known = first_test kind.Unknown at (is_declared funs others n) (test kind.WrongKind at (is_among (names_of funs) n) ∷ test kind.Width at (results_at funs others (fun_at funs others n) == 1) ∷ []) low.1 in
      let among = first_test kind.WrongKind at (is_among (names_of funs) n) (test kind.Width at (results_at funs others (fun_at funs others n) == 1) ∷ []) known.1 in
      let one = first_test kind.Width at (results_at funs others (fun_at funs others n) == 1) [] among.1 in
      let within : fun_at funs others n < length (names_of funs) = placed (names_of funs) n (place_among (names_of funs) n) (length funs) refl (has_place (names_of funs) n ∙ among.0) in
      let w = widths funs (fun_at funs others n) (subst (λ m. fun_at funs others n < m) (length-map funs (λ f. f.name)) within) (eqb-true _ 1 one.0) in
      let r : rank_of funs (fun_at funs others n) < 8 = ltb-true _ 8 low.0 in
      record { params = w.0; widths = w.1; rank = omega (arith, r) }

  -- ---- what each state leads to

  pub record IsTree (scope before after : List Text) (t : Tree) : Type 0 where
    pub fits : FitsTree funs scope before after t
    pub shallow : IsShallow t

  pub record AreTrees (scope before after : List Text) (ts : List Tree) : Type 0 where
    pub fits : FitsAll funs scope before after (all_of ts)
    pub shallow : AreShallow ts

  more_trees : (scope before between after : List Text) (ts : List Tree) (t : Tree) → AreTrees scope before between ts → IsTree scope between after t → AreTrees scope before after (ts ++ t ∷ [])
  more_trees scope before between after ts t h g = record { fits = trees_more funs scope before between after ts t h.fits g.fits; shallow = shallow_more ts t h.shallow g.shallow }

  no_trees : (scope before : List Text) → AreTrees scope before before []
  no_trees scope before = record { fits = no_arguments funs scope before; shallow = tt }

  pub record IsNew (scope : List Text) (n : Text) : Type 0 where
    pub word : is_name n ≡ true
    pub new : is_among scope n ≡ false
    pub few : length scope < 32

  pub record IsHead (h : Head) : Type 0 where
    pub few_funs : length funs < 256
    pub word : is_name h.name ≡ true
    pub new : is_declared funs others h.name ≡ false
    pub words : list_all is_name h.params ≡ true
    pub distinct : are_distinct h.params ≡ true
    pub few : length h.params ≤ 16

  pub record AreResults (h : Head) (ns : List Text) (rs : List Tree) : Type 0 where
    pub head : IsHead h
    pub some_params : 1 ≤ length h.params
    pub trees : AreTrees h.params [] ns rs
    pub few : length rs ≤ 16

  pub record IsWholeFun (f : Fun) : Type 0 where
    pub follows : MayFollow funs f
    pub new : is_among others f.name ≡ false

  abbrev pub FunLeads : State → Type 0
  FunLeads (token text s) = FunLeads s
  FunLeads (new_name scope k) = (n : Text) → IsNew scope n → FunLeads (k n)
  FunLeads (expr c ns k) = (ms : List Text) (t : Tree) → IsTree c.scope ns ms t → FunLeads (k ms t)
  FunLeads (operand l c ns k) = (ms : List Text) (t : Tree) → IsTree c.scope ns ms t → FunLeads (k ms t)
  FunLeads (more l c ns a k) = (b : List Text) × IsTree c.scope b ns a × ((ms : List Text) (t : Tree) → IsTree c.scope b ms t → FunLeads (k ms t))
  FunLeads (arguments f c ns args k) = (b : List Text) × AreTrees c.scope b ns args × IsCalled f × ((ms : List Text) (t : Tree) → IsTree c.scope b ms t → FunLeads (k ms t))
  FunLeads fun = Unit {0}
  FunLeads fun_name = length funs < 256
  FunLeads (param h) = IsHead h
  FunLeads (more_params h) = IsHead h × (1 ≤ length h.params)
  FunLeads (body h) = IsHead h × (1 ≤ length h.params)
  FunLeads (result h ns rs) = AreResults h ns rs
  FunLeads (more_results h ns rs) = AreResults h ns rs × (1 ≤ length rs)
  FunLeads (end_fun h ns rs) = AreResults h ns rs × (1 ≤ length rs)
  FunLeads (done f) = IsWholeFun f

  abbrev pub FunLeadsOn : Turn → Type 0
  FunLeadsOn (takes due s) = failing due ≡ None → FunLeads s
  FunLeadsOn (ends f) = IsWholeFun f
  FunLeadsOn stops = Unit {0}

  pub record FunTurns (x : Turn) : Type 0 where
    pub leads : FunLeadsOn x

  stopped : FunTurns stops
  stopped = record { leads = tt }

  going : (s : State) → FunLeads s → FunTurns (takes [] s)
  going s h = record { leads = λ _. h }

  -- at a word one state, and else another turn
  at_word : (b : Bool) (s : State) (y : Turn) → FunLeads s → FunTurns y → FunTurns (if b then takes [] s else y)
  at_word true s y h g = going s h
  at_word false s y h g = g

  under_tests : (tests : List Test) (x : Turn) → FunTurns x → FunTurns (under tests x)
  under_tests tests (takes due s) h = record { leads = λ none. h.leads (behind_tests tests due none) }
  under_tests tests (ends f) h = record { leads = h.leads }
  under_tests tests stops h = stopped

  abbrev GoesOn : Turn → Type 0
  GoesOn (ends f) = ⊥
  GoesOn x = Unit {0}

  -- where a test comes first, what is behind it may rest on it
  under_test : (k : Kind) (at : ℕ) (b : Bool) (x : Turn) → GoesOn x → (b ≡ true → FunTurns x) → FunTurns (under (test k at b ∷ []) x)
  under_test k at b (takes due s) n h = record { leads = λ none. let first = first_test k at b due none in (h first.0).leads first.1 }
  under_test k at b (ends f) n h = absurd n
  under_test k at b stops n h = stopped

  by_name : (due : List Test) (f : Form) (k : Text → State) → IsSpelt f → ((n : Text) → is_name n ≡ true → word_in f ≡ n → failing due ≡ None → FunLeads (k n)) → FunTurns (name_turn due (name_in f) k)
  by_name due f k spelt h = by (name_in f) refl
    where
      by : (o : Option Text) → name_in f ≡ o → FunTurns (name_turn due o k)
      by None is = stopped
      by (Some n) is = record { leads = λ none. h n (spelt_name f n spelt is) (name_is f n is) none }

  -- ---- parts, behind their first words

  abbrev Follows : List Text → List Text → Then → Type 0
  Follows scope b k = (ms : List Text) (t : Tree) → IsTree scope b ms t → FunLeads (k ms t)

  module _ (c : Context) (ns : List Text) (k : Then) (h : Follows c.scope ns k) where
    by_choice : FunLeads (choice_rest c ns k)
    by_choice n1 a ha n2 b hb n3 d hd =
        h n3 _ (record { fits = tree_choice funs c.scope ns n1 n2 n3 a b d ha.fits hb.fits hd.fits; shallow = shallow_three choice a b d })

    by_binding : FunLeads (binding_rest c ns k)
    by_binding x new n1 a ha n2 b hb =
        h n2 _ (record { fits = tree_binding funs c.scope ns n1 n2 x a b new.word new.new new.few ha.fits hb.fits; shallow = shallow_two binding a b })

    by_looping : FunLeads (looping_rest c ns k)
    by_looping i new n1 n hn a new2 n2 s hs n3 e he =
        h n3 _ (record {
          fits = tree_looping funs c.scope ns n1 n2 n3 i a n s e new.word new.new new.few new2.word new2.new new2.few hn.fits hs.fits he.fits;
          shallow = shallow_three looping n s e;
        })

    by_pair : (op : BinOp) → FunLeads (pair_rest op c ns k)
    by_pair op n1 a ha n2 b hb = h n2 _ (record { fits = tree_binary funs c.scope ns op n1 n2 a b ha.fits hb.fits; shallow = shallow_two (binary op) a b })

    by_call : (f : Callee) → IsCalled f → FunLeads (call_rest f c ns k)
    by_call f called n1 a ha = (ns, more_trees c.scope ns ns n1 [] a (no_trees c.scope ns) ha, called, h)

    by_variable : (at : ℕ) (w : Text) → FunTurns (variable_turn funs others at (place_among c.scope w) ns k)
    by_variable at w = record {
      leads = λ due.
          let found = first_test kind.Unknown at (is_some (place_among c.scope w)) [] due in
          h ns _ (record { fits = fits_variable funs c.scope ns _ (placed c.scope w (place_among c.scope w) 0 refl found.0); shallow = lit≤ tt });
    }

    by_minus : FunLeads (operand level.Unary c ns (λ ms a. k ms (over_one minus a)))
    by_minus ms a ha = h ms _ (record { fits = tree_minus funs c.scope ns ms a ha.fits; shallow = shallow_one minus a })

    by_opposite : FunLeads (operand level.Unary c ns (λ ms a. k ms (over_one opposite a)))
    by_opposite ms a ha = h ms _ (record { fits = tree_opposite funs c.scope ns ms a ha.fits; shallow = shallow_one opposite a })

    by_number : (f : Form) → IsSpelt f → FunLeads (k ns (Some (Lit (pos (number_in f)))))
    by_number f spelt = h ns _ (record { fits = fits_number funs c.scope ns _ (spelt_number f spelt); shallow = lit≤ tt })

  -- behind an operator
  by_second : (l : Level) (op : BinOp) (c : Context) (b ns : List Text) (a : Tree) (k : Then) → IsTree c.scope b ns a → Follows c.scope b k → FunLeads (second_operand l op c ns a k)
  by_second l op c b ns a k ha h ms d hd = by l (record { fits = tree_binary funs c.scope b op ns ms a d ha.fits hd.fits; shallow = shallow_two (binary op) a d })
    where
      by : (l : Level) → IsTree c.scope b ms (over_two (binary op) a d) → FunLeads (grown l c ms (over_two (binary op) a d) k)
      by level.Comparison g = h ms _ g
      by level.Or g = (b, g, h)
      by level.And g = (b, g, h)
      by level.Sum g = (b, g, h)
      by level.Product g = (b, g, h)
      by level.Unary g = (b, g, h)

  -- ---- expressions

  module _ (t : Lexeme) (spelt : IsSpelt t.form) where
    by_unary_first : (f : First) (c : Context) (ns : List Text) (k : Then) → Follows c.scope ns k → FunTurns (unary_first funs others f t c ns k)
    by_unary_first first.Minus c ns k h = going _ (by_minus c ns k h)
    by_unary_first first.Not c ns k h = going _ (by_opposite c ns k h)
    by_unary_first first.Number c ns k h = going _ (by_number c ns k h t.form spelt)
    by_unary_first first.Variable c ns k h = by_variable c ns k h t.at (word_in t.form)
    by_unary_first first.Call c ns k h = record { leads = λ due. by_call c ns k h _ (is_called t.at (word_in t.form) due) }
    by_unary_first (first.Pair op) c ns k h = going _ (by_pair c ns k h op)
    by_unary_first first.Parenthesis c ns k h = going _ (λ n1 a ha. h n1 a ha)
    by_unary_first first.If c ns k h = stopped
    by_unary_first first.Let c ns k h = stopped
    by_unary_first first.Loop c ns k h = stopped
    by_unary_first first.Nothing c ns k h = stopped

    by_unary : (f : First) (c : Context) (ns : List Text) (k : Then) → Follows c.scope ns k → FunTurns (unary_by funs others f t c ns k)
    by_unary f c ns k h = under_tests (opening t.at c) _ (by_unary_first f (deeper c) ns k h)

    by_prod : (f : First) (c : Context) (ns : List Text) (k : Then) → Follows c.scope ns k → FunTurns (prod_by funs others f t c ns k)
    by_prod f c ns k h = by_unary f c ns _ (λ ms a ha. (ns, ha, h))

    by_sum : (f : First) (c : Context) (ns : List Text) (k : Then) → Follows c.scope ns k → FunTurns (sum_by funs others f t c ns k)
    by_sum f c ns k h = by_prod f c ns _ (λ ms a ha. (ns, ha, h))

    by_cmp : (f : First) (c : Context) (ns : List Text) (k : Then) → Follows c.scope ns k → FunTurns (cmp_by funs others f t c ns k)
    by_cmp f c ns k h = by_sum f c ns _ (λ ms a ha. (ns, ha, h))

    by_and : (f : First) (c : Context) (ns : List Text) (k : Then) → Follows c.scope ns k → FunTurns (and_by funs others f t c ns k)
    by_and f c ns k h = by_cmp f c ns _ (λ ms a ha. (ns, ha, h))

    by_or : (f : First) (c : Context) (ns : List Text) (k : Then) → Follows c.scope ns k → FunTurns (or_by funs others f t c ns k)
    by_or f c ns k h = by_and f c ns _ (λ ms a ha. (ns, ha, h))

    by_operand : (l : Level) (f : First) (c : Context) (ns : List Text) (k : Then) → Follows c.scope ns k → FunTurns (operand_by funs others l f t c ns k)
    by_operand level.Unary = by_unary
    by_operand level.Product = by_prod
    by_operand level.Sum = by_sum
    by_operand level.Comparison = by_cmp
    by_operand level.And = by_and
    by_operand level.Or = by_or

    by_expr_first : (f : First) (c : Context) (ns : List Text) (k : Then) → Follows c.scope ns k → FunTurns (expr_first funs others f t c ns k)
    by_expr_first first.If c ns k h = going _ (by_choice c ns k h)
    by_expr_first first.Let c ns k h = going _ (by_binding c ns k h)
    by_expr_first first.Loop c ns k h = going _ (by_looping c ns k h)
    by_expr_first first.Minus c ns k h = by_or first.Minus c ns k h
    by_expr_first first.Not c ns k h = by_or first.Not c ns k h
    by_expr_first first.Number c ns k h = by_or first.Number c ns k h
    by_expr_first first.Variable c ns k h = by_or first.Variable c ns k h
    by_expr_first first.Call c ns k h = by_or first.Call c ns k h
    by_expr_first (first.Pair op) c ns k h = by_or (first.Pair op) c ns k h
    by_expr_first first.Parenthesis c ns k h = by_or first.Parenthesis c ns k h
    by_expr_first first.Nothing c ns k h = by_or first.Nothing c ns k h

    by_expr : (f : First) (c : Context) (ns : List Text) (k : Then) → Follows c.scope ns k → FunTurns (expr_by funs others f t c ns k)
    by_expr f c ns k h = under_tests (opening t.at c) _ (by_expr_first f (deeper c) ns k h)

    expr_goes_on : (f : First) (c : Context) (ns : List Text) (k : Then) → GoesOn (expr_by funs others f t c ns k)
    expr_goes_on first.If c ns k = tt
    expr_goes_on first.Let c ns k = tt
    expr_goes_on first.Loop c ns k = tt
    expr_goes_on first.Minus c ns k = tt
    expr_goes_on first.Not c ns k = tt
    expr_goes_on first.Number c ns k = tt
    expr_goes_on first.Variable c ns k = tt
    expr_goes_on first.Call c ns k = tt
    expr_goes_on (first.Pair op) c ns k = tt
    expr_goes_on first.Parenthesis c ns k = tt
    expr_goes_on first.Nothing c ns k = tt

    by_arguments : (f : Callee) (c : Context) (b ns : List Text) (args : List Tree) (k : Then) → AreTrees c.scope b ns args → IsCalled f → Follows c.scope b k → FunTurns (arguments_turn funs others t f c ns args k)
    by_arguments f c b ns args k trees called h =
        at_word _ (expr c ns (λ ms a. arguments f c ms (args ++ a ∷ []) k)) _ (λ ms a ha. (b, more_trees c.scope b ns ms args a trees ha, called, h))
        (closing _)
      where
        closing : (b' : Bool) → FunTurns (if b' then takes (test kind.Width f.at (length args == params_at funs others f.fun) ∷ []) (k ns (call_of f.fun (all_of args))) else stops)
        closing false = stopped
        closing true = record {
          leads = λ due.
              let many = first_test kind.Width f.at (length args == params_at funs others f.fun) [] due in
              let as_given : length args ≡ called.params = eqb-true _ _ many.0 ∙ params_are funs others f.fun called.params called.widths in
              h ns _ (record { fits = tree_call funs c.scope b ns f.fun called.params args called.widths as_given called.rank trees.fits; shallow = shallow_call f.fun (all_of args) });
        }

  -- ---- functions

  not_either : (a b : Bool) → (a || b) ≡ false → (a ≡ false) × (b ≡ false)
  not_either true b h = cc
  not_either false b h = (refl, h)

  not_true : (b : Bool) → not b ≡ true → b ≡ false
  not_true true h = cc
  not_true false h = refl

  one_param : (h : Head) (n : Text) → IsHead h → is_name n ≡ true → is_among h.params n ≡ false → length h.params < 16 → IsHead (record h { params = h.params ++ n ∷ [] })
  one_param h n g named new few = record {
    few_funs = g.few_funs;
    word = g.word;
    new = g.new;
    words = names_more h.params n g.words named;
    distinct = distinct_more h.params n g.distinct new;
    few = omega (arith, length-append h.params (n ∷ []));
  }

  one_result : (h : Head) (ns ms : List Text) (rs : List Tree) (t : Tree) → AreResults h ns rs → length rs < 16 → IsTree h.params ns ms t → AreResults h ms (rs ++ t ∷ []) × (1 ≤ length (rs ++ t ∷ []))
  one_result h ns ms rs t g few f = (
    record {
      head = g.head;
      some_params = g.some_params;
      trees = more_trees h.params [] ns ms rs t g.trees f;
      few = omega (arith, length-append rs (t ∷ []));
    },
    omega (arith, length-append rs (t ∷ [])),
  )

  no_results : (h : Head) → IsHead h → 1 ≤ length h.params → AreResults h [] []
  no_results h g some = record { head = g; some_params = some; trees = no_trees h.params []; few = omega arith }

  is_function : (h : Head) (ns : List Text) (rs : List Tree) → AreResults h ns rs → 1 ≤ length rs → (o : Option (List Expr)) → all_of rs ≡ o → is_some o ≡ true
      → IsWholeFun (record { name = h.name; params = h.params; results = unwrap_or o []; names = ns })
  is_function h ns rs g some None is there = cc
  is_function h ns rs g some (Some es) is there =
      let new = not_either _ _ g.head.new in
      let many = as_many rs es is in
      let fits = subst (FitsAll funs h.params [] ns) is g.trees.fits in
      record {
        follows = may_follow funs h.name h.params ns es fits g.head.few_funs g.head.word new.0 g.head.words g.head.distinct g.some_params g.head.few (omega (arith, many)) (omega (arith, many, g.few))
            (all_shallow rs es is g.trees.shallow);
        new = new.1;
      }

  -- ---- each token

  pub fun_leads_on : (s : State) (t behind : Lexeme) → IsSpelt t.form → FunLeads s → FunTurns (on funs others s t behind)
  fun_leads_on (token text s) t behind spelt h = at_word _ s _ h stopped
  fun_leads_on (new_name scope k) t behind spelt h =
      by_name _ t.form k spelt (λ n named is due.
      let few = first_test kind.Many t.at (nat_lt (length scope) 32) (test kind.Twice t.at (not (is_among scope (word_in t.form))) ∷ []) due in
      let new = first_test kind.Twice t.at (not (is_among scope (word_in t.form))) [] few.1 in
      h n (record { word = named; new = subst (λ w. is_among scope w ≡ false) is (not_true _ new.0); few = ltb-true _ 32 few.0 }))
  fun_leads_on (expr c ns k) t behind spelt h = by_expr t spelt (first_in t.form behind.form) c ns k h
  fun_leads_on (operand l c ns k) t behind spelt h = by_operand t spelt l (first_in t.form behind.form) c ns k h
  fun_leads_on (more l c ns a k) t behind spelt h = by (operator_in l t.form) (fun_leads_on (k ns a) t behind spelt (h.2 ns a h.1))
    where
      by : (o : Option BinOp) → FunTurns (on funs others (k ns a) t behind) → FunTurns (at_operator o (λ op. second_operand l op c ns a k) (on funs others (k ns a) t behind))
      by None g = g
      by (Some op) g = going _ (by_second l op c h.0 ns a k h.1 h.2)
  fun_leads_on (arguments f c ns args k) t behind spelt h = by_arguments t spelt f c h.0 ns args k h.1 h.2 h.3
  fun_leads_on fun t behind spelt h = by _
    where
      by : (b : Bool) → FunTurns (if b then takes (test kind.Many t.at (nat_lt (length funs) 256) ∷ []) fun_name else stops)
      by true = record { leads = λ due. ltb-true _ 256 (first_test kind.Many t.at (nat_lt (length funs) 256) [] due).0 }
      by false = stopped
  fun_leads_on fun_name t behind spelt h =
      by_name _ t.form _ spelt (λ n named is due.
      let new = first_test kind.Twice t.at (not (is_declared funs others (word_in t.form))) [] due in
      record { few_funs = h; word = named; new = subst (λ w. is_declared funs others w ≡ false) is (not_true _ new.0); words = refl; distinct = refl; few = omega arith })
  fun_leads_on (param h) t behind spelt g =
      by_name _ t.form _ spelt (λ n named is due.
      let few = first_test kind.Many t.at (nat_lt (length h.params) 16) (test kind.Twice t.at (not (is_among h.params (word_in t.form))) ∷ []) due in
      let new = first_test kind.Twice t.at (not (is_among h.params (word_in t.form))) [] few.1 in
      (one_param h n g named (subst (λ w. is_among h.params w ≡ false) is (not_true _ new.0)) (ltb-true _ 16 few.0), omega (arith, length-append h.params (n ∷ []))))
  fun_leads_on (more_params h) t behind spelt g = at_word _ (param h) _ g.0 (at_word _ (token (codes "=") (body h)) _ g stopped)
  fun_leads_on (body h) t behind spelt g =
      at_word _ (result h [] []) _ (no_results h g.0 g.1)
      (by_expr t spelt (first_in t.form behind.form) (outermost funs others h) [] _ (λ ns e f. one_result h [] ns [] e (no_results h g.0 g.1) (omega arith) f))
  fun_leads_on (result h ns rs) t behind spelt g =
      let f = first_in t.form behind.form in
      under_test kind.Many t.at _ _ (expr_goes_on t spelt f (outermost funs others h) ns _)
      (λ few. by_expr t spelt f (outermost funs others h) ns _ (λ ms e d. one_result h ns ms rs e g (ltb-true _ 16 few) d))
  fun_leads_on (more_results h ns rs) t behind spelt g = at_word _ (result h ns rs) _ g.0 (at_word _ (end_fun h ns rs) _ g stopped)
  fun_leads_on (end_fun h ns rs) t behind spelt g = by _
    where
      by : (b : Bool) → FunTurns (if b then takes (test kind.Deep h.at (is_some (all_of rs)) ∷ []) (done (function_of funs others h ns rs)) else stops)
      by true = record { leads = λ due. is_function h ns rs g.0 g.1 (all_of rs) refl (first_test kind.Deep h.at (is_some (all_of rs)) [] due).0 }
      by false = stopped
  fun_leads_on (done f) t behind spelt h = record { leads = h }
