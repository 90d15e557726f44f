-- Expressions that keep the rules on a function.
use Rattle.std.proofs.Common.{◌≡◌, ◌≤◌, ◌<◌, ℕ, suc, max, Bool, true, false, not, ◌&&◌, nat_le, nat_lt, List, [], ◌∷◌, ◌++◌, length, Option, Some, None, option_map, refl, ap, sym, ◌∙◌, append_assoc, append-nil, arith, lt-ltb, if◌then◌else◌, pos, int_le}
use Rattle.std.proofs.lemmas.Bool.{eq-eqb, le-leb}
use Rattle.msl_fun.specs.declared.expr.Expr.{Expr, end_of-Expr}
use Rattle.msl_fun.specs.declared.expr.BinOp.{BinOp}
use Rattle.msl_fun.specs.declared.expr.Expr.TheVariants.{Lit, Slot}
use Rattle.msl_fun.specs.declared.funs.Fun.{Fun}
use Rattle.msl_fun.specs.Shapes.{minus, opposite, binary, choice, binding, looping, calling, row}
use Rattle.msl_base.specs.Names.{Text, is_among}
use Rattle.msl_lex.specs.Names.{is_name}
use Rattle.msl_fun.specs.Checks.{names_after, names_after_all, rank_called, rank_called_by, rank_of, count_of, widths_of, takes, and_then, bind, where_true, depth}
use Rattle.msl_fun_read.specs.Grammar.{Tree, if_shallow, over_one, over_two, over_three, call_of, all_of}
use Rattle.msl_fun_read.specs.Parsing.{Fits, FitsTree}
use Rattle.msl_fun_read.specs.Declaring.{FitList, FitsAll}

-- ---- lists of names

joined : (b m a x y : List Text) → m ≡ b ++ x → a ≡ m ++ y → a ≡ b ++ (x ++ y)
joined b m a x y p q = q ∙ (ap (λ (ns : List Text). ns ++ y) p ∙ append_assoc b x y)

-- one part reads its names and the next the rest
both : (f g : List Text → Option (List Text)) (x y rest : List Text) → ((r : List Text) → f (x ++ r) ≡ Some r) → ((r : List Text) → g (y ++ r) ≡ Some r)
    → and_then (f ((x ++ y) ++ rest)) g ≡ Some rest
both f g x y rest p q = ap (λ (ns : List Text). and_then (f ns) g) (append_assoc x y rest) ∙ (ap (λ (o : Option (List Text)). and_then o g) (p (y ++ rest)) ∙ q rest)

at_most : (x y n : ℕ) → x ≤ n → y ≤ n → max x y ≤ n
at_most x y n p q = omega (arith, p, q)

-- ---- lists of trees

abbrev and_one : Option (List Expr) → Tree → Option (List Expr)
and_one None t = None
and_one (Some es) None = None
and_one (Some es) (Some e) = Some (es ++ e ∷ [])

all_of_more : (ts : List Tree) (t : Tree) → all_of (ts ++ t ∷ []) ≡ and_one (all_of ts) t
all_of_more [] None = refl
all_of_more [] (Some e) = refl
all_of_more (None ∷ ts) t = refl
all_of_more (Some d ∷ ts) t = ap (option_map (λ es. d ∷ es)) (all_of_more ts t) ∙ along (all_of ts) t
  where
    along : (o : Option (List Expr)) (t : Tree) → option_map (λ es. d ∷ es) (and_one o t) ≡ and_one (option_map (λ es. d ∷ es) o) t
    along None t = refl
    along (Some es) None = refl
    along (Some es) (Some e) = refl

pub as_many : (ts : List Tree) (es : List Expr) → all_of ts ≡ Some es → length es ≡ length ts
as_many [] es h = cc
as_many (None ∷ ts) es h = cc
as_many (Some d ∷ ts) es h = along (λ fs. as_many ts fs) (all_of ts) refl h
  where
    along : ((fs : List Expr) → all_of ts ≡ Some fs → length fs ≡ length ts) → (o : Option (List Expr)) → all_of ts ≡ o → option_map (λ es. d ∷ es) o ≡ Some es → length es ≡ suc (length ts)
    along more None e h = cc
    along more (Some fs) e h = let p : es ≡ d ∷ fs = cc in rw p (ap suc (more fs e))

module _ (funs : List Fun) where
  -- ---- one expression

  pub fits_minus : (scope b a : List Text) (e : Expr) → Fits funs scope b a e → Fits funs scope b a (minus e)
  fits_minus scope b a e h = record { bound = h.bound; names = h.names; scoped = h.scoped; rank = h.rank }

  pub fits_opposite : (scope b a : List Text) (e : Expr) → Fits funs scope b a e → Fits funs scope b a (opposite e)
  fits_opposite scope b a e h = record { bound = h.bound; names = h.names; scoped = h.scoped; rank = h.rank }

  pub fits_binary : (op : BinOp) (scope b m a : List Text) (x y : Expr) → Fits funs scope b m x → Fits funs scope m a y → Fits funs scope b a (binary op x y)
  fits_binary op scope b m a x y hx hy = record {
    bound = hx.bound ++ hy.bound;
    names = joined b m a hx.bound hy.bound hx.names hy.names;
    scoped = λ rest. both (names_after funs x scope) (names_after funs y scope) hx.bound hy.bound rest hx.scoped hy.scoped;
    rank = at_most _ _ 7 hx.rank hy.rank;
  }

  pub fits_choice : (scope b m n a : List Text) (c x y : Expr) → Fits funs scope b m c → Fits funs scope m n x → Fits funs scope n a y → Fits funs scope b a (choice c x y)
  fits_choice scope b m n a c x y hc hx hy = record {
    bound = hc.bound ++ (hx.bound ++ hy.bound);
    names = joined b m a hc.bound (hx.bound ++ hy.bound) hc.names (joined m n a hx.bound hy.bound hx.names hy.names);
    scoped = λ rest. both (names_after funs c scope) (λ l. and_then (names_after funs x scope l) (names_after funs y scope)) hc.bound (hx.bound ++ hy.bound) rest hc.scoped
        (λ r. both (names_after funs x scope) (names_after funs y scope) hx.bound hy.bound r hx.scoped hy.scoped);
    rank = at_most _ _ 7 hc.rank (at_most _ _ 7 hx.rank hy.rank);
  }

  may_bind : (scope : List Text) (n : Text) → is_name n ≡ true → is_among scope n ≡ false → length scope < 32 → (is_name n && not (is_among scope n) && nat_lt (length scope) 32) ≡ true
  may_bind scope n p q h = rw (p, q, lt-ltb (length scope) 32 h) refl

  pub fits_binding : (scope b m a : List Text) (n : Text) (x y : Expr) → is_name n ≡ true → is_among scope n ≡ false → length scope < 32
      → Fits funs scope (b ++ n ∷ []) m x → Fits funs (scope ++ n ∷ []) m a y → Fits funs scope b a (binding x y)
  fits_binding scope b m a n x y p q few hx hy = record {
    bound = n ∷ (hx.bound ++ hy.bound);
    names = joined (b ++ n ∷ []) m a hx.bound hy.bound hx.names hy.names ∙ append_assoc b (n ∷ []) (hx.bound ++ hy.bound);
    scoped = λ rest. ap (λ (t : Bool). where_true t (and_then (names_after funs x scope ((hx.bound ++ hy.bound) ++ rest)) (names_after funs y (scope ++ n ∷ [])))) (may_bind scope n p q few)
        ∙ both (names_after funs x scope) (names_after funs y (scope ++ n ∷ [])) hx.bound hy.bound rest hx.scoped hy.scoped;
    rank = at_most _ _ 7 hx.rank hy.rank;
  }

  pub fits_looping : (scope b m o a : List Text) (i v : Text) (n s e : Expr)
      → is_name i ≡ true → is_among scope i ≡ false → length scope < 32
      → is_name v ≡ true → is_among (scope ++ i ∷ []) v ≡ false → length (scope ++ i ∷ []) < 32
      → Fits funs scope (b ++ i ∷ []) m n → Fits funs scope (m ++ v ∷ []) o s → Fits funs (scope ++ i ∷ v ∷ []) o a e → Fits funs scope b a (looping n s e)
  fits_looping scope b m o a i v n s e pi qi fi pv qv fv hn hs he = record {
    bound = i ∷ (hn.bound ++ (v ∷ (hs.bound ++ he.bound)));
    names = joined (b ++ i ∷ []) m a hn.bound (v ∷ (hs.bound ++ he.bound)) hn.names
        (joined (m ++ v ∷ []) o a hs.bound he.bound hs.names he.names ∙ append_assoc m (v ∷ []) (hs.bound ++ he.bound))
        ∙ append_assoc b (i ∷ []) (hn.bound ++ (v ∷ (hs.bound ++ he.bound)));
    scoped = λ rest. ap (λ (t : Bool). where_true t (and_then (names_after funs n scope ((hn.bound ++ (v ∷ (hs.bound ++ he.bound))) ++ rest)) last)) (may_bind scope i pi qi fi)
        ∙ both (names_after funs n scope) last hn.bound (v ∷ (hs.bound ++ he.bound)) rest hn.scoped
        (λ r. ap (λ (t : Bool). where_true t (and_then (names_after funs s scope ((hs.bound ++ he.bound) ++ r)) (names_after funs e (scope ++ i ∷ v ∷ [])))) (may_bind (scope ++ i ∷ []) v pv qv fv)
        ∙ both (names_after funs s scope) (names_after funs e (scope ++ i ∷ v ∷ [])) hs.bound he.bound r hs.scoped he.scoped);
    rank = at_most _ _ 7 hn.rank (at_most _ _ 7 hs.rank he.rank);
  }
    where
      last : List Text → Option (List Text)
      last k = bind (scope ++ i ∷ []) k (λ z more. and_then (names_after funs s scope more) (names_after funs e (scope ++ i ∷ z ∷ [])))

  -- ---- arguments

  pub no_arguments : (scope b : List Text) → FitList funs scope b b []
  no_arguments scope b = record { bound = []; names = sym (append-nil b); scoped = λ rest. refl; rank = omega arith }

  names_of_more : (es : List Expr) (e : Expr) (scope ns : List Text) → names_after_all funs (row (es ++ e ∷ [])) scope ns ≡ and_then (names_after_all funs (row es) scope ns) (names_after funs e scope)
  names_of_more [] e scope ns = last (names_after funs e scope ns)
    where
      last : (o : Option (List Text)) → and_then o (names_after_all funs end_of-Expr scope) ≡ o
      last None = refl
      last (Some ms) = refl
  names_of_more (d ∷ es) e scope ns = along (λ ms. names_of_more es e scope ms) (names_after funs d scope ns)
    where
      along : ((ms : List Text) → names_after_all funs (row (es ++ e ∷ [])) scope ms ≡ and_then (names_after_all funs (row es) scope ms) (names_after funs e scope))
          → (o : Option (List Text)) → and_then o (names_after_all funs (row (es ++ e ∷ [])) scope) ≡ and_then (and_then o (names_after_all funs (row es) scope)) (names_after funs e scope)
      along more None = refl
      along more (Some ms) = more ms

  rank_of_more : (es : List Expr) (e : Expr) → rank_called_by (rank_of funs) (row (es ++ e ∷ [])) ≡ max (rank_called_by (rank_of funs) (row es)) (rank_called (rank_of funs) e)
  rank_of_more [] e = omega arith
  rank_of_more (d ∷ es) e = rw (rank_of_more es e) (omega arith)

  pub one_more : (scope b m a : List Text) (es : List Expr) (e : Expr) → FitList funs scope b m es → Fits funs scope m a e → FitList funs scope b a (es ++ e ∷ [])
  one_more scope b m a es e hs he = record {
    bound = hs.bound ++ he.bound;
    names = joined b m a hs.bound he.bound hs.names he.names;
    scoped = λ rest. names_of_more es e scope ((hs.bound ++ he.bound) ++ rest) ∙ both (names_after_all funs (row es) scope) (names_after funs e scope) hs.bound he.bound rest hs.scoped he.scoped;
    rank = rw (rank_of_more es e) (at_most _ _ 7 hs.rank he.rank);
  }

  count_is : (es : List Expr) → count_of funs (row es) ≡ length es
  count_is [] = refl
  count_is (e ∷ es) = rw (count_is es) (omega arith)

  widths_fit : (f p : ℕ) (es : List Expr) → widths_of funs f ≡ Some (p, 1) → length es ≡ p → takes (widths_of funs f) (count_of funs (row es)) ≡ true
  widths_fit f p es w n = rw (w, count_is es, n, eq-eqb p p refl) refl

  fits_call : (scope b a : List Text) (f p : ℕ) (es : List Expr) → widths_of funs f ≡ Some (p, 1) → length es ≡ p → rank_of funs f ≤ 7 → FitList funs scope b a es → Fits funs scope b a (calling f es)
  fits_call scope b a f p es w n r h = record {
    bound = h.bound;
    names = h.names;
    scoped = λ rest. ap (λ (t : Bool). where_true t (names_after_all funs (row es) scope (h.bound ++ rest))) (widths_fit f p es w n) ∙ h.scoped rest;
    rank = at_most _ _ 7 r h.rank;
  }

  -- ---- trees

  module _ (scope b : List Text) where
    shallow : (a : List Text) (e : Expr) → Fits funs scope b a e → FitsTree funs scope b a (if_shallow e)
    shallow a e h = either (nat_le (depth e) 100)
      where
        either : (t : Bool) → FitsTree funs scope b a (if t then Some e else None)
        either true = h
        either false = tt

    pub tree_minus : (a : List Text) (t : Tree) → FitsTree funs scope b a t → FitsTree funs scope b a (over_one minus t)
    tree_minus a None h = tt
    tree_minus a (Some e) h = shallow a (minus e) (fits_minus scope b a e h)

    pub tree_opposite : (a : List Text) (t : Tree) → FitsTree funs scope b a t → FitsTree funs scope b a (over_one opposite t)
    tree_opposite a None h = tt
    tree_opposite a (Some e) h = shallow a (opposite e) (fits_opposite scope b a e h)

    pub tree_binary : (op : BinOp) (m a : List Text) (t u : Tree) → FitsTree funs scope b m t → FitsTree funs scope m a u → FitsTree funs scope b a (over_two (binary op) t u)
    tree_binary op m a None u h g = tt
    tree_binary op m a (Some x) None h g = tt
    tree_binary op m a (Some x) (Some y) h g = shallow a (binary op x y) (fits_binary op scope b m a x y h g)

    pub tree_choice : (m n a : List Text) (t u v : Tree) → FitsTree funs scope b m t → FitsTree funs scope m n u → FitsTree funs scope n a v → FitsTree funs scope b a (over_three choice t u v)
    tree_choice m n a None u v h g f = tt
    tree_choice m n a (Some x) None v h g f = tt
    tree_choice m n a (Some x) (Some y) None h g f = tt
    tree_choice m n a (Some x) (Some y) (Some z) h g f = shallow a (choice x y z) (fits_choice scope b m n a x y z h g f)

    pub tree_binding : (m a : List Text) (n : Text) (t u : Tree) → is_name n ≡ true → is_among scope n ≡ false → length scope < 32
        → FitsTree funs scope (b ++ n ∷ []) m t → FitsTree funs (scope ++ n ∷ []) m a u → FitsTree funs scope b a (over_two binding t u)
    tree_binding m a n None u p q few h g = tt
    tree_binding m a n (Some x) None p q few h g = tt
    tree_binding m a n (Some x) (Some y) p q few h g = shallow a (binding x y) (fits_binding scope b m a n x y p q few h g)

    pub tree_looping : (m o a : List Text) (i v : Text) (t u w : Tree) → is_name i ≡ true → is_among scope i ≡ false → length scope < 32
        → is_name v ≡ true → is_among (scope ++ i ∷ []) v ≡ false → length (scope ++ i ∷ []) < 32
        → FitsTree funs scope (b ++ i ∷ []) m t → FitsTree funs scope (m ++ v ∷ []) o u → FitsTree funs (scope ++ i ∷ v ∷ []) o a w → FitsTree funs scope b a (over_three looping t u w)
    tree_looping m o a i v None u w pi qi fi pv qv fv h g f = tt
    tree_looping m o a i v (Some x) None w pi qi fi pv qv fv h g f = tt
    tree_looping m o a i v (Some x) (Some y) None pi qi fi pv qv fv h g f = tt
    tree_looping m o a i v (Some x) (Some y) (Some z) pi qi fi pv qv fv h g f =
        shallow a (looping x y z) (fits_looping scope b m o a i v x y z pi qi fi pv qv fv h g f)

    pub tree_call : (a : List Text) (f p : ℕ) (args : List Tree) → widths_of funs f ≡ Some (p, 1) → length args ≡ p → rank_of funs f ≤ 7
        → FitsAll funs scope b a (all_of args) → FitsTree funs scope b a (call_of f (all_of args))
    tree_call a f p args w n r h = either (all_of args) (as_many args) h
      where
        either : (o : Option (List Expr)) → ((es : List Expr) → o ≡ Some es → length es ≡ length args) → FitsAll funs scope b a o → FitsTree funs scope b a (call_of f o)
        either None many g = tt
        either (Some es) many g = shallow a (calling f es) (fits_call scope b a f p es w (many es refl ∙ n) r g)

    pub trees_more : (m a : List Text) (ts : List Tree) (t : Tree) → FitsAll funs scope b m (all_of ts) → FitsTree funs scope m a t → FitsAll funs scope b a (all_of (ts ++ t ∷ []))
    trees_more m a ts t h g = rw (all_of_more ts t) (either (all_of ts) t h g)
      where
        either : (o : Option (List Expr)) (t : Tree) → FitsAll funs scope b m o → FitsTree funs scope m a t → FitsAll funs scope b a (and_one o t)
        either None t h g = tt
        either (Some es) None h g = tt
        either (Some es) (Some e) h g = one_more scope b m a es e h g

  pub fits_variable : (scope b : List Text) (k : ℕ) → k < length scope → Fits funs scope b b (Slot k)
  fits_variable scope b k h = record {
    bound = [];
    names = sym (append-nil b);
    scoped = λ rest. ap (λ (t : Bool). where_true t (Some rest)) (lt-ltb k (length scope) h);
    rank = omega arith;
  }

  pub fits_number : (scope b : List Text) (n : ℕ) → n ≤ 9223372036854775807 → Fits funs scope b b (Lit (pos n))
  fits_number scope b n h = record {
    bound = [];
    names = sym (append-nil b);
    scoped = λ rest. ap (λ (t : Bool). where_true t (Some rest)) (small n h);
    rank = omega arith;
  }
    where
      small : (n : ℕ) → n ≤ 9223372036854775807 → (int_le (pos 0) (pos n) && int_le (pos n) (pos 9223372036854775807)) ≡ true
      small n h = rw (le-leb 0 n (omega arith), le-leb n 9223372036854775807 h) refl
