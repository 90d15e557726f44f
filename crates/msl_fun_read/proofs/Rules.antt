-- The rules of the grammar, part by part: what is still to come behind each.
use Rattle.std.proofs.Common.{◌≡◌, ◌≢◌, ◌≤◌, ◌<◌, ◌+◌, ℕ, Some, Bool, true, false, List, [], ◌∷◌, ◌++◌, length, drop, Result, Ok, Err, IfOk, MatchResult, IsTrue, if◌then◌else◌, nat_lt, codes, refl, sym, ap, ◌∙◌, subst, arith, length-drop, length-append}
use Rattle.std.proofs.lemmas.List.Quantifiers.{position-Some}
use Rattle.std.specs.Str.{bytes_eq}
use Rattle.msl_lex.specs.declared.kind.Kind.TheVariants.{Expected}
use Rattle.msl_lex.specs.Lexemes.{Lexeme, Form, word, number, sign, close}
use Rattle.msl_fun.specs.declared.expr.BinOp.{BinOp}
use Rattle.msl_fun.specs.declared.expr.BinOp.TheVariants.{Min, Max}
use Rattle.msl_fun_read.specs.declared.parse.draft.Draft.{Draft}
use Rattle.msl_fun_read.specs.declared.parse.first.First.{First}
use Rattle.msl_fun_read.specs.declared.parse.first.First.TheVariants as first
use Rattle.msl_fun_read.specs.declared.parse.level.Level.{Level}
use Rattle.msl_fun_read.specs.declared.parse.level.Level.TheVariants as level
use Rattle.msl_fun_read.specs.Declaring.{FitsAll}
use Rattle.msl_fun.specs.declared.funs.Fun.{Fun}
use Rattle.msl_read.specs.declared.fault.ReadFault.{ReadFault}
use Rattle.msl_read.specs.declared.fault.ReadFault.TheVariants.{At, NoMemory}
use Rattle.msl_fun.specs.Shapes.{binary, choice, binding, looping}
use Rattle.msl_base.specs.Names.{Text, is_among}
use Rattle.msl_lex.specs.Names.{reserved}
use Rattle.msl_fun.specs.Checks.{widths_of, rank_of}
use Rattle.msl_read.specs.Reading.{says, place, failing}
use Rattle.msl_read.specs.Front.{form, IsNumber}
use Rattle.msl_fun_read.specs.Grammar.{State, Then, Tree, Context, token, expr, with_names, choice_rest, binding_rest, looping_rest, pair_rest, over_two, over_three, operand, more, grown, call_of, all_of, first_in, other_first, callee_tests, reading}
use Rattle.msl_read.specs.Front.{word_in}
use Rattle.msl_read.specs.Refusals.{IsRefused}
use Rattle.msl_fun_read.specs.Parsing.{context, expr_before, two_exprs, curried, IsRead, Keeps, FitsTree}
use Rattle.msl_fun_read.specs.Binding.{name_before}
use Rattle.msl_read.specs.Refusals.{IsFailed}
use Rattle.msl_fun_read.specs.Naming.{NamesVariable, IsUnknown}
use Rattle.msl_read.proofs.Parts.{refused_along}
use Rattle.msl_fun_read.proofs.Descent.{token_taken, token_refused, first_at, begins_unary, unary_variable, unary_unknown, unary_no_call}
use Rattle.msl_fun_read.proofs.Fitting.{fits_variable, tree_call}

-- ---- a quoted token

module _ (funs : List Fun) (others : List Text) where
  pub taken : (ts us : List Lexeme) (w : Text) (s : State) → IsTrue (says w (form ts)) × (us ≡ drop 1 ts) → reading funs others ts (token w s) ≡ reading funs others us s
  taken ts us w s h = token_taken funs others ts w s h.0 ∙ ap (λ (l : List Lexeme). reading funs others l s) (sym h.1)

  pub refused : (ts : List Lexeme) (w : Text) (s : State) (e : ReadFault) → (says w (form ts) ≡ false) × (e ≡ At Expected (place ts)) → IsRefused (reading funs others ts (token w s)) e
  refused ts w s e h = subst (λ f. IsRefused (reading funs others ts (token w s)) f) (sym h.1) (token_refused funs others ts w s h.0)

-- ---- what follows a part

-- a token
abbrev pub before_1 : Text → (List Text × Tree → State) → List Text × Tree → State
before_1 w k p = token w (k p)

abbrev pub two_2 : Tree → (List Text × (Tree × Tree) → State) → List Text × Tree → State
two_2 a k p = k (p.0, (a, p.1))

-- in this place for the second
abbrev pub two_1 : Context → (List Text × (Tree × Tree) → State) → List Text × Tree → State
two_1 d k p = expr d p.0 (curried (two_2 p.1 k))

abbrev pub pair_2 : BinOp → Tree → (List Text × Tree → State) → List Text × Tree → State
pair_2 op a k p = k (p.0, over_two (binary op) a p.1)

abbrev pub binding_2 : (List Text × Tree → State) → List Text × (Tree × Tree) → State
binding_2 k q = k (q.0, over_two binding q.1.0 q.1.1)

-- three trees of which one was read before
abbrev pub choice_2 : Tree → (List Text × Tree → State) → List Text × (Tree × Tree) → State
choice_2 a k q = k (q.0, over_three choice a q.1.0 q.1.1)

abbrev pub looping_4 : Tree → (List Text × Tree → State) → List Text × (Tree × Tree) → State
looping_4 n k q = k (q.0, over_three looping n q.1.0 q.1.1)

module _ (c : Context) where
  abbrev pub pair_1 : BinOp → (List Text × Tree → State) → List Text × Tree → State
  pair_1 op k p = expr_before c p.0 (codes ")") (curried (pair_2 op p.1 k))

  abbrev pub choice_1 : (List Text × Tree → State) → List Text × Tree → State
  choice_1 k p = two_exprs c c p.0 (codes "else") (choice_2 p.1 k)

  abbrev pub binding_1 : List Text → (List Text × Tree → State) → Text → State
  binding_1 n0 k x = two_exprs c (with_names (x ∷ []) c) (n0 ++ x ∷ []) (codes "in") (binding_2 k)

  abbrev pub looping_3 : Text → List Text → Tree → (List Text × Tree → State) → Text → State
  looping_3 i m n k y = two_exprs c (with_names (i ∷ y ∷ []) c) (m ++ y ∷ []) (codes "in") (looping_4 n k)

  abbrev pub looping_2 : Text → (List Text × Tree → State) → List Text × Tree → State
  looping_2 i k p = name_before (c.scope ++ i ∷ []) (codes "=") (looping_3 i p.0 p.1 k)

  abbrev pub looping_1 : List Text → (List Text × Tree → State) → Text → State
  looping_1 n0 k i = expr_before c (n0 ++ i ∷ []) (codes ",") (curried (looping_2 i k))

-- ---- the forms of an expression, by the reading of their parts

module _ (funs : List Fun) (others : List Text) where
  -- reading goes on behind a part, with its tree, whatever follows
  abbrev pub Reads : (Then → State) → List Lexeme → List Lexeme → List Text → Tree → Type 0
  Reads start ts us ms t = (k : Then) → reading funs others ts (start k) ≡ reading funs others us (k ms t)

  abbrev pub ReadsName : List Text → Text → List Lexeme → List Lexeme → Text → Type 0
  ReadsName scope text ts us x = (k : Text → State) → reading funs others ts (name_before scope text k) ≡ reading funs others us (k x)

  -- another tree that is the same
  with_tree : (us : List Lexeme) (ms : List Text) (t u : Tree) (k : Then) → u ≡ t → reading funs others us (k ms t) ≡ reading funs others us (k ms u)
  with_tree us ms t u k p = ap (λ (v : Tree). reading funs others us (k ms v)) (sym p)

  module _ (c : Context) where
    -- ---- an expression and a token

    pub before_reads : (w : Text) (ts us vs : List Lexeme) (ns ms : List Text) (a : Tree) → Reads (expr c ns) ts us ms a → IsTrue (says w (form us)) × (vs ≡ drop 1 us) → Reads (expr_before c ns w) ts vs ms a
    before_reads w ts us vs ns ms a r h k = r (λ m t. token w (k m t)) ∙ taken funs others us vs w (k ms a) h

    -- ---- a choice

    abbrev choice_at_2 : Tree → Then → List Text → Tree → State
    choice_at_2 a k n b = expr c n (λ m d. k m (over_three choice a b d))

    abbrev choice_at_1 : Then → List Text → Tree → State
    choice_at_1 k n a = expr_before c n (codes "else") (choice_at_2 a k)

    module _ (ts us vs ws : List Lexeme) (n0 n1 n2 n3 : List Text) (a b d t : Tree) (e : ReadFault) where
      pub choice_reads : Reads (expr_before c n0 (codes "then")) ts us n1 a → Reads (expr_before c n1 (codes "else")) us vs n2 b → Reads (expr c n2) vs ws n3 d
          → t ≡ over_three choice a b d → Reads (choice_rest c n0) ts ws n3 t
      choice_reads p q r is k = p (choice_at_1 k) ∙ (q (choice_at_2 a k) ∙ (r (λ m x. k m (over_three choice a b x)) ∙ with_tree ws n3 (over_three choice a b d) t k is))

    -- ---- a variable

    abbrev binding_at_2 : Text → Then → List Text → Tree → State
    binding_at_2 x k n a = expr (with_names (x ∷ []) c) n (λ m b. k m (over_two binding a b))

    abbrev binding_at_1 : List Text → Then → Text → State
    binding_at_1 n0 k x = expr_before c (n0 ++ x ∷ []) (codes "in") (binding_at_2 x k)

    module _ (ts us vs ws : List Lexeme) (n0 n1 n2 n3 : List Text) (x : Text) (a b t : Tree) (e : ReadFault) where
      pub binding_reads : ReadsName c.scope (codes "=") ts us x → n1 ≡ n0 ++ x ∷ [] → Reads (expr_before c n1 (codes "in")) us vs n2 a → Reads (expr (with_names (x ∷ []) c) n2) vs ws n3 b
          → t ≡ over_two binding a b → Reads (binding_rest c n0) ts ws n3 t
      binding_reads p names q r is k = p (binding_at_1 n0 k) ∙ (ap (λ (n : List Text). reading funs others us (expr_before c n (codes "in") (binding_at_2 x k))) (sym names)
          ∙ (q (binding_at_2 x k) ∙ (r (λ m y. k m (over_two binding a y)) ∙ with_tree ws n3 (over_two binding a b) t k is)))

    -- ---- a loop

    abbrev looping_at_4 : Text → Text → Tree → Then → List Text → Tree → State
    looping_at_4 i y n k m s = expr (with_names (i ∷ y ∷ []) c) m (λ l b. k l (over_three looping n s b))

    abbrev looping_at_3 : Text → List Text → Tree → Then → Text → State
    looping_at_3 i m n k y = expr_before c (m ++ y ∷ []) (codes "in") (looping_at_4 i y n k)

    abbrev looping_at_2 : Text → Then → List Text → Tree → State
    looping_at_2 i k m n = name_before (c.scope ++ i ∷ []) (codes "=") (looping_at_3 i m n k)

    abbrev looping_at_1 : List Text → Then → Text → State
    looping_at_1 n0 k i = expr_before c (n0 ++ i ∷ []) (codes ",") (looping_at_2 i k)

    module _ (ts us vs ws xs ys : List Lexeme) (n0 n1 n2 n3 n4 n5 : List Text) (i y : Text) (n s b t : Tree) (e : ReadFault) where
      abbrev ToFirst : Type 0
      ToFirst = ReadsName c.scope (codes "below") ts us i × (n1 ≡ n0 ++ i ∷ [])

      abbrev ToTurns : Type 0
      ToTurns = ToFirst × Reads (expr_before c n1 (codes ",")) us vs n2 n

      abbrev ToSecond : Type 0
      ToSecond = ToTurns × ReadsName (c.scope ++ i ∷ []) (codes "=") vs ws y × (n3 ≡ n2 ++ y ∷ [])

      first_goes : ToFirst → (k : Then) → reading funs others ts (looping_rest c n0 k) ≡ reading funs others us (expr_before c n1 (codes ",") (looping_at_2 i k))
      first_goes h k = h.0 (looping_at_1 n0 k) ∙ ap (λ (m : List Text). reading funs others us (expr_before c m (codes ",") (looping_at_2 i k))) (sym h.1)

      turns_go : ToTurns → (k : Then) → reading funs others ts (looping_rest c n0 k) ≡ reading funs others vs (name_before (c.scope ++ i ∷ []) (codes "=") (looping_at_3 i n2 n k))
      turns_go h k = first_goes h.0 k ∙ h.1 (looping_at_2 i k)

      second_goes : ToSecond → (k : Then) → reading funs others ts (looping_rest c n0 k) ≡ reading funs others ws (expr_before c n3 (codes "in") (looping_at_4 i y n k))
      second_goes h k = turns_go h.0 k ∙ (h.1 (looping_at_3 i n2 n k) ∙ ap (λ (m : List Text). reading funs others ws (expr_before c m (codes "in") (looping_at_4 i y n k))) (sym h.2))

      pub looping_reads : ToSecond → Reads (expr_before c n3 (codes "in")) ws xs n4 s → Reads (expr (with_names (i ∷ y ∷ []) c) n4) xs ys n5 b → t ≡ over_three looping n s b → Reads (looping_rest c n0) ts ys n5 t
      looping_reads h q r is k = second_goes h k ∙ (q (looping_at_4 i y n k) ∙ (r (λ m v. k m (over_three looping n s v)) ∙ with_tree ys n5 (over_three looping n s b) t k is))

    -- ---- two in parentheses

    module _ (op : BinOp) (ts us vs ws : List Lexeme) (n0 n1 n2 : List Text) (a b t : Tree) (e : ReadFault) where
      abbrev Opens : Type 0
      Opens = IsTrue (says (codes "(") (form ts)) × (us ≡ drop 1 ts)

      abbrev pair_at_2 : Tree → Then → List Text → Tree → State
      pair_at_2 x k m y = k m (over_two (binary op) x y)

      abbrev pair_at_1 : Then → List Text → Tree → State
      pair_at_1 k m x = expr_before c m (codes ")") (pair_at_2 x k)

      pair_opens : Opens → (k : Then) → reading funs others ts (pair_rest op c n0 k) ≡ reading funs others us (expr_before c n0 (codes ",") (pair_at_1 k))
      pair_opens h k = taken funs others ts us (codes "(") (expr_before c n0 (codes ",") (pair_at_1 k)) h

      pub pair_reads : Opens → Reads (expr_before c n0 (codes ",")) us vs n1 a → Reads (expr_before c n1 (codes ")")) vs ws n2 b → t ≡ over_two (binary op) a b → Reads (pair_rest op c n0) ts ws n2 t
      pair_reads h p q is k = pair_opens h k ∙ (p (pair_at_1 k) ∙ (q (pair_at_2 a k) ∙ with_tree ws n2 (over_two (binary op) a b) t k is))

-- ---- answers

module _ (funs : List Fun) (others : List Text) where
  -- an answer further on is an answer here
  pub read_from : (ts us : List Lexeme) (start mid : Then → State) (new : Draft) (r : Result Tree ReadFault) → ((k : Then) → reading funs others ts (start k) ≡ reading funs others us (mid k))
      → IsRead funs others us mid new r → IsRead funs others ts start new r
  read_from ts us start mid new (Ok t) same h = λ k. same (curried k) ∙ h k
  read_from ts us start mid new (Err e) same h = λ k. refused_along _ _ e (same (curried k)) (h k)

  -- what keeps the rules further on keeps them here, where the variables are the same there, and fewer tokens
  pub keeps_from : (old between new : Draft) (r : Result Tree ReadFault) → between.scope ≡ old.scope → between.names ≡ old.names → length between.cursor ≤ length old.cursor
      → IfOk r (Keeps funs between new) → IfOk r (Keeps funs old new)
  keeps_from old between new (Ok t) p q l h = record { fits = rw (← p, ← q) h.fits; scope = h.scope ∙ p; shorter = omega (arith, h.shorter, l) }
  keeps_from old between new (Err e) p q l h = tt

  pub keeps_by : (old new : Draft) (r : Result Tree ReadFault) → IfOk r (FitsTree funs old.scope old.names new.names) → new.scope ≡ old.scope → length new.cursor ≤ length old.cursor
      → IfOk r (Keeps funs old new)
  keeps_by old new (Ok t) f s l = record { fits = f; scope = s; shorter = l }
  keeps_by old new (Err e) f s l = tt

  -- a call is read where its arguments fit
  pub call_fits : (scope b a : List Text) (f p : ℕ) (args : List Tree) (r : Result Tree ReadFault) → widths_of funs f ≡ Some (p, 1) → rank_of funs f ≤ 7 → FitsAll funs scope b a (all_of args)
      → IfOk r (λ t. (t ≡ call_of f (all_of args)) × (length args ≡ p)) → IfOk r (FitsTree funs scope b a)
  call_fits scope b a f p args (Ok t) w k h is = rw is.0 (tree_call funs scope b a f p args w is.1 k h)
  call_fits scope b a f p args (Err e) w k h is = tt

  -- a variable
  pub variable_read : (old new : Draft) (o : ℕ) (r : Result Tree ReadFault) → first_at old.cursor ≡ first.Variable → nat_lt o 256 ≡ true
      → MatchResult r (NamesVariable old new) (IsUnknown old) → IsRead funs others old.cursor (operand level.Unary (context old.scope o) old.names) new r
  variable_read old new o (Ok t) f l h = λ k. unary_variable funs others (context old.scope o) old.names (curried k) h.at old.cursor f l h.found ∙ rw (h.cursor, h.names, h.tree) refl
  variable_read old new o (Err e) f l h = λ k. rw h.1 (unary_unknown funs others (context old.scope o) old.names (curried k) old.cursor f l h.0)

  pub variable_keeps : (old new : Draft) (r : Result Tree ReadFault) → MatchResult r (NamesVariable old new) (IsUnknown old) → IfOk r (Keeps funs old new)
  variable_keeps old new (Ok t) h = record {
    fits = rw (h.tree, h.names) (fits_variable funs old.scope old.names h.at (position-Some (bytes_eq (word_in (form old.cursor))) old.scope h.at [] h.found).0);
    scope = h.scope;
    shorter = rw h.cursor (omega (arith, length-drop 1 old.cursor));
  }
  variable_keeps old new (Err e) h = tt

  -- a function that can't be called
  pub callee_refused : (old new : Draft) (o : ℕ) (e : ReadFault) → first_at old.cursor ≡ first.Call → nat_lt o 256 ≡ true
      → IsFailed (failing (callee_tests funs others (place old.cursor) (word_in (form old.cursor)))) e → IsRead funs others old.cursor (operand level.Unary (context old.scope o) old.names) new (Err e)
  callee_refused old new o (At kind at) f l h = λ k. unary_no_call funs others (context old.scope o) old.names (curried k) (kind, at) old.cursor f l h
  callee_refused old new o NoMemory f l h = absurd h

-- ---- a number

abbrev IsNumeral : First → Type 0
IsNumeral first.Number = Unit {0}
IsNumeral _ = ⊥

behind_test : (b : Bool) (x y : First) → (IsNumeral x → ⊥) → IsNumeral (if b then x else y) → IsNumeral y
behind_test true x y other h = absurd (other h)
behind_test false x y other h = h

other_number : (f behind : Form) → IsNumeral (other_first f behind) → IsNumber f
other_number (word w) behind h =
    absurd (behind_test (says (codes "(") behind) first.Call first.Variable (λ x. x) (behind_test (is_among reserved w) first.Nothing _ (λ x. x) h))
other_number (number n) behind h = tt
other_number (sign s) behind h = absurd h
other_number close behind h = absurd h

pub is_number : (f behind : Form) → first_in f behind ≡ first.Number → IsNumber f
is_number f behind e = other_number f behind
    (behind_test (says (codes "(") f) first.Parenthesis _ (λ x. x) (behind_test (says (codes "max") f) (first.Pair Max) _ (λ x. x) (behind_test (says (codes "min") f) (first.Pair Min) _ (λ x. x)
    (behind_test (says (codes "not") f) first.Not _ (λ x. x) (behind_test (says (codes "-") f) first.Minus _ (λ x. x) (behind_test (says (codes "loop") f) first.Loop _ (λ x. x)
    (behind_test (says (codes "let") f) first.Let _ (λ x. x) (behind_test (says (codes "if") f) first.If _ (λ x. x) (subst IsNumeral (sym e) tt)))))))))

-- ---- what begins with a token

pub begins : (f : First) → f ≢ first.If → f ≢ first.Let → f ≢ first.Loop → f ≢ first.Nothing → begins_unary f ≡ true
begins first.If a b d e = absurd (a refl)
begins first.Let a b d e = absurd (b refl)
begins first.Loop a b d e = absurd (d refl)
begins first.Minus a b d e = refl
begins first.Not a b d e = refl
begins first.Number a b d e = refl
begins first.Variable a b d e = refl
begins first.Call a b d e = refl
begins (first.Pair op) a b d e = refl
begins first.Parenthesis a b d e = refl
begins first.Nothing a b d e = absurd (e refl)

pub grown_more : (l : Level) (c : Context) (ns : List Text) (a : Tree) (k : Then) → l ≢ level.Comparison → grown l c ns a k ≡ more l c ns a k
grown_more level.Unary c ns a k h = refl
grown_more level.Product c ns a k h = refl
grown_more level.Sum c ns a k h = refl
grown_more level.Comparison c ns a k h = absurd (h refl)
grown_more level.And c ns a k h = refl
grown_more level.Or c ns a k h = refl

pub some_left : (ts : List Lexeme) → form ts ≢ close → 1 ≤ length ts
some_left [] h = absurd (h refl)
some_left (t ∷ ts) h = omega arith

pub room_for_two : (known s : List Text) (i : Text) → s ≡ known → length (known ++ i ∷ []) < 32 → length s + 2 ≤ 32
room_for_two known s i same h = rw same (omega (arith, h, length-append known (i ∷ [])))
