-- An expression that is printed is read as it is.
use Rattle.std.proofs.Common.{◌≡◌, ◌≤◌, ◌<◌, ℕ, ◌+◌, max, Bool, true, false, ◌&&◌, nat_lt, List, [], ◌∷◌, ◌++◌, length, drop, get_or, Some, pos, negsuc, int_le, codes, refl, sym, ap, subst, ◌∙◌, arith, lt-ltb}
use Rattle.std.proofs.lemmas.Bool.{le-leb, ltb-true}
use Rattle.std.specs.List.{list_all}
use Rattle.msl_base.specs.declared.limits.TheConstants.{MOST_DEPTH, MOST_OPENED}
use Rattle.msl_lex.specs.Lexemes.{Lexeme, word, sign}
use Rattle.msl_lex.specs.Printing.{Bit}
use Rattle.msl_lex.specs.Printing as printing
use Rattle.msl_fun.specs.declared.expr.BinOp.{BinOp}
use Rattle.msl_fun.specs.declared.expr.Expr.{Expr}
use Rattle.msl_fun.specs.declared.expr.Expr.TheVariants.{Lit, Slot}
use Rattle.msl_fun.specs.declared.funs.Fun.{Fun}
use Rattle.msl_read.specs.declared.fault.ReadFault.TheVariants.{NoMemory}
use Rattle.msl_fun_read.specs.declared.parse.first.First.{First}
use Rattle.msl_fun_read.specs.declared.parse.first.First.TheVariants as first
use Rattle.msl_fun_read.specs.declared.parse.level.Level.TheVariants as level
use Rattle.msl_fun.specs.Shapes.{minus, opposite, binary}
use Rattle.msl_base.specs.Names.{Text, is_among, are_distinct, place_among}
use Rattle.msl_lex.specs.Names.{is_name}
use Rattle.msl_fun.specs.Checks.{depth, rank_called, rank_of, names_after}
use Rattle.msl_read.specs.Reading.{says}
use Rattle.msl_read.specs.Front.{form, form_behind}
use Rattle.msl_fun_read.specs.Grammar.{State, Then, Tree, token, expr, operand, if_shallow, over_one, first_in, reading}
use Rattle.msl_read.specs.Front.{word_in, number_in}
use Rattle.msl_fun_read.specs.Parsing.{context}
use Rattle.msl_fun_print.specs.FunText.{space, mark, operator, in_parentheses, listed, is_pair, is_simple, as_operand, names_left, expr_bits, operand_opened, opened}
use Rattle.msl_fun_read.proofs.Declarings.{names_more, distinct_more}
use Rattle.msl_fun_read.proofs.Descent.{first_at, begins_unary, expr_operand, unary_minus, unary_not, unary_pair, unary_parenthesis, unary_number, unary_variable}
use Rattle.msl_fun.proofs.Functions.{held, parts}
use Rattle.msl_muscle_laws.proofs.PrintedLeft.{left_is}
use Rattle.msl_muscle_laws.proofs.PrintedLevels.{Ends, comma_ends, parenthesis_ends, alone, both_read, operator_closed, pair_first}
use Rattle.msl_muscle_laws.proofs.PrintedNames.{passes_at, no_sign, variable_first, own_place}
use Rattle.msl_muscle_laws.proofs.PrintedTokens.{Says, split, not_open}
use Rattle.msl_fun_read.proofs.Rules.{Reads, taken, before_reads, pair_reads}

-- names in scope
pub record IsScope (scope : List Text) : Type 0 where
  pub names : list_all is_name scope ≡ true
  pub distinct : are_distinct scope ≡ true

pub scope_more : (scope : List Text) (n : Text) → IsScope scope → is_name n ≡ true → is_among scope n ≡ false → IsScope (scope ++ n ∷ [])
scope_more scope n h name new = record { names = names_more scope n h.names name; distinct = distinct_more scope n h.distinct new }

pub shallow_is : (e : Expr) → depth e ≤ MOST_DEPTH → if_shallow e ≡ Some e
shallow_is e h = rw (le-leb (depth e) MOST_DEPTH h) refl

module _ (funs : List Fun) (others : List Text) (all : List Text) where
  -- where an expression stands: these names were bound before it, and it leaves those of these
  pub record Given (e : Expr) (scope ns ms done : List Text) : Type 0 where
    pub split : all ≡ done ++ ns
    pub names : names_after funs e scope ns ≡ Some ms
    pub in_scope : IsScope scope
    pub shallow : depth e ≤ MOST_DEPTH
    pub rank : rank_called (rank_of funs) e ≤ 7

  pub record Goes (start : Then → State) (ts us : List Lexeme) (ms : List Text) (e : Expr) : Type 0 where
    pub done : List Text
    pub split : all ≡ done ++ ms
    pub goes : Reads funs others start ts us done (Some e)

  abbrev pub AsExpr : Expr → Type 0
  AsExpr e =
      (scope ns ms done : List Text) (o : ℕ) (ts us : List Lexeme) → Given e scope ns ms done → o + opened e < MOST_OPENED → Ends (form us)
      → Says (expr_bits funs e scope ns) ts us → Goes (expr (context scope o) done) ts us ms e

  abbrev pub AsUnary : Expr → Type 0
  AsUnary e =
      (scope ns ms done : List Text) (o : ℕ) (ts us : List Lexeme) → Given e scope ns ms done → o + operand_opened e (opened e) ≤ MOST_OPENED → says (codes "(") (form us) ≡ false
      → Says (as_operand e (expr_bits funs e scope ns)) ts us → (begins_unary (first_at ts) ≡ true) × Goes (operand level.Unary (context scope o) done) ts us ms e

  -- as an expression and as an operand
  pub record Printed (e : Expr) : Type 0 where
    pub as_expr : AsExpr e
    pub as_unary : AsUnary e

  -- the first token, and what begins with it
  pub at_first : (ts : List Lexeme) (f : _) (x : First) → form ts ≡ f → first_in f (form_behind ts) ≡ x → first_at ts ≡ x
  at_first ts f x is e = ap (λ g. first_in g (form_behind ts)) is ∙ e

  pub few : (o : ℕ) → o < MOST_OPENED → nat_lt o MOST_OPENED ≡ true
  few o h = lt-ltb o MOST_OPENED h

  -- ---- operands in themselves

  around : (e : Expr) (scope done after : List Text) (o : ℕ) (ts us : List Lexeme) → begins_unary (first_at ts) ≡ true → o < MOST_OPENED → Ends (form us)
      → Reads funs others (operand level.Unary (context scope (o + 1)) done) ts us after (Some e) → Reads funs others (expr (context scope o) done) ts us after (Some e)
  around e scope done after o ts us begins lt ends r k =
      expr_operand funs others (context scope o) done k ts begins (few o lt) ∙ alone funs others (context scope (o + 1)) done after (Some e) ts us level.Or ends.quiet r k

  pub of_simple : (e : Expr) → is_simple e ≡ true → AsUnary e → Printed e
  of_simple e simple u = record {
    as_expr = λ scope ns ms done o ts us g lt ends said.
        let open_is : operand_opened e (opened e) ≡ opened e = rw simple refl in
        let plain : Says (as_operand e (expr_bits funs e scope ns)) ts us = rw simple said in
        let r = u scope ns ms done (o + 1) ts us g (omega arith) ends.closed plain in
        record { done = r.1.done; split = r.1.split; goes = around e scope done r.1.done o ts us r.0 (omega arith) ends r.1.goes };
    as_unary = u;
  }

  pub of_other : (e : Expr) → is_simple e ≡ false → AsExpr e → Printed e
  of_other e other x = record {
    as_expr = x;
    as_unary = λ scope ns ms done o ts us g le closed said.
        let open_is : operand_opened e (opened e) ≡ opened e + 2 = rw other refl in
        let s : Says (in_parentheses (expr_bits funs e scope ns)) ts us = rw other at said in
        let p = split (expr_bits funs e scope ns) (mark (codes ")") ∷ []) (drop 1 ts) us s.1 in
        let first_is : first_at ts ≡ first.Parenthesis = at_first ts (sign (codes "(")) first.Parenthesis s.0 refl in
        let r = x scope ns ms done (o + 1) (drop 1 ts) p.at g (omega arith) (subst Ends (sym p.back.0) parenthesis_ends) p.front in (
          ap begins_unary first_is,
          record {
            done = r.done;
            split = r.split;
            goes = λ k. unary_parenthesis funs others (context scope o) done k ts first_is (few o (omega arith))
                ∙ (r.goes (λ m a. token (codes ")") (k m a)) ∙ taken funs others p.at us (codes ")") (k r.done (Some e)) (ap (says (codes ")")) p.back.0, sym p.back.1));
          },
        );
  }

  pub with_tree : (us : List Lexeme) (done : List Text) (k : Then) (t u : Tree) → t ≡ u → reading funs others us (k done t) ≡ reading funs others us (k done u)
  with_tree us done k t u e = ap (λ (v : Tree). reading funs others us (k done v)) e

  -- ---- literals and variables

  literal_unary : (n : _) → AsUnary (Lit n)
  literal_unary (pos n) scope ns ms done o ts us g le closed said =
      let same : ns ≡ ms = let q = (held (int_le (pos 0) (pos n) && int_le (pos n) (pos 9223372036854775807)) (Some ns) ms g.names).1 in cc in
      let first_is : first_at ts ≡ first.Number = at_first ts _ first.Number said.0 refl in (
        ap begins_unary first_is,
        record {
          done = done;
          split = g.split ∙ ap (λ (m : List Text). done ++ m) same;
          goes = λ k. unary_number funs others (context scope o) done k ts first_is (few o (omega arith)) ∙ (λ i. reading funs others (said.1 i) (k done (Some (Lit (pos (number_in (said.0 i)))))));
        },
      )
  literal_unary (negsuc n) scope ns ms done o ts us g le closed said = let q = (held (int_le (pos 0) (negsuc n) && int_le (negsuc n) (pos 9223372036854775807)) (Some ns) ms g.names).0 in cc

  variable_unary : (j : ℕ) → AsUnary (Slot j)
  variable_unary j scope ns ms done o ts us g le closed said =
      let h = held (nat_lt j (length scope)) (Some ns) ms g.names in
      let same : ns ≡ ms = let q = h.1 in cc in
      let within : j < length scope = ltb-true j (length scope) h.0 in
      let n : Text = get_or scope j [] in
      let name : is_name n ≡ true = passes_at is_name scope j [] g.in_scope.names within in
      let behind = not_open n ts us said.0 (no_sign n name (codes "(") refl) said.1 closed in
      let first_is : first_at ts ≡ first.Variable = at_first ts (word n) first.Variable said.0 (variable_first n name (form_behind ts) behind) in
      let found = ap (λ f. place_among scope (word_in f)) said.0 ∙ own_place scope j g.in_scope.distinct within in (
        ap begins_unary first_is,
        record {
          done = done;
          split = g.split ∙ ap (λ (m : List Text). done ++ m) same;
          goes = λ k. unary_variable funs others (context scope o) done k j ts first_is (few o (omega arith)) found ∙ ap (λ (l : List Lexeme). reading funs others l (k done (Some (Slot j)))) said.1;
        },
      )

  pub literal_printed : (n : _) → Printed (Lit n)
  literal_printed n = of_simple (Lit n) refl (literal_unary n)

  pub variable_printed : (j : ℕ) → Printed (Slot j)
  variable_printed j = of_simple (Slot j) refl (variable_unary j)

  -- ---- operators

  minus_expr : (a : Expr) → AsUnary a → AsExpr (minus a)
  minus_expr a u scope ns ms done o ts us g lt ends said =
      let first_is : first_at ts ≡ first.Minus = at_first ts _ first.Minus said.0 refl in
      let inner : Given a scope ns ms done = record { split = g.split; names = g.names; in_scope = g.in_scope; shallow = omega (arith, g.shallow); rank = g.rank } in
      let r = u scope ns ms done (o + 1 + 1) (drop 1 ts) us inner (omega arith) ends.closed said.1 in
      record {
        done = r.1.done;
        split = r.1.split;
        goes = around (minus a) scope done r.1.done o ts us (ap begins_unary first_is) (omega arith) ends
            (λ k. unary_minus funs others (context scope (o + 1)) done k ts first_is (few (o + 1) (omega arith))
            ∙ (r.1.goes (λ m t. k m (over_one minus t)) ∙ with_tree us r.1.done k _ _ (shallow_is (minus a) g.shallow)));
      }

  opposite_expr : (a : Expr) → AsUnary a → AsExpr (opposite a)
  opposite_expr a u scope ns ms done o ts us g lt ends said =
      let first_is : first_at ts ≡ first.Not = at_first ts _ first.Not said.0 refl in
      let inner : Given a scope ns ms done = record { split = g.split; names = g.names; in_scope = g.in_scope; shallow = omega (arith, g.shallow); rank = g.rank } in
      let r = u scope ns ms done (o + 1 + 1) (drop 1 ts) us inner (omega arith) ends.closed said.1 in
      record {
        done = r.1.done;
        split = r.1.split;
        goes = around (opposite a) scope done r.1.done o ts us (ap begins_unary first_is) (omega arith) ends
            (λ k. unary_not funs others (context scope (o + 1)) done k ts first_is (few (o + 1) (omega arith))
            ∙ (r.1.goes (λ m t. k m (over_one opposite t)) ∙ with_tree us r.1.done k _ _ (shallow_is (opposite a) g.shallow)));
      }

  pub minus_printed : (a : Expr) → Printed a → Printed (minus a)
  minus_printed a p = of_other (minus a) refl (minus_expr a p.as_unary)

  pub opposite_printed : (a : Expr) → Printed a → Printed (opposite a)
  opposite_printed a p = of_other (opposite a) refl (opposite_expr a p.as_unary)

  -- the parts of a node with two
  record Two (op : BinOp) (a b : Expr) (scope ns ms done : List Text) : Type 0 where
    mid : List Text
    left : names_left a ns ≡ mid
    first : Given a scope ns mid done
    second : (after : List Text) → all ≡ after ++ mid → Given b scope mid ms after

  two : (op : BinOp) (a b : Expr) (scope ns ms done : List Text) → Given (binary op a b) scope ns ms done → Two op a b scope ns ms done
  two op a b scope ns ms done g =
      let q = parts (names_after funs a scope ns) (names_after funs b scope) ms g.names in
      record {
        mid = q.0;
        left = left_is funs a scope ns q.0 q.1;
        first = record { split = g.split; names = q.1; in_scope = g.in_scope; shallow = omega (arith, g.shallow); rank = omega (arith, g.rank) };
        second = λ after e. record { split = e; names = q.2; in_scope = g.in_scope; shallow = omega (arith, g.shallow); rank = omega (arith, g.rank) };
      }

  binary_expr : (op : BinOp) (a b : Expr) → is_pair op ≡ false → AsUnary a → AsUnary b → AsExpr (binary op a b)
  binary_expr op a b between ua ub scope ns ms done o ts us g lt ends said =
      let w = two op a b scope ns ms done g in
      let many : opened (binary op a b) ≡ max (operand_opened a (opened a)) (operand_opened b (opened b)) = rw between refl in
      let bits : List Text → List Bit = λ m. as_operand a (expr_bits funs a scope ns) ++ space ∷ printing.token (operator op) ∷ space ∷ as_operand b (expr_bits funs b scope m) in
      let plain : Says (bits (names_left a ns)) ts us = rw between at said in
      let p = split (as_operand a (expr_bits funs a scope ns)) (space ∷ printing.token (operator op) ∷ space ∷ as_operand b (expr_bits funs b scope w.mid)) ts us (subst (λ m. Says (bits m) ts us) w.left plain) in
      let ra = ua scope ns w.mid done (o + 1) ts p.at w.first (omega arith) (ap (says (codes "(")) p.back.0 ∙ operator_closed op between) p.front in
      let rb = ub scope w.mid ms ra.1.done (o + 1) (drop 1 p.at) us (w.second ra.1.done ra.1.split) (omega arith) ends.closed p.back.1 in
      record {
        done = rb.1.done;
        split = rb.1.split;
        goes = λ k. expr_operand funs others (context scope o) done k ts ra.0 (few o (omega arith))
            ∙ (both_read funs others (context scope (o + 1)) op between done ra.1.done rb.1.done (Some a) (Some b) ts p.at us p.back.0 ends.quiet ra.1.goes rb.1.goes k
            ∙ with_tree us rb.1.done k _ _ (shallow_is (binary op a b) g.shallow));
      }

  pair_unary : (op : BinOp) (a b : Expr) → is_pair op ≡ true → AsExpr a → AsExpr b → AsUnary (binary op a b)
  pair_unary op a b pair xa xb scope ns ms done o ts us g le closed said =
      let w = two op a b scope ns ms done g in
      let many : operand_opened (binary op a b) (opened (binary op a b)) ≡ max (opened a) (opened b) + 2 = rw pair refl in
      let first_bits : List Bit = expr_bits funs a scope ns in
      let bits : List Text → List Bit = λ m. printing.token (operator op) ∷ in_parentheses (listed (first_bits ∷ expr_bits funs b scope m ∷ [])) in
      let plain : Says (bits (names_left a ns)) ts us = rw pair at said in
      let said2 = subst (λ m. Says (bits m) ts us) w.left plain in
      let s = split (first_bits ++ mark (codes ",") ∷ space ∷ expr_bits funs b scope w.mid) (mark (codes ")") ∷ []) (drop 1 (drop 1 ts)) us said2.1.1 in
      let p = split first_bits (mark (codes ",") ∷ space ∷ expr_bits funs b scope w.mid) (drop 1 (drop 1 ts)) s.at s.front in
      let first_is : first_at ts ≡ first.Pair op = at_first ts (operator op) (first.Pair op) said2.0 (pair_first op (form_behind ts) pair) in
      let ra = xa scope ns w.mid done (o + 1) (drop 1 (drop 1 ts)) p.at w.first (omega arith) (subst Ends (sym p.back.0) comma_ends) p.front in
      let rb = xb scope w.mid ms ra.done (o + 1) (drop 1 p.at) s.at (w.second ra.done ra.split) (omega arith) (subst Ends (sym s.back.0) parenthesis_ends) p.back.1 in (
        ap begins_unary first_is,
        record {
          done = rb.done;
          split = rb.split;
          goes = λ k. unary_pair funs others (context scope o) done k op ts first_is (few o (omega arith))
              ∙ pair_reads funs others (context scope (o + 1)) op (drop 1 ts) (drop 1 (drop 1 ts)) (drop 1 p.at) us done ra.done rb.done (Some a) (Some b) (Some (binary op a b)) NoMemory
              (ap (says (codes "(")) said2.1.0, refl)
              (before_reads funs others (context scope (o + 1)) (codes ",") (drop 1 (drop 1 ts)) p.at (drop 1 p.at) done ra.done (Some a) ra.goes (ap (says (codes ",")) p.back.0, refl))
              (before_reads funs others (context scope (o + 1)) (codes ")") (drop 1 p.at) s.at us ra.done rb.done (Some b) rb.goes (ap (says (codes ")")) s.back.0, sym s.back.1))
              (sym (shallow_is (binary op a b) g.shallow)) k;
        },
      )

  pub binary_printed : (op : BinOp) (a b : Expr) → Printed a → Printed b → Printed (binary op a b)
  binary_printed op a b p q = by (is_pair op) refl
    where
      by : (t : Bool) → is_pair op ≡ t → Printed (binary op a b)
      by true e = of_simple (binary op a b) e (pair_unary op a b e p.as_expr q.as_expr)
      by false e = of_other (binary op a b) e (binary_expr op a b e p.as_unary q.as_unary)
