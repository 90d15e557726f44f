-- A choice, a variable or a loop that is printed is read as it is.
use Rattle.std.proofs.Common.{◌≡◌, ◌≤◌, ◌<◌, ℕ, ◌+◌, true, false, List, [], ◌∷◌, ◌++◌, length, drop, Option, Some, codes, refl, sym, ap, subst, ◌∙◌, arith, append_assoc}
use Rattle.msl_base.specs.declared.limits.TheConstants.{MOST_DEPTH, MOST_OPENED}
use Rattle.msl_lex.specs.Lexemes.{Lexeme, word}
use Rattle.msl_lex.specs.Printing.{Bit}
use Rattle.msl_fun.specs.declared.expr.Expr.{Expr}
use Rattle.msl_fun.specs.declared.funs.Fun.{Fun}
use Rattle.msl_read.specs.declared.fault.ReadFault.TheVariants.{NoMemory}
use Rattle.msl_fun_read.specs.declared.parse.first.First.TheVariants as first
use Rattle.msl_fun.specs.Shapes.{choice, binding, looping}
use Rattle.msl_base.specs.Names.{Text, is_among}
use Rattle.msl_lex.specs.Names.{is_name}
use Rattle.msl_fun.specs.Checks.{depth, rank_called, rank_of, names_after, and_then, bind}
use Rattle.msl_read.specs.Reading.{says}
use Rattle.msl_read.specs.Front.{form}
use Rattle.msl_fun_read.specs.Grammar.{token, expr}
use Rattle.msl_read.specs.Front.{name_in}
use Rattle.msl_fun_read.specs.Parsing.{context}
use Rattle.msl_fun_print.specs.FunText.{space, named, mark, names_left, expr_bits, opened, choice_bits, binding_bits, looping_bits, first_of}
use Rattle.msl_fun_read.proofs.Descent.{first_at, expr_if, expr_let, expr_loop}
use Rattle.msl_fun.proofs.Functions.{parts}
use Rattle.msl_muscle_laws.proofs.PrintedExprs.{IsScope, scope_more, shallow_is, Given, Goes, AsExpr, Printed, at_first, few, of_other}
use Rattle.msl_muscle_laws.proofs.PrintedLeft.{Binds, binds, left_is}
use Rattle.msl_muscle_laws.proofs.PrintedLevels.{Ends, comma_ends, then_ends, else_ends, in_ends}
use Rattle.msl_muscle_laws.proofs.PrintedNames.{is_named}
use Rattle.msl_muscle_laws.proofs.PrintedTokens.{Says, split}
use Rattle.msl_fun_read.proofs.Rules.{ReadsName, taken, before_reads, choice_reads, binding_reads, looping_reads}
use Rattle.msl_fun_read.proofs.Turns.{reads_name}

module _ (funs : List Fun) (others : List Text) (all : List Text) where
  -- a name and a quoted token behind it
  name_read : (scope : List Text) (n w : Text) (ts us : List Lexeme) → is_name n ≡ true → is_among scope n ≡ false → length scope < 32
      → form ts ≡ word n → says w (form (drop 1 ts)) ≡ true → us ≡ drop 1 (drop 1 ts) → ReadsName funs others scope w ts us n
  name_read scope n w ts us name new room is quoted e k =
      reads_name funs others ts scope n (λ x. token w (k x)) (ap name_in is ∙ is_named n name) room new ∙ taken funs others (drop 1 ts) us w (k n) (quoted, e)

  one_more : (done ns : List Text) (n : Text) → all ≡ done ++ n ∷ ns → all ≡ (done ++ n ∷ []) ++ ns
  one_more done ns n e = e ∙ sym (append_assoc done (n ∷ []) ns)

  -- ---- a choice

  choice_expr : (c a b : Expr) → AsExpr funs others all c → AsExpr funs others all a → AsExpr funs others all b → AsExpr funs others all (choice c a b)
  choice_expr c a b xc xa xb scope ns ms done o ts us g lt ends said =
      let q = parts (names_after funs c scope ns) (λ m. and_then (names_after funs a scope m) (names_after funs b scope)) ms g.names in
      let r = parts (names_after funs a scope q.0) (names_after funs b scope) ms q.2 in
      let c_bits : List Bit = expr_bits funs c scope ns in
      let a_bits : List Bit = expr_bits funs a scope q.0 in
      let b_bits : List Bit = expr_bits funs b scope r.0 in
      let said1 = subst (λ m. Says (choice_bits c_bits (expr_bits funs a scope m) (expr_bits funs b scope (names_left a m))) ts us) (left_is funs c scope ns q.0 q.1) said in
      let said2 : Says (choice_bits c_bits a_bits b_bits) ts us = subst (λ m. Says (choice_bits c_bits a_bits (expr_bits funs b scope m)) ts us) (left_is funs a scope q.0 r.0 r.1) said1 in
      let s = split (c_bits ++ space ∷ named (codes "then") ∷ space ∷ a_bits) (space ∷ named (codes "else") ∷ space ∷ b_bits) (drop 1 ts) us said2.1 in
      let p = split c_bits (space ∷ named (codes "then") ∷ space ∷ a_bits) (drop 1 ts) s.at s.front in
      let first_is : first_at ts ≡ first.If = at_first funs others all ts (word (codes "if")) first.If said2.0 refl in
      let gc : Given funs others all c scope ns q.0 done = record { split = g.split; names = q.1; in_scope = g.in_scope; shallow = omega (arith, g.shallow); rank = omega (arith, g.rank) } in
      let rc = xc scope ns q.0 done (o + 1) (drop 1 ts) p.at gc (omega arith) (subst Ends (sym p.back.0) then_ends) p.front in
      let ga : Given funs others all a scope q.0 r.0 rc.done = record { split = rc.split; names = r.1; in_scope = g.in_scope; shallow = omega (arith, g.shallow); rank = omega (arith, g.rank) } in
      let ra = xa scope q.0 r.0 rc.done (o + 1) (drop 1 p.at) s.at ga (omega arith) (subst Ends (sym s.back.0) else_ends) p.back.1 in
      let gb : Given funs others all b scope r.0 ms ra.done = record { split = ra.split; names = r.2; in_scope = g.in_scope; shallow = omega (arith, g.shallow); rank = omega (arith, g.rank) } in
      let rb = xb scope r.0 ms ra.done (o + 1) (drop 1 s.at) us gb (omega arith) ends s.back.1 in
      record {
        done = rb.done;
        split = rb.split;
        goes = λ k. expr_if funs others (context scope o) done k ts first_is (few funs others all o (omega arith))
            ∙ choice_reads funs others (context scope (o + 1)) (drop 1 ts) (drop 1 p.at) (drop 1 s.at) us done rc.done ra.done rb.done (Some c) (Some a) (Some b) (Some (choice c a b)) NoMemory
            (before_reads funs others (context scope (o + 1)) (codes "then") (drop 1 ts) p.at (drop 1 p.at) done rc.done (Some c) rc.goes (ap (says (codes "then")) p.back.0, refl))
            (before_reads funs others (context scope (o + 1)) (codes "else") (drop 1 p.at) s.at (drop 1 s.at) rc.done ra.done (Some a) ra.goes (ap (says (codes "else")) s.back.0, refl))
            rb.goes (sym (shallow_is (choice c a b) g.shallow)) k;
      }

  pub choice_printed : (c a b : Expr) → Printed funs others all c → Printed funs others all a → Printed funs others all b → Printed funs others all (choice c a b)
  choice_printed c a b p q r = of_other funs others all (choice c a b) refl (choice_expr c a b p.as_expr q.as_expr r.as_expr)

  -- ---- a variable

  binding_expr : (a b : Expr) → AsExpr funs others all a → AsExpr funs others all b → AsExpr funs others all (binding a b)
  binding_expr a b xa xb scope [] ms done o ts us g lt ends said = let q = g.names in cc
  binding_expr a b xa xb scope (x ∷ ns) ms done o ts us g lt ends said =
      let n = binds scope ns x (λ y rest. and_then (names_after funs a scope rest) (names_after funs b (scope ++ y ∷ []))) ms g.names in
      let q = parts (names_after funs a scope ns) (names_after funs b (scope ++ x ∷ [])) ms n.goes in
      let a_bits : List Bit = expr_bits funs a scope ns in
      let b_bits : List Bit = expr_bits funs b (scope ++ x ∷ []) q.0 in
      let said1 : Says (binding_bits x a_bits b_bits) ts us = subst (λ m. Says (binding_bits x a_bits (expr_bits funs b (scope ++ x ∷ []) m)) ts us) (left_is funs a scope ns q.0 q.1) said in
      let from : List Lexeme = drop 1 (drop 1 (drop 1 ts)) in
      let p = split a_bits (space ∷ named (codes "in") ∷ space ∷ b_bits) from us said1.1.1.1 in
      let first_is : first_at ts ≡ first.Let = at_first funs others all ts (word (codes "let")) first.Let said1.0 refl in
      let ga : Given funs others all a scope ns q.0 (done ++ x ∷ []) = record { split = one_more done ns x g.split; names = q.1; in_scope = g.in_scope; shallow = omega (arith, g.shallow); rank = omega (arith, g.rank) } in
      let ra = xa scope ns q.0 (done ++ x ∷ []) (o + 1) from p.at ga (omega arith) (subst Ends (sym p.back.0) in_ends) p.front in
      let gb : Given funs others all b (scope ++ x ∷ []) q.0 ms ra.done = record { split = ra.split; names = q.2; in_scope = scope_more scope x g.in_scope n.name n.new; shallow = omega (arith, g.shallow); rank = omega (arith, g.rank) } in
      let rb = xb (scope ++ x ∷ []) q.0 ms ra.done (o + 1) (drop 1 p.at) us gb (omega arith) ends p.back.1 in
      record {
        done = rb.done;
        split = rb.split;
        goes = λ k. expr_let funs others (context scope o) done k ts first_is (few funs others all o (omega arith))
            ∙ binding_reads funs others (context scope (o + 1)) (drop 1 ts) from (drop 1 p.at) us done (done ++ x ∷ []) ra.done rb.done x (Some a) (Some b) (Some (binding a b)) NoMemory
            (name_read scope x (codes "=") (drop 1 ts) from n.name n.new n.few said1.1.0 (ap (says (codes "=")) said1.1.1.0) refl) refl
            (before_reads funs others (context scope (o + 1)) (codes "in") from p.at (drop 1 p.at) (done ++ x ∷ []) ra.done (Some a) ra.goes (ap (says (codes "in")) p.back.0, refl))
            rb.goes (sym (shallow_is (binding a b) g.shallow)) k;
      }

  pub binding_printed : (a b : Expr) → Printed funs others all a → Printed funs others all b → Printed funs others all (binding a b)
  binding_printed a b p q = of_other funs others all (binding a b) refl (binding_expr a b p.as_expr q.as_expr)

  -- ---- a loop

  -- behind its first name
  module _ (n s e : Expr) (scope : List Text) (i : Text) (ns ms done : List Text) (o : ℕ) (ts us : List Lexeme) (in_scope : IsScope scope) where
    abbrev second_name : Text → List Text → Option (List Text)
    second_name a m = and_then (names_after funs s scope m) (names_after funs e (scope ++ i ∷ a ∷ []))

    abbrev bits_behind : List Text → List Text → List Bit
    bits_behind [] left = []
    bits_behind (a ∷ m) left = looping_bits i (expr_bits funs n scope ns) a (expr_bits funs s scope m) (expr_bits funs e (scope ++ i ∷ a ∷ []) left)

    loop_goes : (a : Text) (m l : List Text) → AsExpr funs others all n → AsExpr funs others all s → AsExpr funs others all e
        → all ≡ done ++ i ∷ ns → is_name i ≡ true → is_among scope i ≡ false → length scope < 32
        → Binds (scope ++ i ∷ []) a (second_name a m) ms
        → names_after funs n scope ns ≡ Some (a ∷ m) → names_after funs s scope m ≡ Some l → names_after funs e (scope ++ i ∷ a ∷ []) l ≡ Some ms
        → depth (looping n s e) ≤ MOST_DEPTH → rank_called (rank_of funs) (looping n s e) ≤ 7 → o + opened (looping n s e) < MOST_OPENED → Ends (form us)
        → Says (bits_behind (a ∷ m) l) ts us → Goes funs others all (expr (context scope o) done) ts us ms (looping n s e)
    loop_goes a m l xn xs xe at name new room second n_names s_names e_names shallow rank lt ends said =
        let n_bits : List Bit = expr_bits funs n scope ns in
        let s_bits : List Bit = expr_bits funs s scope m in
        let e_bits : List Bit = expr_bits funs e (scope ++ i ∷ a ∷ []) l in
        let from : List Lexeme = drop 1 (drop 1 (drop 1 ts)) in
        let q = split (n_bits ++ mark (codes ",") ∷ space ∷ named a ∷ space ∷ mark (codes "=") ∷ space ∷ s_bits) (space ∷ named (codes "in") ∷ space ∷ e_bits) from us said.1.1.1 in
        let p = split n_bits (mark (codes ",") ∷ space ∷ named a ∷ space ∷ mark (codes "=") ∷ space ∷ s_bits) from q.at q.front in
        let value : List Lexeme = drop 1 (drop 1 (drop 1 p.at)) in
        let first_is : first_at ts ≡ first.Loop = at_first funs others all ts (word (codes "loop")) first.Loop said.0 refl in
        let gn : Given funs others all n scope ns (a ∷ m) (done ++ i ∷ []) = record { split = one_more done ns i at; names = n_names; in_scope = in_scope; shallow = omega (arith, shallow); rank = omega (arith, rank) } in
        let rn = xn scope ns (a ∷ m) (done ++ i ∷ []) (o + 1) from p.at gn (omega arith) (subst Ends (sym p.back.0) comma_ends) p.front in
        let gs : Given funs others all s scope m l (rn.done ++ a ∷ []) = record { split = one_more rn.done m a rn.split; names = s_names; in_scope = in_scope; shallow = omega (arith, shallow); rank = omega (arith, rank) } in
        let rs = xs scope m l (rn.done ++ a ∷ []) (o + 1) value q.at gs (omega arith) (subst Ends (sym q.back.0) in_ends) p.back.1.1.1 in
        let wide : IsScope (scope ++ i ∷ a ∷ []) = subst IsScope (append_assoc scope (i ∷ []) (a ∷ [])) (scope_more (scope ++ i ∷ []) a (scope_more scope i in_scope name new) second.name second.new) in
        let ge : Given funs others all e (scope ++ i ∷ a ∷ []) l ms rs.done = record { split = rs.split; names = e_names; in_scope = wide; shallow = omega (arith, shallow); rank = omega (arith, rank) } in
        let re = xe (scope ++ i ∷ a ∷ []) l ms rs.done (o + 1) (drop 1 q.at) us ge (omega arith) ends q.back.1 in
        record {
          done = re.done;
          split = re.split;
          goes = λ k. expr_loop funs others (context scope o) done k ts first_is (few funs others all o (omega arith))
              ∙ looping_reads funs others (context scope (o + 1)) (drop 1 ts) from (drop 1 p.at) value (drop 1 q.at) us done (done ++ i ∷ []) rn.done (rn.done ++ a ∷ []) rs.done re.done
              i a (Some n) (Some s) (Some e) (Some (looping n s e)) NoMemory (
                (
                  (name_read scope i (codes "below") (drop 1 ts) from name new room said.1.0 (ap (says (codes "below")) said.1.1.0) refl, refl),
                  before_reads funs others (context scope (o + 1)) (codes ",") from p.at (drop 1 p.at) (done ++ i ∷ []) rn.done (Some n) rn.goes (ap (says (codes ",")) p.back.0, refl),
                ),
                name_read (scope ++ i ∷ []) a (codes "=") (drop 1 p.at) value second.name second.new second.few p.back.1.0 (ap (says (codes "=")) p.back.1.1.0) refl,
                refl,
              )
              (before_reads funs others (context scope (o + 1)) (codes "in") value q.at (drop 1 q.at) (rn.done ++ a ∷ []) rs.done (Some s) rs.goes (ap (says (codes "in")) q.back.0, refl))
              re.goes (sym (shallow_is (looping n s e) shallow)) k;
        }

    loop_from : (mid : List Text) → AsExpr funs others all n → AsExpr funs others all s → AsExpr funs others all e
        → all ≡ done ++ i ∷ ns → is_name i ≡ true → is_among scope i ≡ false → length scope < 32
        → names_after funs n scope ns ≡ Some mid → bind (scope ++ i ∷ []) mid second_name ≡ Some ms
        → depth (looping n s e) ≤ MOST_DEPTH → rank_called (rank_of funs) (looping n s e) ≤ 7 → o + opened (looping n s e) < MOST_OPENED → Ends (form us)
        → Says (looping_bits i (expr_bits funs n scope ns) (first_of mid) (expr_bits funs s scope (drop 1 mid)) (expr_bits funs e (scope ++ i ∷ first_of mid ∷ []) (names_left s (drop 1 mid)))) ts us
        → Goes funs others all (expr (context scope o) done) ts us ms (looping n s e)
    loop_from [] xn xs xe at name new room n_names rest shallow rank lt ends said = cc
    loop_from (a ∷ m) xn xs xe at name new room n_names rest shallow rank lt ends said =
        let second = binds (scope ++ i ∷ []) m a second_name ms rest in
        let r = parts (names_after funs s scope m) (names_after funs e (scope ++ i ∷ a ∷ [])) ms second.goes in
        let said1 : Says (bits_behind (a ∷ m) r.0) ts us = subst (λ l. Says (bits_behind (a ∷ m) l) ts us) (left_is funs s scope m r.0 r.1) said in
        loop_goes a m r.0 xn xs xe at name new room second n_names r.1 r.2 shallow rank lt ends said1

  looping_expr : (n s e : Expr) → AsExpr funs others all n → AsExpr funs others all s → AsExpr funs others all e → AsExpr funs others all (looping n s e)
  looping_expr n s e xn xs xe scope [] ms done o ts us g lt ends said = let q = g.names in cc
  looping_expr n s e xn xs xe scope (i ∷ ns) ms done o ts us g lt ends said =
      let go : Text → List Text → Option (List Text) = λ j m. bind (scope ++ j ∷ []) m (λ a more. and_then (names_after funs s scope more) (names_after funs e (scope ++ j ∷ a ∷ []))) in
      let b = binds scope ns i (λ j rest. and_then (names_after funs n scope rest) (go j)) ms g.names in
      let q = parts (names_after funs n scope ns) (go i) ms b.goes in
      let bits : List Text → List Bit = λ m. looping_bits i (expr_bits funs n scope ns) (first_of m) (expr_bits funs s scope (drop 1 m)) (expr_bits funs e (scope ++ i ∷ first_of m ∷ []) (names_left s (drop 1 m))) in
      loop_from n s e scope i ns ms done o ts us g.in_scope q.0 xn xs xe g.split b.name b.new b.few q.1 q.2 g.shallow g.rank lt ends (subst (λ m. Says (bits m) ts us) (left_is funs n scope ns q.0 q.1) said)

  pub looping_printed : (n s e : Expr) → Printed funs others all n → Printed funs others all s → Printed funs others all e → Printed funs others all (looping n s e)
  looping_printed n s e p q r = of_other funs others all (looping n s e) refl (looping_expr n s e p.as_expr q.as_expr r.as_expr)
