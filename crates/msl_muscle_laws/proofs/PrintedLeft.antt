-- Where an expression keeps the rules, it leaves the names that are printed behind it.
use Rattle.std.proofs.Common.{◌≡◌, ◌<◌, true, false, not, ◌&&◌, nat_lt, List, [], ◌∷◌, ◌++◌, length, drop, Option, Some, pos, int_le, ap, ◌∙◌}
use Rattle.std.proofs.lemmas.Bool.{ltb-true}
use Rattle.msl_fun.specs.declared.expr.Expr.{Expr, Row_of-Expr, end_of-Expr, more_of-Expr}
use Rattle.msl_fun.specs.declared.expr.Expr.TheVariants.{Lit, Slot, Call'}
use Rattle.msl_fun.specs.declared.funs.Fun.{Fun}
use Rattle.msl_fun.specs.Shapes.{minus, opposite, binary, choice, binding, looping}
use Rattle.msl_base.specs.Names.{Text, is_among}
use Rattle.msl_lex.specs.Names.{is_name}
use Rattle.msl_fun.specs.Checks.{names_after, names_after_all, and_then, bind, count_of, takes, widths_of}
use Rattle.msl_fun_print.specs.FunText.{names_left, names_left_by}
use Rattle.msl_fun.proofs.Functions.{held, parts}
use Rattle.msl_muscle_laws.proofs.PrintedNames.{and_true, not_true}

-- the name that comes into a scope
pub record Binds (scope : List Text) (n : Text) (o : Option (List Text)) (ms : List Text) : Type 0 where
  pub name : is_name n ≡ true
  pub new : is_among scope n ≡ false
  pub few : length scope < 32
  pub goes : o ≡ Some ms

pub binds : (scope names : List Text) (n : Text) (go : Text → List Text → Option (List Text)) (ms : List Text) → bind scope (n ∷ names) go ≡ Some ms → Binds scope n (go n names) ms
binds scope names n go ms h =
    let all = held (is_name n && not (is_among scope n) && nat_lt (length scope) 32) (go n names) ms h in
    let two = and_true (is_name n && not (is_among scope n)) (nat_lt (length scope) 32) all.0 in
    let one = and_true (is_name n) (not (is_among scope n)) two.0 in
    record { name = one.0; new = not_true (is_among scope n) one.1; few = ltb-true (length scope) 32 two.1; goes = all.1 }

module _ (funs : List Fun) where
  loop_left : (s e : Expr) (scope : List Text) (i : Text) (mid ms : List Text)
      → ((l m : List Text) → names_after funs s scope l ≡ Some m → names_left s l ≡ m)
      → ((a : Text) (l m : List Text) → names_after funs e (scope ++ i ∷ a ∷ []) l ≡ Some m → names_left e l ≡ m)
      → bind (scope ++ i ∷ []) mid (λ a more. and_then (names_after funs s scope more) (names_after funs e (scope ++ i ∷ a ∷ []))) ≡ Some ms
      → names_left e (names_left s (drop 1 mid)) ≡ ms
  loop_left s e scope i [] ms of_s of_e h = cc
  loop_left s e scope i (a ∷ l) ms of_s of_e h =
      let b = binds (scope ++ i ∷ []) l a (λ a more. and_then (names_after funs s scope more) (names_after funs e (scope ++ i ∷ a ∷ []))) ms h in
      let r = parts (names_after funs s scope l) (names_after funs e (scope ++ i ∷ a ∷ [])) ms b.goes in
      ap (names_left e) (of_s l r.0 r.1) ∙ of_e a r.0 ms r.2

  mutual
    pub left_is : (e : Expr) (scope ns ms : List Text) → names_after funs e scope ns ≡ Some ms → names_left e ns ≡ ms
    left_is (Lit n) scope ns ms h = let q = (held (int_le (pos 0) n && int_le n (pos 9223372036854775807)) (Some ns) ms h).1 in cc
    left_is (Slot k) scope ns ms h = let q = (held (nat_lt k (length scope)) (Some ns) ms h).1 in cc
    left_is (minus a) scope ns ms h = left_is a scope ns ms h
    left_is (opposite a) scope ns ms h = left_is a scope ns ms h
    left_is (binary op a b) scope ns ms h =
        let q = parts (names_after funs a scope ns) (names_after funs b scope) ms h in
        ap (names_left b) (left_is a scope ns q.0 q.1) ∙ left_is b scope q.0 ms q.2
    left_is (choice c a b) scope ns ms h =
        let q = parts (names_after funs c scope ns) (λ m. and_then (names_after funs a scope m) (names_after funs b scope)) ms h in
        let r = parts (names_after funs a scope q.0) (names_after funs b scope) ms q.2 in
        ap (λ (m : List Text). names_left b (names_left a m)) (left_is c scope ns q.0 q.1) ∙ (ap (names_left b) (left_is a scope q.0 r.0 r.1) ∙ left_is b scope r.0 ms r.2)
    left_is (binding a b) scope [] ms h = cc
    left_is (binding a b) scope (x ∷ ns) ms h =
        let n = binds scope ns x (λ y rest. and_then (names_after funs a scope rest) (names_after funs b (scope ++ y ∷ []))) ms h in
        let q = parts (names_after funs a scope ns) (names_after funs b (scope ++ x ∷ [])) ms n.goes in
        ap (names_left b) (left_is a scope ns q.0 q.1) ∙ left_is b (scope ++ x ∷ []) q.0 ms q.2
    left_is (looping n s e) scope [] ms h = cc
    left_is (looping n s e) scope (i ∷ ns) ms h =
        let go : Text → List Text → Option (List Text) = λ j m. bind (scope ++ j ∷ []) m (λ a more. and_then (names_after funs s scope more) (names_after funs e (scope ++ j ∷ a ∷ []))) in
        let b = binds scope ns i (λ j rest. and_then (names_after funs n scope rest) (go j)) ms h in
        let q = parts (names_after funs n scope ns) (go i) ms b.goes in
        ap (λ (m : List Text). names_left e (names_left s (drop 1 m))) (left_is n scope ns q.0 q.1)
        ∙ loop_left s e scope i q.0 ms (λ l m h. left_is s scope l m h) (λ a l m h. left_is e (scope ++ i ∷ a ∷ []) l m h) q.2
    left_is (Call' f _ args) scope ns ms h = all_left_is args scope ns ms (held (takes (widths_of funs f) (count_of funs args)) (names_after_all funs args scope ns) ms h).1

    all_left_is : {n : _} (es : Row_of-Expr n) (scope ns ms : List Text) → names_after_all funs es scope ns ≡ Some ms → names_left_by es ns ≡ ms
    all_left_is end_of-Expr scope ns ms h = cc
    all_left_is (more_of-Expr e es) scope ns ms h =
        let q = parts (names_after funs e scope ns) (names_after_all funs es scope) ms h in
        ap (names_left_by es) (left_is e scope ns q.0 q.1) ∙ all_left_is es scope q.0 ms q.2
