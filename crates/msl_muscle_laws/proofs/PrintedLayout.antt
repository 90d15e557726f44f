-- What is printed is laid out: each token can be spelt, and none would be another beside the next.
use Rattle.std.proofs.Common.{◌≡◌, ◌<◌, ℕ, Bool, true, false, ◌&&◌, ◌||◌, ◌==◌, nat_lt, nat_le, if◌then◌else◌, List, [], ◌∷◌, ◌++◌, length, drop, get_or, Option, Some, pos, negsuc, int_le, codes, refl, sym, subst, append_assoc}
use Rattle.std.proofs.lemmas.Bool.{ltb-true}
use Rattle.std.specs.List.{list_any}
use Rattle.msl_lex.specs.Lexemes.{Form, word, number, sign, close}
use Rattle.msl_lex.specs.Printing.{Bit, token, blank, is_spellable, may_touch, is_laid}
use Rattle.msl_fun.specs.declared.expr.BinOp.{BinOp}
use Rattle.msl_fun.specs.declared.expr.BinOp.TheVariants.{Add, Sub, Mul, Div, Rem, Eq, Ne, Lt, Le, Gt, Ge, And, Or, Min, Max}
use Rattle.msl_fun.specs.declared.expr.Expr.{Expr, Row_of-Expr, end_of-Expr, more_of-Expr}
use Rattle.msl_fun.specs.declared.expr.Expr.TheVariants.{Lit, Slot, Call'}
use Rattle.msl_fun.specs.declared.funs.Fun.{Fun}
use Rattle.msl_fun.specs.Shapes.{minus, opposite, binary, choice, binding, looping}
use Rattle.msl_base.specs.Names.{Text}
use Rattle.msl_fun.specs.Checks.{AreFuns, names_of, names_after, names_after_all, and_then, bind, count_of, takes, widths_of}
use Rattle.msl_lex.specs.Names.{is_name}
use Rattle.msl_fun_print.specs.FunText.{space, named, mark, literal, operator, in_parentheses, listed, is_pair, is_simple, as_operand, binary_bits, choice_bits, binding_bits, looping_bits, first_of, names_left, expr_bits, all_bits}
use Rattle.msl_fun.proofs.Functions.{held, parts, takes_is, called_within}
use Rattle.msl_muscle_laws.proofs.PrintedExprs.{IsScope, scope_more}
use Rattle.msl_muscle_laws.proofs.PrintedLeft.{binds, left_is}
use Rattle.msl_muscle_laws.proofs.PrintedNames.{and_true, passes_at, word_of, fun_named}
use Rattle.msl_fun_print.proofs.Listed.{later}

-- ---- what may follow

-- nothing, a blank or a sign
abbrev pub is_apart : List Bit → Bool
is_apart [] = true
is_apart (blank c ∷ bs) = true
is_apart (token (sign s) ∷ bs) = true
is_apart (token f ∷ bs) = false

abbrev may_precede : Form → List Bit → Bool
may_precede f [] = true
may_precede f (blank c ∷ bs) = true
may_precede f (token g ∷ bs) = may_touch f g

laid_first : (f : Form) (bs : List Bit) → is_spellable f ≡ true → may_precede f bs ≡ true → is_laid bs ≡ true → is_laid (token f ∷ bs) ≡ true
laid_first f [] s m h = rw s refl
laid_first f (blank c ∷ bs) s m h = rw s h
laid_first f (token g ∷ bs) s m h = rw (s, m) h

word_apart : (w : Text) (bs : List Bit) → is_apart bs ≡ true → may_precede (word w) bs ≡ true
word_apart w [] h = refl
word_apart w (blank c ∷ bs) h = refl
word_apart w (token (word v) ∷ bs) h = cc
word_apart w (token (number n) ∷ bs) h = cc
word_apart w (token (sign s) ∷ bs) h = refl
word_apart w (token close ∷ bs) h = cc

number_apart : (n : ℕ) (bs : List Bit) → is_apart bs ≡ true → may_precede (number n) bs ≡ true
number_apart n [] h = refl
number_apart n (blank c ∷ bs) h = refl
number_apart n (token (word v) ∷ bs) h = cc
number_apart n (token (number m) ∷ bs) h = cc
number_apart n (token (sign s) ∷ bs) h = refl
number_apart n (token close ∷ bs) h = cc

-- bits that can be laid out before anything that is apart
pub record Laid (bits : List Bit) : Type 0 where
  pub before : (more : List Bit) → is_apart more ≡ true → is_laid more ≡ true → is_laid (bits ++ more) ≡ true

-- they begin apart
abbrev pub Apart : List Bit → Type 0
Apart bits = (more : List Bit) → is_apart more ≡ true → is_apart (bits ++ more) ≡ true

-- a sign that no sign makes longer
abbrev pub IsFree : Text → Type 0
IsFree s = (is_spellable (sign s) ≡ true) × ((bs : List Bit) → may_precede (sign s) bs ≡ true)

pub nothing_laid : Laid []
nothing_laid = record { before = λ more a h. h }

pub blank_laid : (bs : List Bit) → Laid bs → Laid (space ∷ bs)
blank_laid bs l = record { before = λ more a h. l.before more a h }

pub joined_laid : (cs bs : List Bit) → Laid cs → Apart bs → Laid bs → Laid (cs ++ bs)
joined_laid cs bs l apart m = record { before = λ more a h. rw (append_assoc cs bs more) (l.before (bs ++ more) (apart more a) (m.before more a h)) }

pub word_laid : (w : Text) (bs : List Bit) → is_spellable (word w) ≡ true → Apart bs → Laid bs → Laid (named w ∷ bs)
word_laid w bs s apart l = record { before = λ more a h. laid_first (word w) (bs ++ more) s (word_apart w (bs ++ more) (apart more a)) (l.before more a h) }

-- a token and a blank
pub spaced_laid : (f : Form) (bs : List Bit) → is_spellable f ≡ true → Laid bs → Laid (token f ∷ space ∷ bs)
spaced_laid f bs s l = record { before = λ more a h. laid_first f (space ∷ (bs ++ more)) s refl (l.before more a h) }

pub free_laid : (s : Text) (bs : List Bit) → IsFree s → Laid bs → Laid (mark s ∷ bs)
free_laid s bs f l = record { before = λ more a h. laid_first (sign s) (bs ++ more) f.0 (f.1 (bs ++ more)) (l.before more a h) }

-- it begins a longer sign
abbrev grows : Text → Bool
grows (c ∷ []) = list_any (λ d. c == d) (codes "=!<>")
grows _ = true

none_is : (a b c d : Bool) → (a || (b || (c || (d || false)))) ≡ false → (a ≡ false) × (b ≡ false) × (c ≡ false) × (d ≡ false)
none_is false false false false h = (refl, refl, refl, refl)
none_is true b c d h = cc
none_is false true c d h = cc
none_is false false true d h = cc
none_is false false false true h = cc

pub free : (s : Text) → is_spellable (sign s) ≡ true → grows s ≡ false → IsFree s
free [] spelt h = cc
free (c ∷ d ∷ s) spelt h = cc
free (c ∷ []) spelt h = (spelt, by)
  where
    apart : (c == 61 ≡ false) × (c == 33 ≡ false) × (c == 60 ≡ false) × (c == 62 ≡ false)
    apart = none_is (c == 61) (c == 33) (c == 60) (c == 62) h

    by : (bs : List Bit) → may_precede (sign (c ∷ [])) bs ≡ true
    by [] = refl
    by (blank b ∷ bs) = refl
    by (token (word v) ∷ bs) = refl
    by (token (number n) ∷ bs) = refl
    by (token (sign t) ∷ bs) = rw (apart.0, apart.1, apart.2, apart.3) refl
    by (token close ∷ bs) = refl

-- the last sign of a function may stand before all
pub laid_end : (more : List Bit) → is_laid more ≡ true → is_laid (mark (codes ";") ∷ more) ≡ true
laid_end more h = let f = free (codes ";") refl refl in laid_first (sign (codes ";")) more f.0 (f.1 more) h

pub parentheses_laid : (bs : List Bit) → Laid bs → Laid (in_parentheses bs)
parentheses_laid bs l = free_laid (codes "(") (bs ++ mark (codes ")") ∷ []) (free (codes "(") refl refl) (joined_laid bs (mark (codes ")") ∷ []) l (λ more a. refl) (free_laid (codes ")") [] (free (codes ")") refl refl) nothing_laid))

-- ---- parts with commas

abbrev pub AllLaid : List (List Bit) → Type 0
AllLaid [] = Unit {0}
AllLaid (p ∷ ps) = Laid p × AllLaid ps

later_apart : (ps : List (List Bit)) → Apart (later ps)
later_apart [] more a = a
later_apart (p ∷ ps) more a = refl

listed_laid : (p : List Bit) (ps : List (List Bit)) → Laid p → AllLaid ps → Laid (listed (p ∷ ps))
listed_laid p [] l ls = l
listed_laid p (q ∷ qs) l ls = joined_laid p (mark (codes ",") ∷ space ∷ listed (q ∷ qs)) l (λ more a. refl) (spaced_laid (sign (codes ",")) (listed (q ∷ qs)) refl (listed_laid q qs ls.0 ls.1))

pub all_laid : (ps : List (List Bit)) → AllLaid ps → Laid (listed ps)
all_laid [] ls = nothing_laid
all_laid (p ∷ ps) ls = listed_laid p ps ls.0 ls.1

-- ---- names and operators

pub name_spelt : (n : Text) → is_name n ≡ true → is_spellable (word n) ≡ true
name_spelt n h = let w = word_of n h in rw (w.0, w.1) refl

operator_spelt : (op : BinOp) → is_spellable (operator op) ≡ true
operator_spelt Add = refl
operator_spelt Sub = refl
operator_spelt Mul = refl
operator_spelt Div = refl
operator_spelt Rem = refl
operator_spelt Eq = refl
operator_spelt Ne = refl
operator_spelt Lt = refl
operator_spelt Le = refl
operator_spelt Gt = refl
operator_spelt Ge = refl
operator_spelt And = refl
operator_spelt Or = refl
operator_spelt Min = refl
operator_spelt Max = refl

pair_laid : (op : BinOp) (bs : List Bit) → is_pair op ≡ true → Laid bs → Laid (token (operator op) ∷ in_parentheses bs)
pair_laid Min bs h l = word_laid (codes "min") (in_parentheses bs) refl (λ more a. refl) (parentheses_laid bs l)
pair_laid Max bs h l = word_laid (codes "max") (in_parentheses bs) refl (λ more a. refl) (parentheses_laid bs l)
pair_laid Add bs h l = cc
pair_laid Sub bs h l = cc
pair_laid Mul bs h l = cc
pair_laid Div bs h l = cc
pair_laid Rem bs h l = cc
pair_laid Eq bs h l = cc
pair_laid Ne bs h l = cc
pair_laid Lt bs h l = cc
pair_laid Le bs h l = cc
pair_laid Gt bs h l = cc
pair_laid Ge bs h l = cc
pair_laid And bs h l = cc
pair_laid Or bs h l = cc

-- ---- expressions

operand_laid : (e : Expr) (bs : List Bit) → Laid bs → Laid (as_operand e bs)
operand_laid e bs l = by (is_simple e)
  where
    by : (b : Bool) → Laid (if b then bs else in_parentheses bs)
    by true = l
    by false = parentheses_laid bs l

two_laid : (op : BinOp) (a b : Expr) (left right : List Bit) → Laid left → Laid right → Laid (binary_bits op a b left right)
two_laid op a b left right l r = by (is_pair op) refl
  where
    by : (t : Bool) → is_pair op ≡ t → Laid (if t then token (operator op) ∷ in_parentheses (listed (left ∷ right ∷ [])) else as_operand a left ++ space ∷ token (operator op) ∷ space ∷ as_operand b right)
    by true e = pair_laid op (listed (left ∷ right ∷ [])) e (all_laid (left ∷ right ∷ []) (l, (r, tt)))
    by false e =
        joined_laid (as_operand a left) (space ∷ token (operator op) ∷ space ∷ as_operand b right) (operand_laid a left l) (λ more a. refl)
        (blank_laid _ (spaced_laid (operator op) (as_operand b right) (operator_spelt op) (operand_laid b right r)))

choice_laid : (c a b : List Bit) → Laid c → Laid a → Laid b → Laid (choice_bits c a b)
choice_laid c a b lc la lb =
    spaced_laid (word (codes "if")) ((c ++ space ∷ named (codes "then") ∷ space ∷ a) ++ space ∷ named (codes "else") ∷ space ∷ b) refl
    (joined_laid (c ++ space ∷ named (codes "then") ∷ space ∷ a) (space ∷ named (codes "else") ∷ space ∷ b)
    (joined_laid c (space ∷ named (codes "then") ∷ space ∷ a) lc (λ more a. refl) (blank_laid _ (spaced_laid (word (codes "then")) a refl la))) (λ more a. refl) (blank_laid _ (spaced_laid (word (codes "else")) b refl lb)))

binding_laid : (x : Text) (a b : List Bit) → is_name x ≡ true → Laid a → Laid b → Laid (binding_bits x a b)
binding_laid x a b name la lb =
    spaced_laid (word (codes "let")) _ refl (spaced_laid (word x) _ (name_spelt x name) (spaced_laid (sign (codes "=")) (a ++ space ∷ named (codes "in") ∷ space ∷ b) refl
    (joined_laid a (space ∷ named (codes "in") ∷ space ∷ b) la (λ more a. refl) (blank_laid _ (spaced_laid (word (codes "in")) b refl lb)))))

looping_laid : (i : Text) (n : List Bit) (a : Text) (s e : List Bit) → is_name i ≡ true → is_name a ≡ true → Laid n → Laid s → Laid e → Laid (looping_bits i n a s e)
looping_laid i n a s e first second ln ls le =
    spaced_laid (word (codes "loop")) _ refl (spaced_laid (word i) _ (name_spelt i first)
    (spaced_laid (word (codes "below")) ((n ++ mark (codes ",") ∷ space ∷ named a ∷ space ∷ mark (codes "=") ∷ space ∷ s) ++ space ∷ named (codes "in") ∷ space ∷ e) refl
    (joined_laid (n ++ mark (codes ",") ∷ space ∷ named a ∷ space ∷ mark (codes "=") ∷ space ∷ s) (space ∷ named (codes "in") ∷ space ∷ e)
    (joined_laid n (mark (codes ",") ∷ space ∷ named a ∷ space ∷ mark (codes "=") ∷ space ∷ s) ln (λ more a. refl)
    (spaced_laid (sign (codes ",")) _ refl (spaced_laid (word a) _ (name_spelt a second) (spaced_laid (sign (codes "=")) s refl ls))))
    (λ more a. refl) (blank_laid _ (spaced_laid (word (codes "in")) e refl le)))))

literal_laid : (n : _) → (int_le (pos 0) n && int_le n (pos 9223372036854775807)) ≡ true → Laid (literal n ∷ [])
literal_laid (pos n) h = record { before = λ more a l. laid_first (number n) more (and_true (int_le (pos 0) (pos n)) (nat_le n 9223372036854775807) h).1 (number_apart n more a) l }
literal_laid (negsuc n) h = cc

module _ (funs : List Fun) (rules : AreFuns funs) where
  loop_laid : (n t e : Expr) (scope : List Text) (i : Text) (ns mid ms : List Text) → is_name i ≡ true → IsScope (scope ++ i ∷ []) → Laid (expr_bits funs n scope ns)
      → ((l m : List Text) → names_after funs t scope l ≡ Some m → Laid (expr_bits funs t scope l))
      → ((a : Text) (l m : List Text) → names_after funs e (scope ++ i ∷ a ∷ []) l ≡ Some m → IsScope (scope ++ i ∷ a ∷ []) → Laid (expr_bits funs e (scope ++ i ∷ a ∷ []) l))
      → bind (scope ++ i ∷ []) mid (λ a more. and_then (names_after funs t scope more) (names_after funs e (scope ++ i ∷ a ∷ []))) ≡ Some ms
      → Laid (looping_bits i (expr_bits funs n scope ns) (first_of mid) (expr_bits funs t scope (drop 1 mid)) (expr_bits funs e (scope ++ i ∷ first_of mid ∷ []) (names_left t (drop 1 mid))))
  loop_laid n t e scope i ns [] ms name s ln lt le h = cc
  loop_laid n t e scope i ns (a ∷ l) ms name s ln lt le h =
      let b = binds (scope ++ i ∷ []) l a (λ a more. and_then (names_after funs t scope more) (names_after funs e (scope ++ i ∷ a ∷ []))) ms h in
      let r = parts (names_after funs t scope l) (names_after funs e (scope ++ i ∷ a ∷ [])) ms b.goes in
      let wide : IsScope (scope ++ i ∷ a ∷ []) = subst IsScope (append_assoc scope (i ∷ []) (a ∷ [])) (scope_more (scope ++ i ∷ []) a s b.name b.new) in
      subst (λ m. Laid (looping_bits i (expr_bits funs n scope ns) a (expr_bits funs t scope l) (expr_bits funs e (scope ++ i ∷ a ∷ []) m))) (sym (left_is funs t scope l r.0 r.1))
      (looping_laid i _ a _ _ name b.name ln (lt l r.0 r.1) (le a r.0 ms r.2 wide))

  mutual
    pub expr_laid : (e : Expr) (scope ns ms : List Text) → names_after funs e scope ns ≡ Some ms → IsScope scope → Laid (expr_bits funs e scope ns)
    expr_laid (Lit n) scope ns ms h s = literal_laid n (held (int_le (pos 0) n && int_le n (pos 9223372036854775807)) (Some ns) ms h).0
    expr_laid (Slot k) scope ns ms h s =
        let within : k < length scope = ltb-true k (length scope) (held (nat_lt k (length scope)) (Some ns) ms h).0 in
        word_laid (get_or scope k []) [] (name_spelt (get_or scope k []) (passes_at is_name scope k [] s.names within)) (λ more a. a) nothing_laid
    expr_laid (minus a) scope ns ms h s = free_laid (codes "-") (as_operand a (expr_bits funs a scope ns)) (free (codes "-") refl refl) (operand_laid a (expr_bits funs a scope ns) (expr_laid a scope ns ms h s))
    expr_laid (opposite a) scope ns ms h s = spaced_laid (word (codes "not")) (as_operand a (expr_bits funs a scope ns)) refl (operand_laid a (expr_bits funs a scope ns) (expr_laid a scope ns ms h s))
    expr_laid (binary op a b) scope ns ms h s =
        let q = parts (names_after funs a scope ns) (names_after funs b scope) ms h in
        subst (λ m. Laid (binary_bits op a b (expr_bits funs a scope ns) (expr_bits funs b scope m))) (sym (left_is funs a scope ns q.0 q.1))
        (two_laid op a b _ _ (expr_laid a scope ns q.0 q.1 s) (expr_laid b scope q.0 ms q.2 s))
    expr_laid (choice c a b) scope ns ms h s =
        let q = parts (names_after funs c scope ns) (λ m. and_then (names_after funs a scope m) (names_after funs b scope)) ms h in
        let r = parts (names_after funs a scope q.0) (names_after funs b scope) ms q.2 in
        subst (λ m. Laid (choice_bits (expr_bits funs c scope ns) (expr_bits funs a scope m) (expr_bits funs b scope (names_left a m)))) (sym (left_is funs c scope ns q.0 q.1))
        (subst (λ m. Laid (choice_bits (expr_bits funs c scope ns) (expr_bits funs a scope q.0) (expr_bits funs b scope m))) (sym (left_is funs a scope q.0 r.0 r.1))
        (choice_laid _ _ _ (expr_laid c scope ns q.0 q.1 s) (expr_laid a scope q.0 r.0 r.1 s) (expr_laid b scope r.0 ms r.2 s)))
    expr_laid (binding a b) scope [] ms h s = cc
    expr_laid (binding a b) scope (x ∷ ns) ms h s =
        let n = binds scope ns x (λ y rest. and_then (names_after funs a scope rest) (names_after funs b (scope ++ y ∷ []))) ms h in
        let q = parts (names_after funs a scope ns) (names_after funs b (scope ++ x ∷ [])) ms n.goes in
        subst (λ m. Laid (binding_bits x (expr_bits funs a scope ns) (expr_bits funs b (scope ++ x ∷ []) m))) (sym (left_is funs a scope ns q.0 q.1))
        (binding_laid x _ _ n.name (expr_laid a scope ns q.0 q.1 s) (expr_laid b (scope ++ x ∷ []) q.0 ms q.2 (scope_more scope x s n.name n.new)))
    expr_laid (looping n t e) scope [] ms h s = cc
    expr_laid (looping n t e) scope (i ∷ ns) ms h s =
        let go : Text → List Text → Option (List Text) = λ j m. bind (scope ++ j ∷ []) m (λ a more. and_then (names_after funs t scope more) (names_after funs e (scope ++ j ∷ a ∷ []))) in
        let b = binds scope ns i (λ j rest. and_then (names_after funs n scope rest) (go j)) ms h in
        let q = parts (names_after funs n scope ns) (go i) ms b.goes in
        let bits : List Text → List Bit = λ m. looping_bits i (expr_bits funs n scope ns) (first_of m) (expr_bits funs t scope (drop 1 m)) (expr_bits funs e (scope ++ i ∷ first_of m ∷ []) (names_left t (drop 1 m))) in
        subst (λ m. Laid (bits m)) (sym (left_is funs n scope ns q.0 q.1))
        (loop_laid n t e scope i ns q.0 ms b.name (scope_more scope i s b.name b.new) (expr_laid n scope ns q.0 q.1 s) (λ l m h. expr_laid t scope l m h s) (λ a l m h k. expr_laid e (scope ++ i ∷ a ∷ []) l m h k) q.2)
    expr_laid (Call' f _ args) scope ns ms h s =
        let p = held (takes (widths_of funs f) (count_of funs args)) (names_after_all funs args scope ns) ms h in
        let within : f < length funs = called_within funs f (count_of funs args) (takes_is (widths_of funs f) (count_of funs args) p.0) in
        word_laid (get_or (names_of funs) f []) _ (name_spelt (get_or (names_of funs) f []) (fun_named funs rules f within)) (λ more a. refl)
        (parentheses_laid (listed (all_bits funs args scope ns)) (all_laid (all_bits funs args scope ns) (row_laid args scope ns ms p.1 s)))

    pub row_laid : {n : _} (es : Row_of-Expr n) (scope ns ms : List Text) → names_after_all funs es scope ns ≡ Some ms → IsScope scope → AllLaid (all_bits funs es scope ns)
    row_laid end_of-Expr scope ns ms h s = tt
    row_laid (more_of-Expr e es) scope ns ms h s =
        let q = parts (names_after funs e scope ns) (names_after_all funs es scope) ms h in
        (expr_laid e scope ns q.0 q.1 s, subst (λ m. AllLaid (all_bits funs es scope m)) (sym (left_is funs e scope ns q.0 q.1)) (row_laid es scope q.0 ms q.2 s))
