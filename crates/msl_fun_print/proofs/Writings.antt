-- What is written, step by step.
use Rattle.std.proofs.Common.{◌≡◌, ℕ, List, [], ◌∷◌, ◌++◌, length, map, take, drop, true, false, Result, Ok, Err, OnOk, codes, refl, sym, ap, ◌∙◌, append_assoc, append-nil, slice_index_or, get_or, arith, ◌≢◌}
use Rattle.std.proofs.lemmas.List.{take_at}
use Rattle.msl_lex.specs.Printing.{Bit, token, bytes_of, text_of, spelling}
use Rattle.msl_fun.specs.declared.expr.BinOp.{BinOp}
use Rattle.msl_fun.specs.declared.expr.Expr.{Expr}
use Rattle.msl_fun.specs.declared.funs.Fun.{Fun}
use Rattle.msl_fun.specs.Shapes.{binary, choice, binding, looping, calling, row}
use Rattle.msl_base.specs.Names.{Text}
use Rattle.msl_fun.specs.Checks.{names_of}
use Rattle.msl_fun_print.specs.FunText.{mark, named, space, operator, listed, as_operand, is_pair, is_simple, expr_bits, all_bits, body_bits, fun_bits, names_left, names_left_by, first_of}
use Rattle.msl_fun_print.specs.Writing.{Writing, with_text, with_opening, with_operator, past_name, in_scope, in_first, with_expr, with_part, with_value, with_operand, with_prefixed, with_list, with_params, with_head, with_results}
use Rattle.msl_fun_print.proofs.Listed.{later, listed_is}

-- ---- steps one after another, the last of which may fail

pub two : {A E : Type 0} (f g : Writing → Writing) (s0 s1 s2 t : Writing) (r : Result A E) → s1 ≡ f s0 → OnOk r (s2 ≡ g s1) → g (f s0) ≡ t → OnOk r (s2 ≡ t)
two f g s0 s1 s2 t (Ok a) e1 e2 is = e2 ∙ ap g e1 ∙ is
two f g s0 s1 s2 t (Err e) e1 e2 is = e2

pub three : {A E : Type 0} (f g h : Writing → Writing) (s0 s1 s2 s3 t : Writing) (r : Result A E) → s1 ≡ f s0 → s2 ≡ g s1 → OnOk r (s3 ≡ h s2) → h (g (f s0)) ≡ t → OnOk r (s3 ≡ t)
three f g h s0 s1 s2 s3 t r e1 e2 e3 is = two (λ w. g (f w)) h s0 s2 s3 t r (e2 ∙ ap g e1) e3 is

pub four : {A E : Type 0} (f g h k : Writing → Writing) (s0 s1 s2 s3 s4 t : Writing) (r : Result A E) → s1 ≡ f s0 → s2 ≡ g s1 → s3 ≡ h s2 → OnOk r (s4 ≡ k s3) → k (h (g (f s0))) ≡ t → OnOk r (s4 ≡ t)
four f g h k s0 s1 s2 s3 s4 t r e1 e2 e3 e4 is = three (λ w. g (f w)) h k s0 s2 s3 s4 t r (e2 ∙ ap g e1) e3 e4 is

-- ---- texts side by side

as_text : (scope names : List Text) (t u : List ℕ) → t ≡ u → ◌≡◌ {A = Writing} (record { text = t; scope = scope; names = names }) (record { text = u; scope = scope; names = names })
as_text scope names t u e = λ i. record { text = e i; scope = scope; names = names }

text_of-append : (bs cs : List Bit) → text_of (bs ++ cs) ≡ text_of bs ++ text_of cs
text_of-append [] cs = refl
text_of-append (b ∷ bs) cs = ap (λ (t : List ℕ). bytes_of b ++ t) (text_of-append bs cs) ∙ sym (append_assoc (bytes_of b) (text_of bs) (text_of cs))

joined : (t : List ℕ) (bs cs : List Bit) → (t ++ text_of bs) ++ text_of cs ≡ t ++ text_of (bs ++ cs)
joined t bs cs = append_assoc t (text_of bs) (text_of cs) ∙ ap (λ (u : List ℕ). t ++ u) (sym (text_of-append bs cs))

joined_three : (t : List ℕ) (bs cs ds : List Bit) → ((t ++ text_of bs) ++ text_of cs) ++ text_of ds ≡ t ++ text_of ((bs ++ cs) ++ ds)
joined_three t bs cs ds = ap (λ (u : List ℕ). u ++ text_of ds) (joined t bs cs) ∙ joined t (bs ++ cs) ds

pub opening_text : (name : Text) (w : Writing) → with_text (codes "(") (with_text name w) ≡ with_opening name w
opening_text name w = as_text w.scope w.names _ _ (append_assoc w.text name (codes "("))

pub operator_text : (op : BinOp) (sign : Text) (w : Writing) → sign ≡ spelling (operator op) → with_text (codes " ") (with_text sign (with_text (codes " ") w)) ≡ with_operator op w
operator_text op sign w is =
    as_text w.scope w.names _ _ (append_assoc (w.text ++ codes " ") sign (codes " ") ∙ append_assoc w.text (codes " ") (sign ++ codes " "))
    ∙ ap (λ (s : Text). with_text (codes " " ++ (s ++ codes " ")) w) is

-- ---- names in scope

scope_again : (n : ℕ) (scope bound : List Text) → n ≡ length scope → take n (scope ++ bound) ≡ scope
scope_again n scope bound is = take_at scope bound n (sym is)

module _ (funs : List Fun) where
  -- ---- expressions

  pub part_text : (before : List ℕ) (e : Expr) (w : Writing) → with_expr funs e (with_text before w) ≡ with_part funs before e w
  part_text before e w = as_text w.scope (names_left e w.names) _ _ (append_assoc w.text before (text_of (expr_bits funs e w.scope w.names)))

  pub value_text : (before : List ℕ) (name : Text) (after : List ℕ) (e : Expr) (w : Writing) → with_part funs after e (with_text name (with_text before w)) ≡ with_value funs before name after e w
  value_text before name after e w =
      let behind : List ℕ = after ++ text_of (expr_bits funs e w.scope w.names) in
      as_text w.scope (names_left e w.names) _ _ (append_assoc (w.text ++ before) name behind ∙ append_assoc w.text before (name ++ behind))

  pub prefixed_text : (op : List ℕ) (a : Expr) (w : Writing) → with_operand funs a (with_text op w) ≡ with_prefixed funs op a w
  prefixed_text op a w = as_text w.scope (names_left a w.names) _ _ (append_assoc w.text op (text_of (as_operand a (expr_bits funs a w.scope w.names))))

  pub plain_operand : {A E : Type 0} (e : Expr) (s0 s1 : Writing) (r : Result A E) → is_simple e ≡ true → OnOk r (s1 ≡ with_expr funs e s0) → OnOk r (s1 ≡ with_operand funs e s0)
  plain_operand e s0 s1 r simple h = rw simple h

  pub operand_text : (e : Expr) (w : Writing) → is_simple e ≡ false → with_text (codes ")") (with_part funs (codes "(") e w) ≡ with_operand funs e w
  operand_text e w other = rw other (as_text w.scope (names_left e w.names) _ _ (joined w.text (mark (codes "(") ∷ expr_bits funs e w.scope w.names) (mark (codes ")") ∷ [])))

  pub pair_text : (op : BinOp) (a b : Expr) (sign : Text) (w : Writing) → is_pair op ≡ true → sign ≡ spelling (operator op)
      → with_text (codes ")") (with_part funs (codes ", ") b (with_value funs [] sign (codes "(") a w)) ≡ with_expr funs (binary op a b) w
  pair_text op a b sign w pair is =
      ap (λ (s : Text). with_text (codes ")") (with_part funs (codes ", ") b (with_value funs [] s (codes "(") a w))) is
      ∙ rw pair (as_text w.scope (names_left b (names_left a w.names)) _ _
      (joined_three w.text (token (operator op) ∷ mark (codes "(") ∷ expr_bits funs a w.scope w.names) (mark (codes ",") ∷ space ∷ expr_bits funs b w.scope (names_left a w.names)) (mark (codes ")") ∷ [])))

  pub binary_text : (op : BinOp) (a b : Expr) (w : Writing) → is_pair op ≡ false → with_operand funs b (with_operator op (with_operand funs a w)) ≡ with_expr funs (binary op a b) w
  binary_text op a b w between =
      let left : List Bit = as_operand a (expr_bits funs a w.scope w.names) in
      let right : List Bit = as_operand b (expr_bits funs b w.scope (names_left a w.names)) in
      rw between (as_text w.scope (names_left b (names_left a w.names)) _ _
      (joined (w.text ++ text_of left) (space ∷ token (operator op) ∷ space ∷ []) right ∙ joined w.text left (space ∷ token (operator op) ∷ space ∷ right)))

  pub choice_text : (c a b : Expr) (w : Writing) → with_part funs (codes " else ") b (with_part funs (codes " then ") a (with_part funs (codes "if ") c w)) ≡ with_expr funs (choice c a b) w
  choice_text c a b w =
      let m : List Text = names_left c w.names in
      let l : List Text = names_left a m in
      as_text w.scope (names_left b l) _ _
      (joined_three w.text (named (codes "if") ∷ space ∷ expr_bits funs c w.scope w.names) (space ∷ named (codes "then") ∷ space ∷ expr_bits funs a w.scope m) (space ∷ named (codes "else") ∷ space ∷ expr_bits funs b w.scope l))

  binding_text : (a b : Expr) (left : ℕ) (w : Writing) → left ≡ length w.scope
      → in_first left (with_part funs (codes " in ") b (in_scope (first_of w.names ∷ []) (with_value funs (codes "let ") (first_of w.names) (codes " = ") a (past_name w)))) ≡ with_expr funs (binding a b) w
  binding_text a b left w all =
      let x : Text = first_of w.names in
      let m : List Text = drop 1 w.names in
      let inside : List Bit = space ∷ named (codes "in") ∷ space ∷ expr_bits funs b (w.scope ++ x ∷ []) (names_left a m) in
      λ i. record {
        text = joined w.text (named (codes "let") ∷ space ∷ named x ∷ space ∷ mark (codes "=") ∷ space ∷ expr_bits funs a w.scope m) inside i;
        scope = scope_again left w.scope (x ∷ []) all i;
        names = names_left b (names_left a m);
      }

  pub binding_steps : (a b : Expr) (x : Text) (left : ℕ) (s0 s1 s2 s3 s4 s5 : Writing) → left ≡ length s0.scope → x ≡ first_of s0.names → s1 ≡ past_name s0 → s2 ≡ with_value funs (codes "let ") x (codes " = ") a s1
      → s3 ≡ in_scope (x ∷ []) s2 → s4 ≡ with_part funs (codes " in ") b s3 → s5 ≡ in_first left s4 → s5 ≡ with_expr funs (binding a b) s0
  binding_steps a b x left s0 s1 s2 s3 s4 s5 all is e1 e2 e3 e4 e5 =
      let whole : Text → Writing → Writing = λ y w. in_first left (with_part funs (codes " in ") b (in_scope (y ∷ []) (with_value funs (codes "let ") y (codes " = ") a w))) in
      e5 ∙ ap (in_first left) (e4 ∙ ap (with_part funs (codes " in ") b) (e3 ∙ ap (in_scope (x ∷ [])) e2))
      ∙ (ap (whole x) e1 ∙ (ap (λ (y : Text). whole y (past_name s0)) is ∙ binding_text a b left s0 all))

  -- a loop with these names of its number of turns and of the value so far
  abbrev whole_loop : Expr → Expr → Expr → ℕ → Text → Text → Writing → Writing
  whole_loop n s e left i a w =
      in_first left (with_part funs (codes " in ") e (in_scope (a ∷ []) (in_scope (i ∷ []) (with_value funs (codes ", ") a (codes " = ") s (past_name (with_value funs (codes "loop ") i (codes " below ") n w))))))

  looping_text : (n s e : Expr) (left : ℕ) (w : Writing) → left ≡ length w.scope
      → whole_loop n s e left (first_of w.names) (first_of (names_left n (drop 1 w.names))) (past_name w) ≡ with_expr funs (looping n s e) w
  looping_text n s e left w all =
      let i : Text = first_of w.names in
      let m : List Text = names_left n (drop 1 w.names) in
      let a : Text = first_of m in
      let l : List Text = drop 1 m in
      let turns : List Bit = named (codes "loop") ∷ space ∷ named i ∷ space ∷ named (codes "below") ∷ space ∷ expr_bits funs n w.scope (drop 1 w.names) in
      let first : List Bit = mark (codes ",") ∷ space ∷ named a ∷ space ∷ mark (codes "=") ∷ space ∷ expr_bits funs s w.scope l in
      let next : List Text → List Bit = λ scope. space ∷ named (codes "in") ∷ space ∷ expr_bits funs e scope (names_left s l) in
      let wide = append_assoc w.scope (i ∷ []) (a ∷ []) in
      λ j. record {
        text = (ap (λ (scope : List Text). ((w.text ++ text_of turns) ++ text_of first) ++ text_of (next scope)) wide ∙ joined_three w.text turns first (next (w.scope ++ i ∷ a ∷ []))) j;
        scope = (ap (take left) wide ∙ scope_again left w.scope (i ∷ a ∷ []) all) j;
        names = names_left e (names_left s l);
      }

  pub looping_steps : (n s e : Expr) (i a : Text) (left : ℕ) (s0 s1 s2 s3 s4 s5 s6 s7 s8 : Writing) → left ≡ length s0.scope → i ≡ first_of s0.names → s1 ≡ past_name s0 → s2 ≡ with_value funs (codes "loop ") i (codes " below ") n s1
      → a ≡ first_of s2.names → s3 ≡ past_name s2 → s4 ≡ with_value funs (codes ", ") a (codes " = ") s s3 → s5 ≡ in_scope (i ∷ []) s4 → s6 ≡ in_scope (a ∷ []) s5 → s7 ≡ with_part funs (codes " in ") e s6 → s8 ≡ in_first left s7
      → s8 ≡ with_expr funs (looping n s e) s0
  looping_steps n s e i a left s0 s1 s2 s3 s4 s5 s6 s7 s8 all is e1 e2 is_a e3 e4 e5 e6 e7 e8 =
      let whole : Text → Text → Writing → Writing = whole_loop n s e left in
      let so_far : s2 ≡ with_value funs (codes "loop ") i (codes " below ") n (past_name s0) = e2 ∙ ap (with_value funs (codes "loop ") i (codes " below ") n) e1 in
      let first : s4 ≡ with_value funs (codes ", ") a (codes " = ") s (past_name (with_value funs (codes "loop ") i (codes " below ") n (past_name s0))) = e4 ∙ ap (with_value funs (codes ", ") a (codes " = ") s) (e3 ∙ ap past_name so_far) in
      let second : a ≡ first_of (names_left n (drop 1 s0.names)) = is_a ∙ ap (λ (w : Writing). first_of w.names) so_far in
      e8 ∙ ap (in_first left) (e7 ∙ ap (with_part funs (codes " in ") e) (e6 ∙ ap (in_scope (a ∷ [])) (e5 ∙ ap (in_scope (i ∷ [])) first)))
      ∙ (ap (λ (y : Text). whole y a (past_name s0)) is ∙ (ap (λ (y : Text). whole (first_of s0.names) y (past_name s0)) second ∙ looping_text n s e left s0 all))

  pub calling_text : (f : ℕ) (es : List Expr) (name : Text) (w : Writing) → name ≡ slice_index_or (names_of funs) f []
      → with_text (codes ")") (with_list funs es (with_opening name w)) ≡ with_expr funs (calling f es) w
  calling_text f es name w is =
      ap (λ (n : Text). with_text (codes ")") (with_list funs es (with_opening n w))) is
      ∙ as_text w.scope (names_left_by (row es) w.names) _ _
      (joined_three w.text (named (slice_index_or (names_of funs) f []) ∷ mark (codes "(") ∷ []) (listed (all_bits funs (row es) w.scope w.names)) (mark (codes ")") ∷ []))

  -- the same expression
  pub same_expr : {A E : Type 0} (d e : Expr) (s0 s1 : Writing) (r : Result A E) → d ≡ e → OnOk r (s1 ≡ with_expr funs d s0) → OnOk r (s1 ≡ with_expr funs e s0)
  same_expr d e s0 s1 (Ok a) is h = h ∙ ap (λ (x : Expr). with_expr funs x s0) is
  same_expr d e s0 s1 (Err x) is h = h

  -- ---- lists

  -- expressions that are left, each behind a comma
  abbrev pub with_more : List Expr → Writing → Writing
  with_more es w = record { text = w.text ++ text_of (later (all_bits funs (row es) w.scope w.names)); scope = w.scope; names = names_left_by (row es) w.names }

  no_more : (w : Writing) → with_more [] w ≡ w
  no_more w = as_text w.scope w.names _ _ (append-nil w.text)

  list_text : (e : Expr) (es : List Expr) (w : Writing) → with_more es (with_expr funs e w) ≡ with_list funs (e ∷ es) w
  list_text e es w =
      let first : List Bit = expr_bits funs e w.scope w.names in
      let others : List (List Bit) = all_bits funs (row es) w.scope (names_left e w.names) in
      as_text w.scope (names_left_by (row (e ∷ es)) w.names) _ _ (joined w.text first (later others) ∙ ap (λ (bs : List Bit). w.text ++ text_of bs) (sym (listed_is first others)))

  more_text : (e : Expr) (es : List Expr) (w : Writing) → with_more es (with_part funs (codes ", ") e w) ≡ with_more (e ∷ es) w
  more_text e es w =
      let first : List Bit = expr_bits funs e w.scope w.names in
      let others : List (List Bit) = all_bits funs (row es) w.scope (names_left e w.names) in
      as_text w.scope (names_left_by (row (e ∷ es)) w.names) _ _
      (joined w.text (mark (codes ",") ∷ space ∷ first) (later others) ∙ ap (λ (bs : List Bit). w.text ++ text_of (mark (codes ",") ∷ space ∷ bs)) (sym (listed_is first others)))

  pub list_step : (e : Expr) (es all left : List Expr) (s0 s1 s2 : Writing) → left ≡ e ∷ es → s2 ≡ with_part funs (codes ", ") e s1 → with_more left s1 ≡ with_more all s0 → with_more es s2 ≡ with_more all s0
  list_step e es all left s0 s1 s2 split e2 so_far = ap (with_more es) e2 ∙ (more_text e es s1 ∙ (ap (λ (ds : List Expr). with_more ds s1) (sym split) ∙ so_far))

  pub list_ends : (e : Expr) (es all left : List Expr) (s0 s1 s2 : Writing) → all ≡ e ∷ es → left ≡ [] → s1 ≡ with_expr funs e s0 → with_more left s2 ≡ with_more es s1 → s2 ≡ with_list funs all s0
  list_ends e es all left s0 s1 s2 split none e1 so_far =
      sym (no_more s2) ∙ (ap (λ (ds : List Expr). with_more ds s2) (sym none) ∙ (so_far ∙ (ap (with_more es) e1 ∙ (list_text e es s0 ∙ ap (λ (ds : List Expr). with_list funs ds s0) (sym split)))))

  pub no_list : (all : List Expr) (w : Writing) → length all ≡ 0 → w ≡ with_list funs all w
  no_list [] w none = sym (as_text w.scope w.names _ _ (append-nil w.text))
  no_list (e ∷ es) w none = absurd (omega arith)

  -- ---- results

  one_text : (es : List Expr) (d : Expr) (w : Writing) → length es ≡ 1 → with_part funs (codes " = ") (get_or es 0 d) w ≡ with_results funs es w
  one_text [] d w one = absurd (omega arith)
  one_text (e ∷ []) d w one = refl
  one_text (e ∷ f ∷ es) d w one = absurd (omega arith)

  pub one_result : {A E : Type 0} (es : List Expr) (e : Expr) (s0 s1 : Writing) (r : Result A E) → length es ≡ 1 → e ≡ get_or es 0 e → OnOk r (s1 ≡ with_part funs (codes " = ") e s0) → OnOk r (s1 ≡ with_results funs es s0)
  one_result es e s0 s1 (Ok a) one is h = h ∙ (ap (λ (x : Expr). with_part funs (codes " = ") x s0) is ∙ one_text es e s0 one)
  one_result es e s0 s1 (Err x) one is h = h

  pub results_text : (es : List Expr) (w : Writing) → length es ≢ 1 → with_text (codes "]") (with_list funs es (with_text (codes " = [") w)) ≡ with_results funs es w
  results_text [] w many = as_text w.scope w.names _ _ (joined_three w.text (space ∷ mark (codes "=") ∷ space ∷ mark (codes "[") ∷ []) [] (mark (codes "]") ∷ []))
  results_text (e ∷ []) w many = absurd (many refl)
  results_text (e ∷ d ∷ es) w many =
      as_text w.scope (names_left_by (row (e ∷ d ∷ es)) w.names) _ _
      (joined_three w.text (space ∷ mark (codes "=") ∷ space ∷ mark (codes "[") ∷ []) (listed (all_bits funs (row (e ∷ d ∷ es)) w.scope w.names)) (mark (codes "]") ∷ []))

-- ---- parameters

abbrev alone : List Text → List (List Bit)
alone ps = map (λ p. named p ∷ []) ps

abbrev pub with_more_params : List Text → Writing → Writing
with_more_params ps w = record { text = w.text ++ text_of (later (alone ps)); scope = w.scope ++ ps; names = w.names }

abbrev pub with_param : Text → Writing → Writing
with_param p w = in_scope (p ∷ []) (with_text p w)

no_more_params : (w : Writing) → with_more_params [] w ≡ w
no_more_params w = λ i. record { text = append-nil w.text i; scope = append-nil w.scope i; names = w.names }

-- the text of a name, as that of a bit
name_text : (t : List ℕ) (p : Text) (bs : List Bit) → (t ++ p) ++ text_of bs ≡ t ++ text_of (named p ∷ bs)
name_text t p bs = append_assoc t p (text_of bs)

params_text : (p : Text) (ps : List Text) (w : Writing) → with_more_params ps (with_param p w) ≡ with_params (p ∷ ps) w
params_text p ps w =
    let text = name_text w.text p (later (alone ps)) ∙ ap (λ (bs : List Bit). w.text ++ text_of bs) (sym (listed_is (named p ∷ []) (alone ps))) in
    λ i. record { text = text i; scope = append_assoc w.scope (p ∷ []) ps i; names = w.names }

more_params_text : (p : Text) (ps : List Text) (w : Writing) → with_more_params ps (with_param p (with_text (codes ", ") w)) ≡ with_more_params (p ∷ ps) w
more_params_text p ps w =
    let first : List Bit = named p ∷ later (alone ps) in
    let text = name_text (w.text ++ codes ", ") p (later (alone ps)) ∙ (append_assoc w.text (codes ", ") (text_of first) ∙ ap (λ (bs : List Bit). w.text ++ text_of (mark (codes ",") ∷ space ∷ bs)) (sym (listed_is (named p ∷ []) (alone ps)))) in
    λ i. record { text = text i; scope = append_assoc w.scope (p ∷ []) ps i; names = w.names }

pub param_step : (p : Text) (ps all left : List Text) (s0 s1 s2 s3 : Writing) → left ≡ p ∷ ps → s2 ≡ with_text (codes ", ") s1 → s3 ≡ with_param p s2 → with_more_params left s1 ≡ with_more_params all s0
    → with_more_params ps s3 ≡ with_more_params all s0
param_step p ps all left s0 s1 s2 s3 split e2 e3 so_far =
    ap (with_more_params ps) (e3 ∙ ap (with_param p) e2) ∙ (more_params_text p ps s1 ∙ (ap (λ (qs : List Text). with_more_params qs s1) (sym split) ∙ so_far))

pub params_end : (p : Text) (ps all left : List Text) (s0 s1 s2 : Writing) → all ≡ p ∷ ps → left ≡ [] → s1 ≡ with_param p s0 → with_more_params left s2 ≡ with_more_params ps s1 → s2 ≡ with_params all s0
params_end p ps all left s0 s1 s2 split none e1 so_far =
    sym (no_more_params s2) ∙ (ap (λ (qs : List Text). with_more_params qs s2) (sym none) ∙ (so_far ∙ (ap (with_more_params ps) e1 ∙ (params_text p ps s0 ∙ ap (λ (qs : List Text). with_params qs s0) (sym split)))))

pub no_params : (all : List Text) (w : Writing) → length all ≡ 0 → w ≡ with_params all w
no_params [] w none = sym (no_more_params w)
no_params (p ∷ ps) w none = absurd (omega arith)

-- ---- a function

pub head_text : (f : Fun) (w : Writing) → with_text (codes ")") (with_params f.params (with_opening f.name (with_text (codes "fun ") w))) ≡ with_head f w
head_text f w =
    let word : List Bit = named (codes "fun") ∷ space ∷ [] in
    let opening : List Bit = named f.name ∷ mark (codes "(") ∷ [] in
    let params : List Bit = listed (alone f.params) in
    as_text (w.scope ++ f.params) w.names _ _ (ap (λ (t : List ℕ). (t ++ text_of params) ++ codes ")") (joined w.text word opening) ∙ joined_three w.text (word ++ opening) params (mark (codes ")") ∷ []))

pub fun_steps : (funs : List Fun) (f : Fun) (s0 s1 s2 s3 : Writing) → s0 ≡ record { text = []; scope = []; names = f.names } → s1 ≡ with_head f s0 → s2 ≡ with_results funs f.results s1 → s3 ≡ with_text (codes ";") s2
    → s3.text ≡ text_of (fun_bits funs f)
fun_steps funs f s0 s1 s2 s3 e0 e1 e2 e3 =
    ap (λ (w : Writing). w.text) (e3 ∙ ap (with_text (codes ";")) (e2 ∙ ap (with_results funs f.results) (e1 ∙ ap (with_head f) e0)))
    ∙ joined_three [] (named (codes "fun") ∷ space ∷ named f.name ∷ mark (codes "(") ∷ listed (alone f.params) ++ mark (codes ")") ∷ []) (space ∷ mark (codes "=") ∷ space ∷ body_bits (all_bits funs (row f.results) f.params f.names)) (mark (codes ";") ∷ [])
