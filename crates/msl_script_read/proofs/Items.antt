-- How reading goes on at an item of a script.
use Rattle.std.proofs.Common.{◌≡◌, ◌<◌, ◌≤◌, Bool, true, false, ◌||◌, List, [], ◌∷◌, ◌++◌, drop, length, Option, Some, None, Result, Ok, Err, codes, refl, ap, sym, ◌∙◌, arith, lt-ltb, length-append}
use Rattle.std.proofs.lemmas.List.{map-append}
use Rattle.std.proofs.lemmas.List.Folds.{list_any-append}
use Rattle.std.proofs.lemmas.Slice.Eq.{bytes_eq-Decides}
use Rattle.std.specs.Str.{bytes_eq}
use Rattle.msl_lex.specs.declared.kind.Kind.TheVariants.{Expected}
use Rattle.msl_lex.specs.Lexemes.{Form, Lexeme, word, number, sign, close}
use Rattle.msl_fun.specs.declared.funs.Fun.{Fun}
use Rattle.msl_read.specs.declared.fault.ReadFault.{ReadFault}
use Rattle.msl_read.specs.declared.fault.ReadFault.TheVariants.{At, NoMemory}
use Rattle.msl_base.specs.Names.{Text, is_among}
use Rattle.msl_read.specs.Front.{form}
use Rattle.msl_fun_read.specs.Grammar as fun_grammar
use Rattle.msl_read.specs.Kinds.{is_close}
use Rattle.msl_read.specs.Refusals as parsing
use Rattle.msl_read.specs.Reading.{Refusal, Move, takes, ends, stops, failing, ahead, or_refusal, moved, place, says}
use Rattle.msl_program.specs.declared.data.DataProg.{DataProg}
use Rattle.msl_program.specs.Known.{Known}
use Rattle.msl_program.specs.declared.script.BnbSpec.{BnbSpec}
use Rattle.msl_program.specs.declared.script.DivCon as divcon
use Rattle.msl_program.specs.declared.script.FilterSpec.{FilterSpec}
use Rattle.msl_program.specs.Script.{Script}
use Rattle.msl_read.specs.Refusals.{IsRefused}
use Rattle.msl_grammar.specs.Known.{AreAmong, IsKnown}
use Rattle.msl_program.specs.Known.{with_bnb, with_data, with_divcon, with_filter, with_fun}
use Rattle.msl_grammar.specs.ScriptGrammar.{State, a_fun, bnb_rule, close_turn, data_rule, divcon_rule, filter_rule, finish, items, main_rule, reading, whole}

-- ---- words

-- a token says one thing
other : (a b : Text) (f : Form) → bytes_eq a b ≡ false → says a f ≡ true → says b f ≡ false
other a b (word w) e h = ap (λ t. bytes_eq t b) ((bytes_eq-Decides w a).0 h) ∙ e
other a b (sign s) e h = ap (λ t. bytes_eq t b) ((bytes_eq-Decides s a).0 h) ∙ e
other a b (number n) e h = refl
other a b close e h = refl

module _ (m : Known) where
  -- ---- the first word of an item

  pub at_data : (ts rest : List Lexeme) → rest ≡ drop 1 ts → says (codes "data") (form ts) ≡ true → length m.datas < 64 → reading ts (items m) ≡ reading rest (data_rule m (λ d. items (with_data m d)))
  at_data [] rest is h few = cc
  at_data (t ∷ ts) rest is h few = rw (is, other (codes "data") (codes "fun") t.form refl h, h, lt-ltb (length m.datas) 64 few) refl

  pub at_filter : (ts rest : List Lexeme) → rest ≡ drop 1 ts → says (codes "filter") (form ts) ≡ true → length m.filters < 64 → reading ts (items m) ≡ reading rest (filter_rule m (λ f. items (with_filter m f)))
  at_filter [] rest is h few = cc
  at_filter (t ∷ ts) rest is h few =
      rw (is, other (codes "filter") (codes "fun") t.form refl h, other (codes "filter") (codes "data") t.form refl h, h, lt-ltb (length m.filters) 64 few) refl

  pub at_divcon : (ts rest : List Lexeme) → rest ≡ drop 1 ts → says (codes "divcon") (form ts) ≡ true → length m.divcons < 64 → reading ts (items m) ≡ reading rest (divcon_rule m (λ d. items (with_divcon m d)))
  at_divcon [] rest is h few = cc
  at_divcon (t ∷ ts) rest is h few =
      rw (is, other (codes "divcon") (codes "fun") t.form refl h, other (codes "divcon") (codes "data") t.form refl h, other (codes "divcon") (codes "filter") t.form refl h, h, lt-ltb (length m.divcons) 64 few) refl

  pub at_bnb : (ts rest : List Lexeme) → rest ≡ drop 1 ts → says (codes "bnb") (form ts) ≡ true → length m.bnbs < 64 → reading ts (items m) ≡ reading rest (bnb_rule m (λ b. items (with_bnb m b)))
  at_bnb [] rest is h few = cc
  at_bnb (t ∷ ts) rest is h few =
      rw (is, other (codes "bnb") (codes "fun") t.form refl h, other (codes "bnb") (codes "data") t.form refl h, other (codes "bnb") (codes "filter") t.form refl h, other (codes "bnb") (codes "divcon") t.form refl h, h, lt-ltb (length m.bnbs) 64 few) refl

  pub at_main : (ts rest : List Lexeme) → rest ≡ drop 1 ts → says (codes "main") (form ts) ≡ true → reading ts (items m) ≡ reading rest (main_rule m)
  at_main [] rest is h = cc
  at_main (t ∷ ts) rest is h =
      rw (is, other (codes "main") (codes "fun") t.form refl h, other (codes "main") (codes "data") t.form refl h, other (codes "main") (codes "filter") t.form refl h, other (codes "main") (codes "divcon") t.form refl h, other (codes "main") (codes "bnb") t.form refl h, h) refl

  -- ---- a function

  abbrev read_in : List Lexeme → fun_grammar.State → Result (Fun × List Lexeme) Refusal
  read_in ts x = fun_grammar.reading m.funs m.others ts x

  -- what follows a function that was read
  abbrev followed : Result (Fun × List Lexeme) Refusal → (Fun → State) → Result (Script × List Lexeme) Refusal
  followed (Ok r) k = reading r.1 (k r.0)
  followed (Err e) k = Err e

  behind_tests : (r : Option Refusal) (ts : List Lexeme) (x : fun_grammar.State) (k : Fun → State) → reading ts (a_fun m x k) ≡ followed (read_in ts x) k → or_refusal r (reading ts (a_fun m x k)) ≡ followed (or_refusal r (read_in ts x)) k
  behind_tests (Some r) ts x k h = refl
  behind_tests None ts x k h = h

  -- a function is read here as it is by itself
  pub as_by_itself : (ts : List Lexeme) (x : fun_grammar.State) (k : Fun → State) → reading ts (a_fun m x k) ≡ followed (read_in ts x) k
  as_by_itself [] x k = refl
  as_by_itself (t ∷ ts) x k = by (λ y. as_by_itself ts y k) (fun_grammar.on m.funs m.others x t (ahead t ts)) refl
    where
      by : ((y : fun_grammar.State) → reading ts (a_fun m y k) ≡ followed (read_in ts y) k)
          → (move : Move fun_grammar.State Fun) → fun_grammar.on m.funs m.others x t (ahead t ts) ≡ move → reading (t ∷ ts) (a_fun m x k) ≡ followed (read_in (t ∷ ts) x) k
      by later (takes due y) e = rw e (behind_tests (failing due) ts y k (later y))
      by later (ends f) e = rw e refl
      by later stops e = rw e refl

  pub at_fun : (ts : List Lexeme) → says (codes "fun") (form ts) ≡ true → reading ts (items m) ≡ followed (fun_grammar.read_fun m.funs m.others ts) (λ f. items (with_fun m f))
  at_fun [] h = cc
  at_fun (t ∷ ts) h = begun t ts h ∙ as_by_itself (t ∷ ts) fun_grammar.fun (λ f. items (with_fun m f))
    where
      begun : (t : Lexeme) (ts : List Lexeme) → says (codes "fun") t.form ≡ true → reading (t ∷ ts) (items m) ≡ reading (t ∷ ts) (a_fun m fun_grammar.fun (λ f. items (with_fun m f)))
      begun t ts h = rw h refl

  pub fun_taken : (ts rest : List Lexeme) (f : Fun) → says (codes "fun") (form ts) ≡ true → fun_grammar.read_fun m.funs m.others ts ≡ Ok (f, rest) → reading ts (items m) ≡ reading rest (items (with_fun m f))
  fun_taken ts rest f h read = at_fun ts h ∙ ap (λ r. followed r (λ f. items (with_fun m f))) read

  pub fun_refused : (ts : List Lexeme) (e : ReadFault) → says (codes "fun") (form ts) ≡ true → parsing.IsRefused (fun_grammar.read_fun m.funs m.others ts) e → IsRefused (reading ts (items m)) e
  fun_refused ts (At k at) h none = at_fun ts h ∙ ap (λ r. followed r (λ f. items (with_fun m f))) none
  fun_refused ts NoMemory h none = tt

-- ---- what is known, with one definition more

among_more : (names others : List Text) (x : Text) → AreAmong names others → AreAmong names (others ++ x ∷ [])
among_more names others x h n there = list_any-append (bytes_eq n) others (x ∷ []) ∙ rw (h n there) refl

last_among : (a b c : Bool) → (a ≡ true → b ≡ true) → (a || (c || false)) ≡ true → (b || (c || false)) ≡ true
last_among true b c h e = rw (h refl) refl
last_among false true c h e = refl
last_among false false c h e = e

among_both : (names more others : List Text) (x : Text) → more ≡ names ++ x ∷ [] → AreAmong names others → AreAmong more (others ++ x ∷ [])
among_both names more others x is h n there =
    list_any-append (bytes_eq n) others (x ∷ [])
    ∙ last_among (is_among names n) (is_among others n) (bytes_eq n x) (h n) (sym (list_any-append (bytes_eq n) names (x ∷ [])) ∙ ap (λ ns. is_among ns n) (sym is) ∙ there)

module _ (m : Known) (k : IsKnown m) where
  pub fun_known : (f : Fun) → IsKnown (with_fun m f)
  fun_known f = record { few_datas = k.few_datas; few_filters = k.few_filters; few_divcons = k.few_divcons; few_bnbs = k.few_bnbs; datas = k.datas; filters = k.filters; divcons = k.divcons; bnbs = k.bnbs }

  pub data_known : (d : DataProg) → length m.datas < 64 → IsKnown (with_data m d)
  data_known d few = record {
    few_datas = omega (arith, length-append m.datas (d ∷ []));
    few_filters = k.few_filters;
    few_divcons = k.few_divcons;
    few_bnbs = k.few_bnbs;
    datas = among_both _ _ m.others d.name (map-append (λ d. d.name) m.datas (d ∷ [])) k.datas;
    filters = among_more _ m.others d.name k.filters;
    divcons = among_more _ m.others d.name k.divcons;
    bnbs = among_more _ m.others d.name k.bnbs;
  }

  pub filter_known : (f : FilterSpec) → length m.filters < 64 → IsKnown (with_filter m f)
  filter_known f few = record {
    few_datas = k.few_datas;
    few_filters = omega (arith, length-append m.filters (f ∷ []));
    few_divcons = k.few_divcons;
    few_bnbs = k.few_bnbs;
    datas = among_more _ m.others f.name k.datas;
    filters = among_both _ _ m.others f.name (map-append (λ f. f.name) m.filters (f ∷ [])) k.filters;
    divcons = among_more _ m.others f.name k.divcons;
    bnbs = among_more _ m.others f.name k.bnbs;
  }

  pub divcon_known : (d : divcon.DivCon) → length m.divcons < 64 → IsKnown (with_divcon m d)
  divcon_known d few = record {
    few_datas = k.few_datas;
    few_filters = k.few_filters;
    few_divcons = omega (arith, length-append m.divcons (d ∷ []));
    few_bnbs = k.few_bnbs;
    datas = among_more _ m.others d.name k.datas;
    filters = among_more _ m.others d.name k.filters;
    divcons = among_both _ _ m.others d.name (map-append (λ d. d.name) m.divcons (d ∷ [])) k.divcons;
    bnbs = among_more _ m.others d.name k.bnbs;
  }

  pub bnb_known : (b : BnbSpec) → length m.bnbs < 64 → IsKnown (with_bnb m b)
  bnb_known b few = record {
    few_datas = k.few_datas;
    few_filters = k.few_filters;
    few_divcons = k.few_divcons;
    few_bnbs = omega (arith, length-append m.bnbs (b ∷ []));
    datas = among_more _ m.others b.name k.datas;
    filters = among_more _ m.others b.name k.filters;
    divcons = among_more _ m.others b.name k.divcons;
    bnbs = among_both _ _ m.others b.name (map-append (λ b. b.name) m.bnbs (b ∷ [])) k.bnbs;
  }

-- a refusal of what is read alike
pub carry : (r s : Result (Script × List Lexeme) Refusal) (e : ReadFault) → r ≡ s → IsRefused s e → IsRefused r e
carry r s (At kind at) is h = is ∙ h
carry r s NoMemory is h = tt

-- ---- the end of a script

pub none_of_these : (m : Known) (ts : List Lexeme) → says (codes "fun") (form ts) ≡ false → says (codes "data") (form ts) ≡ false → says (codes "filter") (form ts) ≡ false → says (codes "divcon") (form ts) ≡ false → says (codes "bnb") (form ts) ≡ false
    → says (codes "main") (form ts) ≡ false → reading ts (items m) ≡ Err (Expected, place ts)
none_of_these m [] a b c d e f = refl
none_of_these m (t ∷ ts) a b c d e f = rw (a, b, c, d, e, f) refl

module _ (s : Script) where
  closed_by : (f : Form) (t : Lexeme) (ts : List Lexeme) → is_close f ≡ true → moved (close_turn f s) t ts (reading ts) ≡ Ok (s, t ∷ ts)
  closed_by close t ts h = refl
  closed_by (word w) t ts h = cc
  closed_by (number n) t ts h = cc
  closed_by (sign w) t ts h = cc

  pub closed : (ts : List Lexeme) → 1 ≤ length ts → is_close (form ts) ≡ true → whole (reading ts (finish s)) ≡ Ok s
  closed [] some h = absurd (omega arith)
  closed (t ∷ ts) some h = ap whole (closed_by t.form t ts h)

  open_by : (f : Form) (t : Lexeme) (ts : List Lexeme) → is_close f ≡ false → moved (close_turn f s) t ts (reading ts) ≡ Err (Expected, t.at)
  open_by close t ts h = cc
  open_by (word w) t ts h = refl
  open_by (number n) t ts h = refl
  open_by (sign w) t ts h = refl

  pub not_closed : (ts : List Lexeme) → is_close (form ts) ≡ false → reading ts (finish s) ≡ Err (Expected, place ts)
  not_closed [] h = cc
  not_closed (t ∷ ts) h = open_by t.form t ts h
