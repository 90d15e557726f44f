-- The text of a script is laid, and it is read as the script.
use Rattle.std.proofs.Common.{◌≡◌, ◌<◌, ℕ, Bool, true, false, not, List, [], ◌∷◌, ◌++◌, length, map, get_or, codes, refl, Ok, ap, sym, subst, ◌∙◌, append_assoc, append-nil, arith}
use Rattle.std.proofs.lemmas.List.{length-map, map-append}
use Rattle.msl_lex.specs.Lexemes.{Lexeme, word, close, lexeme}
use Rattle.msl_lex.specs.Printing.{Bit, token, blank, text_of, forms_of}
use Rattle.msl_lex.proofs.Printings.{laid_says_all}
use Rattle.msl_fun.specs.declared.funs.Fun.{Fun}
use Rattle.msl_base.specs.Names.{Text, is_among}
use Rattle.msl_fun.specs.Checks.{AreFuns, names_of}
use Rattle.msl_lex.specs.Names.{is_name}
use Rattle.msl_fun_print.specs.FunText.{space, named, mark}
use Rattle.msl_read.specs.Kinds.{is_close}
use Rattle.msl_fun.proofs.Functions.{funs_added}
use Rattle.msl_muscle_laws.proofs.PrintedNames.{and_true, not_true, or_false}
use Rattle.msl_muscle_laws.proofs.PrintedTokens.{Says}
use Rattle.msl_program.specs.declared.data.DataProg.{DataProg}
use Rattle.msl_program.specs.declared.script.BnbSpec.{BnbSpec}
use Rattle.msl_program.specs.declared.script.DivCon as divcon
use Rattle.msl_program.specs.declared.script.FilterSpec.{FilterSpec}
use Rattle.msl_program.specs.declared.script.ItemKind.{ItemKind}
use Rattle.msl_program.specs.declared.script.ItemKind.TheVariants as kind
use Rattle.msl_program.specs.declared.script.Script.{Script}
use Rattle.msl_program.specs.declared.stage.Stage.{Stage}
use Rattle.msl_grammar.specs.Known.{AreAmong}
use Rattle.msl_program.specs.Known.{Known, script_of, nothing_known, is_declared, data_names, filter_names, divcon_names, bnb_names, with_fun, with_data, with_filter, with_divcon, with_bnb}
use Rattle.msl_program.specs.Fitting.{IsWhole}
use Rattle.msl_grammar.specs.ScriptGrammar.{State, items, finish, main_rule, outermost, no_stages, script_rule, whole, ReadsAs}
use Rattle.msl_grammar.specs.ScriptGrammar as grammar
use Rattle.msl_program.specs.ScriptPromise.{Item, fun_item, data_item, filter_item, divcon_item, bnb_item, with_item, with_items, built, ItemFits, EachFits, IsMain, IsScript}
use Rattle.msl_script_print.specs.ScriptText.{line_end, in_order, items_of, item_bits, items_bits, stage_bits, script_bits, AllOpenFew, OpensFewIn}
use Rattle.msl_script_read.proofs.Items.{at_main, closed, fun_known, data_known, filter_known, divcon_known, bnb_known}
use Rattle.msl_script_laws.proofs.Printed.{Goes, nothing, spaced, lined, one_token, grouped, word_goes, sign_goes}
use Rattle.msl_script_laws.proofs.PrintedFunctions.{fun_item_goes}
use Rattle.msl_script_laws.proofs.PrintedItems.{filter_goes, divcon_goes, bnb_goes}
use Rattle.msl_script_laws.proofs.PrintedNames.{AreNames, no_names, one_name_more, stands}
use Rattle.msl_script_laws.proofs.PrintedParts.{Stands}
use Rattle.msl_script_laws.proofs.PrintedPrograms.{data_goes}
use Rattle.msl_script_laws.proofs.PrintedStages.{HasNames, stage_goes}

-- ---- what items make known

abbrev kinds_in : List Item → List ItemKind
kinds_in [] = []
kinds_in (fun_item f ∷ is) = kind.Fun ∷ kinds_in is
kinds_in (data_item d ∷ is) = kind.Data ∷ kinds_in is
kinds_in (filter_item g ∷ is) = kind.Filter ∷ kinds_in is
kinds_in (divcon_item v ∷ is) = kind.DivCon ∷ kinds_in is
kinds_in (bnb_item b ∷ is) = kind.Bnb ∷ kinds_in is

abbrev funs_in : List Item → List Fun
funs_in [] = []
funs_in (fun_item f ∷ is) = f ∷ funs_in is
funs_in (_ ∷ is) = funs_in is

abbrev datas_in : List Item → List DataProg
datas_in [] = []
datas_in (data_item d ∷ is) = d ∷ datas_in is
datas_in (_ ∷ is) = datas_in is

abbrev filters_in : List Item → List FilterSpec
filters_in [] = []
filters_in (filter_item g ∷ is) = g ∷ filters_in is
filters_in (_ ∷ is) = filters_in is

abbrev divcons_in : List Item → List divcon.DivCon
divcons_in [] = []
divcons_in (divcon_item v ∷ is) = v ∷ divcons_in is
divcons_in (_ ∷ is) = divcons_in is

abbrev bnbs_in : List Item → List BnbSpec
bnbs_in [] = []
bnbs_in (bnb_item b ∷ is) = b ∷ bnbs_in is
bnbs_in (_ ∷ is) = bnbs_in is

-- each list has what was in it, with what the items bring
record Has (m n : Known) (is : List Item) : Type 0 where
  order : n.order ≡ m.order ++ kinds_in is
  funs : n.funs ≡ m.funs ++ funs_in is
  datas : n.datas ≡ m.datas ++ datas_in is
  filters : n.filters ≡ m.filters ++ filters_in is
  divcons : n.divcons ≡ m.divcons ++ divcons_in is
  bnbs : n.bnbs ≡ m.bnbs ++ bnbs_in is

has : (m : Known) (is : List Item) → Has m (with_items m is) is
has m [] = record { order = sym (append-nil m.order); funs = sym (append-nil m.funs); datas = sym (append-nil m.datas); filters = sym (append-nil m.filters); divcons = sym (append-nil m.divcons); bnbs = sym (append-nil m.bnbs) }
has m (fun_item f ∷ is) =
    let h = has (with_fun m f) is in
    record { order = h.order ∙ append_assoc m.order (kind.Fun ∷ []) (kinds_in is); funs = h.funs ∙ append_assoc m.funs (f ∷ []) (funs_in is); datas = h.datas; filters = h.filters; divcons = h.divcons; bnbs = h.bnbs }
has m (data_item d ∷ is) =
    let h = has (with_data m d) is in
    record { order = h.order ∙ append_assoc m.order (kind.Data ∷ []) (kinds_in is); funs = h.funs; datas = h.datas ∙ append_assoc m.datas (d ∷ []) (datas_in is); filters = h.filters; divcons = h.divcons; bnbs = h.bnbs }
has m (filter_item g ∷ is) =
    let h = has (with_filter m g) is in
    record { order = h.order ∙ append_assoc m.order (kind.Filter ∷ []) (kinds_in is); funs = h.funs; datas = h.datas; filters = h.filters ∙ append_assoc m.filters (g ∷ []) (filters_in is); divcons = h.divcons; bnbs = h.bnbs }
has m (divcon_item v ∷ is) =
    let h = has (with_divcon m v) is in
    record { order = h.order ∙ append_assoc m.order (kind.DivCon ∷ []) (kinds_in is); funs = h.funs; datas = h.datas; filters = h.filters; divcons = h.divcons ∙ append_assoc m.divcons (v ∷ []) (divcons_in is); bnbs = h.bnbs }
has m (bnb_item b ∷ is) =
    let h = has (with_bnb m b) is in
    record { order = h.order ∙ append_assoc m.order (kind.Bnb ∷ []) (kinds_in is); funs = h.funs; datas = h.datas; filters = h.filters; divcons = h.divcons; bnbs = h.bnbs ∙ append_assoc m.bnbs (b ∷ []) (bnbs_in is) }

-- the lists say in which order the items stand
in_order_again : (is : List Item) → in_order (kinds_in is) (funs_in is) (datas_in is) (filters_in is) (divcons_in is) (bnbs_in is) ≡ is
in_order_again [] = refl
in_order_again (fun_item f ∷ is) = ap (λ (js : List Item). fun_item f ∷ js) (in_order_again is)
in_order_again (data_item d ∷ is) = ap (λ (js : List Item). data_item d ∷ js) (in_order_again is)
in_order_again (filter_item g ∷ is) = ap (λ (js : List Item). filter_item g ∷ js) (in_order_again is)
in_order_again (divcon_item v ∷ is) = ap (λ (js : List Item). divcon_item v ∷ js) (in_order_again is)
in_order_again (bnb_item b ∷ is) = ap (λ (js : List Item). bnb_item b ∷ js) (in_order_again is)

items_again : (is : List Item) (main : Stage) → items_of (script_of (built is) main) ≡ is
items_again is main = let h = has nothing_known is in (λ i. in_order (h.order i) (h.funs i) (h.datas i) (h.filters i) (h.divcons i) (h.bnbs i)) ∙ in_order_again is

-- ---- the names of what is known

record IsSound (m : Known) : Type 0 where
  names : HasNames m
  rules : AreFuns m.funs

none_sound : IsSound nothing_known
none_sound = record {
  names = record {
    known = record { few_datas = omega arith; few_filters = omega arith; few_divcons = omega arith; few_bnbs = omega arith; datas = λ n h. h; filters = λ n h. h; divcons = λ n h. h; bnbs = λ n h. h };
    funs = no_names;
    datas = no_names;
    filters = no_names;
    divcons = no_names;
    bnbs = no_names;
  };
  rules = record { each = λ k f h. absurd cc };
}

-- a name that is not declared is none of a kind
new_among : (m : Known) (names : List Text) (n : Text) → AreAmong names m.others → is_declared m n ≡ false → is_among names n ≡ false
new_among m names n among new = by (is_among names n) refl
  where
    by : (b : Bool) → is_among names n ≡ b → b ≡ false
    by true e = let there = among n e in let none = (or_false (is_among (names_of m.funs) n) (is_among m.others n) new).1 in cc
    by false e = refl

one_more : {A : Type 0} (f : A → Text) (xs : List A) (x : A) → AreNames (map f xs) → is_name (f x) ≡ true → is_among (map f xs) (f x) ≡ false → AreNames (map f (xs ++ x ∷ []))
one_more f xs x are name new = subst AreNames (sym (map-append f xs (x ∷ []))) (one_name_more (map f xs) (f x) are name new)

one_item : (m : Known) (i : Item) → IsSound m → ItemFits m i → IsSound (with_item m i)
one_item m (fun_item f) s fits =
    let n = s.names in
    let named = and_true (is_name f.name) (not (is_among (names_of m.funs) f.name)) fits.0.name in
    record {
      names = record { known = fun_known m n.known f; funs = one_more (λ f. f.name) m.funs f n.funs named.0 (not_true (is_among (names_of m.funs) f.name) named.1); datas = n.datas; filters = n.filters; divcons = n.divcons; bnbs = n.bnbs };
      rules = funs_added m.funs f s.rules fits.0;
    }
one_item m (data_item d) s fits =
    let n = s.names in
    record {
      names = record { known = data_known m n.known d fits.2; funs = n.funs; datas = one_more (λ d. d.name) m.datas d n.datas fits.0.name (new_among m (data_names m) d.name n.known.datas fits.0.is_new); filters = n.filters; divcons = n.divcons; bnbs = n.bnbs };
      rules = s.rules;
    }
one_item m (filter_item g) s fits =
    let n = s.names in
    record {
      names = record { known = filter_known m n.known g fits.2; funs = n.funs; datas = n.datas; filters = one_more (λ g. g.name) m.filters g n.filters fits.0.name (new_among m (filter_names m) g.name n.known.filters fits.0.is_new); divcons = n.divcons; bnbs = n.bnbs };
      rules = s.rules;
    }
one_item m (divcon_item v) s fits =
    let n = s.names in
    record {
      names = record { known = divcon_known m n.known v fits.2; funs = n.funs; datas = n.datas; filters = n.filters; divcons = one_more (λ v. v.name) m.divcons v n.divcons fits.0.name (new_among m (divcon_names m) v.name n.known.divcons fits.0.is_new); bnbs = n.bnbs };
      rules = s.rules;
    }
one_item m (bnb_item b) s fits =
    let n = s.names in
    record {
      names = record { known = bnb_known m n.known b fits.2; funs = n.funs; datas = n.datas; filters = n.filters; divcons = n.divcons; bnbs = one_more (λ b. b.name) m.bnbs b n.bnbs fits.0.name (new_among m (bnb_names m) b.name n.known.bnbs fits.0.is_new) };
      rules = s.rules;
    }

sound : (m : Known) (is : List Item) → IsSound m → EachFits m is → IsSound (with_items m is)
sound m [] s each = s
sound m (i ∷ is) s each = sound (with_item m i) is (one_item m i s each.0) each.1

-- ---- items one behind the other

module _ (all : List Fun) (t : State) (bits : List Bit) where
  fun_stands : (m : Known) (more : List Fun) → all ≡ m.funs ++ more → HasNames m → (f : ℕ) → f < length m.funs → Stands (names_of m.funs) f (get_or (names_of all) f [])
  fun_stands m more is names f within =
      let split = ap names_of is ∙ map-append (λ f. f.name) m.funs more in
      subst (λ (ns : List Text). Stands (names_of m.funs) f (get_or ns f [])) (sym split) (stands (names_of m.funs) (names_of more) f names.funs (omega (arith, length-map m.funs (λ (f : Fun). f.name))))

  items_go : (m : Known) (is : List Item) → all ≡ m.funs ++ funs_in is → AllOpenFew (funs_in is) → IsSound m → EachFits m is → Goes (items (with_items m is)) bits t → Goes (items m) (items_bits all is ++ bits) t
  items_go m [] same few s each h = h
  items_go m (fun_item f ∷ is) same few s each h =
      let rest = items_go (with_fun m f) is (same ∙ sym (append_assoc m.funs (f ∷ []) (funs_in is))) few.1 (one_item m (fun_item f) s each.0) each.1 h in
      grouped (item_bits all (fun_item f)) (items_bits all is) bits
      (subst (λ (fs : List Fun). Goes (items m) (item_bits fs (fun_item f) ++ (items_bits all is ++ bits)) t) (sym same) (fun_item_goes m s.rules f each.0.0 each.0.1 few.0 (f ∷ funs_in is) rest))
  items_go m (data_item d ∷ is) same few s each h =
      grouped (item_bits all (data_item d)) (items_bits all is) bits
      (data_goes m (names_of all) (fun_stands m (funs_in is) same s.names) d each.0.0 each.0.1 each.0.2 (items_go (with_data m d) is same few (one_item m (data_item d) s each.0) each.1 h))
  items_go m (filter_item g ∷ is) same few s each h =
      grouped (item_bits all (filter_item g)) (items_bits all is) bits
      (filter_goes m (names_of all) (fun_stands m (funs_in is) same s.names) g each.0.0 each.0.1 each.0.2 (items_go (with_filter m g) is same few (one_item m (filter_item g) s each.0) each.1 h))
  items_go m (divcon_item v ∷ is) same few s each h =
      grouped (item_bits all (divcon_item v)) (items_bits all is) bits
      (divcon_goes m (names_of all) (fun_stands m (funs_in is) same s.names) v each.0.0 each.0.1 each.0.2 (items_go (with_divcon m v) is same few (one_item m (divcon_item v) s each.0) each.1 h))
  items_go m (bnb_item b ∷ is) same few s each h =
      grouped (item_bits all (bnb_item b)) (items_bits all is) bits
      (bnb_goes m (names_of all) (fun_stands m (funs_in is) same s.names) b each.0.0 each.0.1 each.0.2 (items_go (with_bnb m b) is same few (one_item m (bnb_item b) s each.0) each.1 h))

-- ---- a script

main_goes : (m : Known) (main : Stage) → IsSound m → IsWhole (script_of m main) → IsMain main
    → Goes (items m) (named (codes "main") ∷ space ∷ mark (codes "=") ∷ space ∷ (stage_bits (script_of m main) main ++ mark (codes ";") ∷ line_end ∷ [])) (finish (script_of m main))
main_goes m main s fits is =
    one_token (main_rule m) refl refl (λ at end ts. at_main m (lexeme (word (codes "main")) at end ∷ ts) ts refl refl)
    (spaced (sign_goes refl refl (spaced
    (stage_goes m main s.names main outermost no_stages (λ r. grammar.token (codes ";") (finish (script_of m r.1))) (finish (script_of m main)) (mark (codes ";") ∷ line_end ∷ []) fits is.sized
    (record { primitives = omega (arith, is.few_primitives); filters = omega (arith, is.few_filters); height = omega (arith, is.low) })
    (record { words = λ w. refl; numbers = λ v. refl; braces = refl })
    (λ d counted. sign_goes refl refl (lined nothing))))))

module _ (is : List Item) (main : Stage) where
  abbrev it : Script
  it = script_of (built is) main

  whole_goes : EachFits nothing_known is → IsWhole it → IsMain main → AllOpenFew (built is).funs → Goes script_rule (script_bits it) (finish it)
  whole_goes each fits is_main few =
      let h = has nothing_known is in
      let s = sound nothing_known is none_sound each in
      let last = main_goes (built is) main s fits is_main in
      let middle = items_go (built is).funs (finish it) (named (codes "main") ∷ space ∷ mark (codes "=") ∷ space ∷ (stage_bits it main ++ mark (codes ";") ∷ line_end ∷ [])) nothing_known is h.funs (subst AllOpenFew h.funs few) none_sound each last in
      word_goes refl refl (spaced (one_token (grammar.token (codes ";") (items nothing_known)) refl refl (λ at end ts. refl) (sign_goes refl refl (lined
      (subst (λ (js : List Item). Goes (items nothing_known) (items_bits (built is).funs js ++ (named (codes "main") ∷ space ∷ mark (codes "=") ∷ space ∷ (stage_bits it main ++ mark (codes ";") ∷ line_end ∷ []))) (finish it)) (sym (items_again is main)) middle)))))

-- ---- its text

-- all tokens but the last say the bits
record SaysUp (bits : List Bit) (ts : List Lexeme) : Type 0 where
  end : Lexeme
  said : Says bits ts (end ∷ [])
  is : end.form ≡ close

says_up : (bits : List Bit) (ts : List Lexeme) → map (λ t. t.form) ts ≡ forms_of bits ++ close ∷ [] → SaysUp bits ts
says_up [] [] h = cc
says_up [] (t ∷ []) h = record { end = t; said = refl; is = cc }
says_up [] (t ∷ u ∷ ts) h = cc
says_up (token f ∷ bits) [] h = cc
says_up (token f ∷ bits) (t ∷ ts) h =
    let first : t.form ≡ f = cc in
    let others : map (λ t. t.form) ts ≡ forms_of bits ++ close ∷ [] = cc in
    let rest = says_up bits ts others in
    record { end = rest.end; said = (first, rest.said); is = rest.is }
says_up (blank c ∷ bits) ts h = let rest = says_up bits ts h in record { end = rest.end; said = rest.said; is = rest.is }

reads_as : (s : Script) (bits : List Bit) → Goes script_rule bits (finish s) → ReadsAs (text_of bits) s
reads_as s bits h =
    let all = laid_says_all bits h.laid in
    let up = says_up bits all.tokens all.forms in
    record { said = Ok all.tokens; laid = all.said; read = ap whole (h.goes all.tokens [] up.end up.said) ∙ closed s (up.end ∷ []) (omega arith) (ap is_close up.is) }

pub reads_back : (s : Script) → IsScript s → OpensFewIn s → ReadsAs (text_of (script_bits s)) s
reads_back s is few =
    let same = is.is in
    subst (λ (s : Script). ReadsAs (text_of (script_bits s)) s) (sym same)
    (reads_as (script_of (built is.items) s.main) (script_bits (script_of (built is.items) s.main))
    (whole_goes is.items s.main is.each (subst IsWhole same is.whole) is.main (subst OpensFewIn same few)))
