-- Reading goes on through printed filters, divisions and searches.
use Rattle.std.proofs.Common.{◌≡◌, ◌<◌, ◌≤◌, ◌+◌, ℕ, true, ℤ, List, [], ◌∷◌, ◌++◌, length, map, codes, refl, ap, sym, subst, append_assoc, append-nil, length-append, arith, lt-ltb}
use Rattle.std.specs.Prelude.{slice_index_or}
use Rattle.msl_lex.specs.Lexemes.{word, number, sign, lexeme}
use Rattle.msl_lex.specs.Printing.{Bit}
use Rattle.msl_base.specs.Names.{Text}
use Rattle.msl_fun.specs.Checks.{names_of}
use Rattle.msl_fun_print.specs.FunText.{mark, listed}
use Rattle.msl_fun_print.proofs.Listed.{later, listed_is}
use Rattle.msl_program.specs.Known.{Known}
use Rattle.msl_program.specs.declared.script.BnbSpec.{BnbSpec}
use Rattle.msl_program.specs.declared.script.DivCon as divcon
use Rattle.msl_program.specs.declared.script.FilterSpec.{FilterSpec}
use Rattle.msl_program.specs.Known.{with_filter, with_divcon, with_bnb}
use Rattle.msl_program.specs.Promises.{IsNewName, FilterFits, DivConFits, SearchFits}
use Rattle.msl_lex.specs.Spelling.{AreIntegers}
use Rattle.msl_grammar.specs.ScriptGrammar.{State, a_state_number, more_state_numbers, state_numbers, filter_rule, divcon_rule, bnb_rule, items}
use Rattle.msl_script_print.specs.ScriptText.{line_end, integer, indented, clause_bits, filter_bits, divcon_bits, bnb_bits}
use Rattle.msl_script_read.proofs.Items.{at_filter, at_divcon, at_bnb}
use Rattle.msl_script_laws.proofs.Printed.{meets, Goes, spaced, lined, one_token, grouped, same_bits, word_goes, sign_goes, integer_goes}
use Rattle.msl_script_laws.proofs.PrintedParts.{Stands, fresh_goes, clause_goes, numbered_goes}

-- ---- state numbers

module _ (k : List ℤ → State) (t : State) (bits : List Bit) where
  before_more : (zs : List ℤ) (v : ℕ) → meets (number v) (later (map integer zs) ++ mark (codes ";") ∷ bits) ≡ true
  before_more [] v = refl
  before_more (z ∷ zs) v = refl

  more_go : (zs before : List ℤ) → AreIntegers zs → length before + length zs ≤ 8 → meets (sign (codes ";")) bits ≡ true → Goes (k (before ++ zs)) bits t → Goes (more_state_numbers before k) (later (map integer zs) ++ mark (codes ";") ∷ bits) t
  more_go [] before are few meet h = one_token (k before) refl meet (λ at end ts. refl) (subst (λ (zs : List ℤ). Goes (k zs) bits t) (append-nil before) h)
  more_go (z ∷ zs) before are few meet h =
      let next : State = a_state_number before (λ z. more_state_numbers (before ++ z ∷ []) k) in
      let last = subst (λ (zs : List ℤ). Goes (k zs) bits t) (sym (append_assoc before (z ∷ []) zs)) h in
      let room : length before < 8 = omega arith in
      let few_more : length (before ++ z ∷ []) + length zs ≤ 8 = omega (arith, length-append before (z ∷ [])) in
      let behind = mark (codes ";") ∷ bits in
      one_token next refl refl (λ at end ts. refl) (spaced (same_bits (ap (λ (b : List Bit). b ++ behind) (listed_is (integer z) (map integer zs))) (grouped (integer z) (later (map integer zs)) behind
      (integer_goes next _ (λ z. more_state_numbers (before ++ z ∷ []) k) (λ l b. refl) (λ at. rw (lt-ltb (length before) 8 room) refl) z are.0 (before_more zs) (more_go zs (before ++ z ∷ []) are.1 few_more meet last)))))

  states_go : (zs : List ℤ) → 1 ≤ length zs → AreIntegers zs → length zs ≤ 8 → meets (sign (codes ";")) bits ≡ true → Goes (k zs) bits t → Goes (state_numbers k) (listed (map integer zs) ++ mark (codes ";") ∷ bits) t
  states_go [] some are few meet h = absurd (omega arith)
  states_go (z ∷ zs) some are few meet h =
      let behind = mark (codes ";") ∷ bits in
      same_bits (ap (λ (b : List Bit). b ++ behind) (listed_is (integer z) (map integer zs))) (grouped (integer z) (later (map integer zs)) behind
      (integer_goes (state_numbers k) _ (λ z. more_state_numbers (z ∷ []) k) (λ l b. refl) (λ at. refl) z are.0 (before_more zs) (more_go zs (z ∷ []) are.1 (omega arith) meet h)))

-- ---- blocks

module _ (m : Known) (funs : List Text) (fun_stands : (f : ℕ) → f < length m.funs → Stands (names_of m.funs) f (slice_index_or funs f [])) where
  pub filter_goes : {t : State} {bits : List Bit} (f : FilterSpec) → IsNewName m f.name → FilterFits m.funs f → length m.filters < 64 → Goes (items (with_filter m f)) bits t → Goes (items m) (filter_bits funs f ++ bits) t
  filter_goes {t = t} {bits = bits} f new is few h =
      let numbers = listed (map integer f.state) in
      let end = mark (codes ";") ∷ line_end ∷ [] in
      let clauses = indented (clause_bits funs "count" f.count ∷ clause_bits funs "item" f.item ∷ clause_bits funs "next" f.next ∷ clause_bits funs "flush" f.flush ∷ clause_bits funs "last" f.last ∷ []) in
      let close = mark (codes "}") ∷ line_end ∷ [] in
      one_token (filter_rule m (λ f. items (with_filter m f))) refl refl (λ at end ts. at_filter m (lexeme (word (codes "filter")) at end ∷ ts) ts refl refl few)
      (spaced (fresh_goes new.name new.is_new refl (spaced (sign_goes refl refl (lined (spaced (spaced (word_goes refl refl (spaced
      (grouped ((numbers ++ end) ++ clauses) close bits (grouped (numbers ++ end) clauses (close ++ bits) (grouped numbers end (clauses ++ (close ++ bits))
      (states_go _ t (line_end ∷ (clauses ++ (close ++ bits))) f.state is.some_state is.state is.few_state refl (lined
      (clause_goes m funs fun_stands refl is.count (clause_goes m funs fun_stands refl is.item (clause_goes m funs fun_stands refl is.next (clause_goes m funs fun_stands refl is.flush (clause_goes m funs fun_stands refl is.last
      (sign_goes refl refl (lined h)))))))))))))))))))))

  pub divcon_goes : {t : State} {bits : List Bit} (d : divcon.DivCon) → IsNewName m d.name → DivConFits m.funs d → length m.divcons < 64 → Goes (items (with_divcon m d)) bits t → Goes (items m) (divcon_bits funs d ++ bits) t
  divcon_goes d new is few h =
      one_token (divcon_rule m (λ d. items (with_divcon m d))) refl refl (λ at end ts. at_divcon m (lexeme (word (codes "divcon")) at end ∷ ts) ts refl refl few)
      (spaced (fresh_goes new.name new.is_new refl (spaced (sign_goes refl refl (lined
      (numbered_goes refl refl (is.some_parts, is.few_parts) (numbered_goes refl refl (omega arith, is.cutoff)
      (clause_goes m funs fun_stands refl is.simple (clause_goes m funs fun_stands refl is.solve (clause_goes m funs fun_stands refl is.divide (clause_goes m funs fun_stands refl is.combine
      (sign_goes refl refl (lined h)))))))))))))

  pub bnb_goes : {t : State} {bits : List Bit} (b : BnbSpec) → IsNewName m b.name → SearchFits m.funs b → length m.bnbs < 64 → Goes (items (with_bnb m b)) bits t → Goes (items m) (bnb_bits funs b ++ bits) t
  bnb_goes b new is few h =
      one_token (bnb_rule m (λ b. items (with_bnb m b))) refl refl (λ at end ts. at_bnb m (lexeme (word (codes "bnb")) at end ∷ ts) ts refl refl few)
      (spaced (fresh_goes new.name new.is_new refl (spaced (sign_goes refl refl (lined
      (clause_goes m funs fun_stands refl is.bound (clause_goes m funs fun_stands refl is.solved (clause_goes m funs fun_stands refl is.value (clause_goes m funs fun_stands refl is.count (clause_goes m funs fun_stands refl is.branch
      (sign_goes refl refl (lined h))))))))))))
