-- Reading goes on through printed names of definitions, and through clauses.
use Rattle.std.proofs.Common.{◌≡◌, ◌<◌, ℕ, true, false, List, [], ◌∷◌, length, Some, codes, refl, sym, subst}
use Rattle.std.specs.Prelude.{nat_le, slice_index_or}
use Rattle.msl_lex.specs.Lexemes.{word, number, greatest_number}
use Rattle.msl_lex.specs.Printing.{Bit, token, is_spellable}
use Rattle.msl_base.specs.Names.{Text, place_among}
use Rattle.msl_lex.specs.Names.{is_name}
use Rattle.msl_fun.specs.Checks.{names_of}
use Rattle.msl_fun_print.specs.FunText.{space, named, mark}
use Rattle.msl_program.specs.Known.{Known, is_declared}
use Rattle.msl_program.specs.declared.width.Width.{Width}
use Rattle.msl_program.specs.Widths.{IsFunction}
use Rattle.msl_program.specs.ProgramPromise.{IsBetween}
use Rattle.msl_grammar.specs.ScriptGrammar.{State, fresh, a_function, a_definition, clause, numbered}
use Rattle.msl_script_print.specs.ScriptText.{line_end}
use Rattle.msl_grammar.proofs.Leaves.{placed, kind_found, function_found}
use Rattle.msl_script_laws.proofs.Printed.{meets, Goes, spaced, lined, word_goes, sign_goes, name_goes, number_goes}

-- the name stands at the place, and at none before it
pub record Stands (names : List Text) (k : ℕ) (n : Text) : Type 0 where
  pub name : is_name n ≡ true
  pub place : place_among names n ≡ Some k

pub fresh_goes : {m : Known} {k : Text → State} {t : State} {n : Text} {bits : List Bit} → is_name n ≡ true → is_declared m n ≡ false → meets (word n) bits ≡ true → Goes (k n) bits t → Goes (fresh m k) (named n ∷ bits) t
fresh_goes {m = m} {k = k} {n = n} name new meet h = name_goes (fresh m k) _ (λ at n. k n) (λ l behind. refl) name meet (λ at. rw new refl) (λ at. h)

-- a definition among those of these names
pub definition_goes : {m : Known} {names : List Text} {k : ℕ → State} {t : State} {d : ℕ} {n : Text} {bits : List Bit} → Stands names d n → is_declared m n ≡ true → meets (word n) bits ≡ true → Goes (k d) bits t → Goes (a_definition m names k) (named n ∷ bits) t
definition_goes {m = m} {names = names} {k = k} {t = t} {d = d} {n = n} {bits = bits} stands declared meet h =
    name_goes (a_definition m names k) _ _ (λ l behind. refl) stands.name meet (λ at. kind_found m names at n d stands.place declared)
    (λ at. subst (λ (d : ℕ). Goes (k d) bits t) (sym (placed names n d stands.place)) h)

-- over the names of all functions
module _ (m : Known) (names : List Text) (stand : (f : ℕ) → f < length m.funs → Stands (names_of m.funs) f (slice_index_or names f [])) where
  pub function_goes : {params results : Width} {k : ℕ → State} {t : State} {f : ℕ} {bits : List Bit} → IsFunction m.funs params results f → meets (word (slice_index_or names f [])) bits ≡ true → Goes (k f) bits t
      → Goes (a_function m params results k) (named (slice_index_or names f []) ∷ bits) t
  function_goes {params = params} {results = results} {k = k} {t = t} {f = f} {bits = bits} is meet h =
      let n = slice_index_or names f [] in
      let s = stand f is.within in
      name_goes (a_function m params results k) _ _ (λ l behind. refl) s.name meet (λ at. function_found m params results at n f true s.place (rw (is.params, is.results) refl))
      (λ at. subst (λ (f : ℕ). Goes (k f) bits t) (sym (placed (names_of m.funs) n f s.place)) h)

  -- a word and a function, on a line of their own
  pub clause_goes : {w : Text} {params results : Width} {k : ℕ → State} {t : State} {f : ℕ} {bits : List Bit} → is_spellable (word w) ≡ true → IsFunction m.funs params results f → Goes (k f) bits t
      → Goes (clause m w params results k) (space ∷ space ∷ named w ∷ space ∷ named (slice_index_or names f []) ∷ mark (codes ";") ∷ line_end ∷ bits) t
  clause_goes spelt is h = spaced (spaced (word_goes spelt refl (spaced (function_goes is refl (sign_goes refl refl (lined h))))))

-- a word and a number, on a line of their own
pub numbered_goes : {w : Text} {low high v : ℕ} {k : ℕ → State} {t : State} {bits : List Bit} → is_spellable (word w) ≡ true → nat_le high greatest_number ≡ true → IsBetween low high v → Goes (k v) bits t
    → Goes (numbered w low high k) (space ∷ space ∷ named w ∷ space ∷ token (number v) ∷ mark (codes ";") ∷ line_end ∷ bits) t
numbered_goes spelt small between h = spaced (spaced (word_goes spelt refl (spaced (number_goes small between refl (sign_goes refl refl (lined h))))))
