-- How reading goes on at the numbers of a filter's first state.
use Rattle.std.proofs.Common.{◌≡◌, ◌<◌, ℕ, Bool, true, false, List, [], ◌∷◌, ◌++◌, drop, length, codes, Result, Ok, Err, subst, if◌then◌else◌, refl, ap, sym, ◌∙◌, lt-ltb}
use Rattle.std.specs.Prelude.{ℤ, pos, neg_ℤ}
use Rattle.msl_lex.specs.declared.kind.Kind.TheVariants.{Many}
use Rattle.msl_lex.specs.Lexemes.{Form, Lexeme, word, number, sign, close}
use Rattle.msl_read.specs.Front.{form}
use Rattle.msl_read.specs.Reading.{Refusal, test, takes, moved, says}
use Rattle.msl_grammar.specs.ScriptGrammar.{State, token, reading, a_state_number, more_state_numbers, a_natural, an_integer, number_turn}
use Rattle.msl_program.specs.Script.{Script}
use Rattle.msl_grammar.specs.Following.{IsRead}
use Rattle.msl_read.specs.Refusals.{IsRefused}
use Rattle.msl_read.specs.declared.fault.ReadFault.{ReadFault}

-- the test of a state number passes
passes : (few sign : Bool) (at : ℕ) (f : Form) (t : Lexeme) (ts : List Lexeme) (k : ℤ → State) (behind : State → Result (Script × List Lexeme) Refusal) → few ≡ true
    → moved (if sign then takes (test Many at few ∷ []) (a_natural (λ v. k (neg_ℤ (pos v)))) else number_turn (λ v. test Many at few ∷ []) f (λ v. k (pos v))) t ts behind
    ≡ moved (if sign then takes [] (a_natural (λ v. k (neg_ℤ (pos v)))) else number_turn (λ v. []) f (λ v. k (pos v))) t ts behind
passes few true at f t ts k behind h = rw h refl
passes few false at (number v) t ts k behind h = rw h refl
passes few false at (word w) t ts k behind h = refl
passes few false at (sign s) t ts k behind h = refl
passes few false at close t ts k behind h = refl

module _ (zs : List ℤ) where
  -- where there is room for one more it is any integer
  pub has_room : (ts : List Lexeme) (k : ℤ → State) → length zs < 8 → reading ts (a_state_number zs k) ≡ reading ts (an_integer k)
  has_room [] k few = refl
  has_room (t ∷ ts) k few = passes _ (says (codes "-") t.form) t.at t.form t ts k (reading ts) (lt-ltb (length zs) 8 few)

  module _ (k : List ℤ → State) (ts rest : List Lexeme) where
    pub one_more : says (codes ",") (form ts) ≡ true → rest ≡ drop 1 ts → reading ts (more_state_numbers zs k) ≡ reading rest (a_state_number zs (λ z. more_state_numbers (zs ++ z ∷ []) k))
    one_more h taken = comma ts h ∙ ap (λ us. reading us (a_state_number zs (λ z. more_state_numbers (zs ++ z ∷ []) k))) (sym taken)
      where
        comma : (ts : List Lexeme) → says (codes ",") (form ts) ≡ true → reading ts (more_state_numbers zs k) ≡ reading (drop 1 ts) (a_state_number zs (λ z. more_state_numbers (zs ++ z ∷ []) k))
        comma [] h = cc
        comma (t ∷ ts) h = rw h refl

    pub end_of_state : says (codes ",") (form ts) ≡ false → rest ≡ ts → reading ts (more_state_numbers zs k) ≡ reading rest (token (codes ";") (k zs))
    end_of_state h same = no_comma ts h ∙ ap (λ us. reading us (token (codes ";") (k zs))) (sym same)
      where
        no_comma : (ts : List Lexeme) → says (codes ",") (form ts) ≡ false → reading ts (more_state_numbers zs k) ≡ reading ts (token (codes ";") (k zs))
        no_comma [] h = refl
        no_comma (t ∷ ts) h = rw h refl

-- two parts that are read alike are read as the same
pub read_alike : {A : Type 0} (p q : (A → State) → State) (ts rest : List Lexeme) → ((k : A → State) → reading ts (p k) ≡ reading ts (q k)) → (r : Result A ReadFault) → IsRead ts q rest r → IsRead ts p rest r
read_alike p q ts rest same (Ok a) h = λ k. same k ∙ h k
read_alike p q ts rest same (Err e) h = λ k. subst (λ r. IsRefused r e) (sym (same k)) (h k)
