-- One part behind another.
use Rattle.std.proofs.Common.{◌≡◌, List, Result, Ok, Err, ◌∙◌, subst, sym}
use Rattle.msl_lex.specs.Lexemes.{Lexeme}
use Rattle.msl_read.specs.Reading.{Move, Refusal}
use Rattle.msl_read.specs.Refusals.{IsRefused}
use Rattle.msl_read.specs.Parts.{IsRead, IsStopped}
use Rattle.msl_read.specs.declared.fault.ReadFault.{ReadFault}

-- what is read the same is refused the same
pub refused_along : {A : Type 0} (r s : Result A Refusal) (e : ReadFault) → r ≡ s → IsRefused s e → IsRefused r e
refused_along r s e same h = subst (λ r. IsRefused r e) (sym same) h

module _ {State Whole : Type 0} (on : State → Lexeme → Lexeme → Move State Whole) {A B : Type 0} (ts us vs : List Lexeme) (first : (A → State) → State) where
  -- where the first part is read, the second decides
  pub then : (a : A) (second : A → (B → State) → State) (r : Result B ReadFault) → IsRead on ts first us (Ok a) → IsRead on us (second a) vs r → IsRead on ts (λ k. first (λ x. second x k)) vs r
  then a second (Ok b) h more = λ k. h (λ x. second x k) ∙ more k
  then a second (Err e) h more = λ k. refused_along _ _ e (h (λ x. second x k)) (more k)

  -- where it is refused, all is
  pub stop : (e : ReadFault) (second : A → (B → State) → State) → IsStopped on ts first e → IsStopped on ts (λ (k : B → State). first (λ x. second x k)) e
  stop e second h = λ k. h (λ x. second x k)
