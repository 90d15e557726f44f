-- Reading part by part, in any grammar: what is still to come is a state, and a part says what follows it by its value.
use Rattle.std.specs.Prelude.{◌≡◌, List, Result, Ok, Err}
use Rattle.msl_lex.specs.Lexemes.{Lexeme}
use Rattle.msl_read.specs.Reading.{Move, read}
use Rattle.msl_read.specs.Refusals.{IsRefused}
use Rattle.msl_read.specs.declared.fault.ReadFault.{ReadFault}

module _ {State Whole : Type 0} (on : State → Lexeme → Lexeme → Move State Whole) where
  -- the part is refused, whatever follows
  abbrev pub IsStopped : {A : Type 0} → List Lexeme → ((A → State) → State) → ReadFault → Type 0
  IsStopped {A = A} ts part e = (k : A → State) → IsRefused (read State Whole on ts (part k)) e

  -- A part was read from these tokens up to the others: reading goes on behind it, whatever follows. Or it is refused, whatever follows.
  abbrev pub IsRead : {A : Type 0} → List Lexeme → ((A → State) → State) → List Lexeme → Result A ReadFault → Type 0
  IsRead {A = A} ts part rest (Ok a) = (k : A → State) → read State Whole on ts (part k) ≡ read State Whole on rest (k a)
  IsRead {A = A} ts part rest (Err e) = IsStopped ts part e

  -- the same of a part that is nothing but its tokens
  abbrev pub IsTaken : List Lexeme → (State → State) → List Lexeme → Result (Unit {0}) ReadFault → Type 0
  IsTaken ts part rest (Ok _) = (s : State) → read State Whole on ts (part s) ≡ read State Whole on rest s
  IsTaken ts part rest (Err e) = (s : State) → IsRefused (read State Whole on ts (part s)) e
