-- What a reader of a line of a data program answers, by the reading of the tokens.
use Rattle.std.specs.Prelude.{◌≡◌, ℕ, List, Result, Ok, Err}
use Rattle.msl_lex.specs.Lexemes.{Lexeme}
use Rattle.msl_base.specs.Names.{Text}
use Rattle.msl_read.specs.declared.fault.ReadFault.{ReadFault}
use Rattle.msl_program.specs.Known.{Known}
use Rattle.msl_program.specs.Programs.{Program}
use Rattle.msl_grammar.specs.ScriptGrammar.{State, lines, line_rest, reading}
use Rattle.msl_read.specs.Refusals.{IsRefused}

-- the name of one line more was read, or it is refused
abbrev pub IsNamed : Program → List Lexeme → List Lexeme → Result Text ReadFault → Type 0
IsNamed p ts rest (Ok n) = (m : Known) (k : Program × ℕ → State) → reading ts (lines m p k) ≡ reading rest (line_rest m p n (λ q. lines m q k))
IsNamed p ts rest (Err e) = (m : Known) (k : Program × ℕ → State) → IsRefused (reading ts (lines m p k)) e

-- one line more was read, behind which there are others, or it is refused
abbrev pub TakesLine : Known → Program → List Lexeme → Program → List Lexeme → Result (Unit {0}) ReadFault → Type 0
TakesLine m p ts q rest (Ok _) = (k : Program × ℕ → State) → reading ts (lines m p k) ≡ reading rest (lines m q k)
TakesLine m p ts q rest (Err e) = (k : Program × ℕ → State) → IsRefused (reading ts (lines m p k)) e

-- a part with this value was read, or it is refused
abbrev pub IsReadAs : {A : Type 0} → List Lexeme → ((A → State) → State) → A → List Lexeme → Result (Unit {0}) ReadFault → Type 0
IsReadAs {A = A} ts part a rest (Ok _) = (k : A → State) → reading ts (part k) ≡ reading rest (k a)
IsReadAs {A = A} ts part a rest (Err e) = (k : A → State) → IsRefused (reading ts (part k)) e
