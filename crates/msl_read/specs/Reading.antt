-- Reading tokens from left to right. What is still to come is a state; a state says what it does at a token, with the token behind it in sight.
use Rattle.std.specs.Prelude.{ℕ, Bool, false, List, [], ◌∷◌, ◌++◌, Option, Some, None, Result, Ok, Err, if◌then◌else◌}
use Rattle.std.specs.Str.{bytes_eq}
use Rattle.msl_lex.specs.declared.kind.Kind.{Kind}
use Rattle.msl_lex.specs.declared.kind.Kind.TheVariants.{Expected}
use Rattle.msl_lex.specs.Lexemes.{Form, Lexeme, word, number, sign, close}

-- a kind, and the byte at which the named token begins
abbrev pub Refusal : Type 0
Refusal = Kind × ℕ

-- a test that is due at a token: where it doesn't hold, this is the refusal
pub record Test : Type 0 where
  pub kind : Kind
  pub at : ℕ
  pub holds : Bool

abbrev pub test : Kind → ℕ → Bool → Test
test kind at holds = record { kind = kind; at = at; holds = holds }

-- the first that fails; each state names its tests in the order of the kinds
abbrev pub failing : List Test → Option Refusal
failing [] = None
failing (t ∷ ts) = if t.holds then failing ts else Some (t.kind, t.at)

-- what a state does at a token
pub data Move (State Whole : Type 0) : Type 0 where
  -- the token is taken: these tests are due at it, and this is still to come
  takes : List Test → State → Move State Whole
  -- all was read before the token
  ends : Whole → Move State Whole
  -- the token can't stand here
  stops : Move State Whole

-- the move, with more tests before its own
abbrev pub under : {S W : Type 0} → List Test → Move S W → Move S W
under tests (takes due s) = takes (tests ++ due) s
under tests (ends w) = ends w
under tests stops = stops

-- the token behind this one, or this one where it is the last
abbrev pub ahead : Lexeme → List Lexeme → Lexeme
ahead t [] = t
ahead t (u ∷ us) = u

abbrev pub or_refusal : {A : Type 0} → Option Refusal → Result A Refusal → Result A Refusal
or_refusal (Some r) go = Err r
or_refusal None go = go

abbrev pub moved : {S W : Type 0} → Move S W → Lexeme → List Lexeme → (S → Result (W × List Lexeme) Refusal) → Result (W × List Lexeme) Refusal
moved (takes due s) t ts behind = or_refusal (failing due) (behind s)
moved (ends w) t ts behind = Ok (w, t ∷ ts)
moved stops t ts behind = Err (Expected, t.at)

module _ (State Whole : Type 0) (on : State → Lexeme → Lexeme → Move State Whole) where
  -- what the tokens are read as, and the tokens that are left; or the first test that fails
  abbrev pub read : List Lexeme → State → Result (Whole × List Lexeme) Refusal
  read [] s = Err (Expected, 0)
  read (t ∷ ts) s = moved (on s t (ahead t ts)) t ts (read ts)

-- a token is this quoted text
abbrev pub says : List ℕ → Form → Bool
says text (word w) = bytes_eq w text
says text (sign s) = bytes_eq s text
says text (number n) = false
says text close = false

-- the place of the first token
abbrev pub place : List Lexeme → ℕ
place [] = 0
place (t ∷ ts) = t.at
