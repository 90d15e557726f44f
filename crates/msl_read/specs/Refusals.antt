-- Why a reader of tokens gives nothing.
use Rattle.std.specs.Prelude.{◌≡◌, Option, Some, None, Result, Ok, Err}
use Rattle.msl_lex.specs.declared.kind.Kind.TheVariants as kind
use Rattle.msl_lex.specs.declared.token.LexFault.{LexFault}
use Rattle.msl_lex.specs.declared.token.LexFault.TheVariants as lex
use Rattle.msl_read.specs.declared.fault.ReadFault.{ReadFault}
use Rattle.msl_read.specs.declared.fault.ReadFault.TheVariants.{At, NoMemory}
use Rattle.msl_read.specs.Reading.{Refusal}

-- reading ends in this refusal; want of memory says nothing of it
abbrev pub IsRefused : {A : Type 0} → Result A Refusal → ReadFault → Type 0
IsRefused r NoMemory = Unit {0}
IsRefused r (At kind at) = r ≡ Err (kind, at)

-- the first test that fails gives this refusal
abbrev pub IsFailed : Option Refusal → ReadFault → Type 0
IsFailed r (At kind at) = r ≡ Some (kind, at)
IsFailed r NoMemory = ⊥

-- an answer where no test fails, else the refusal
abbrev pub IsTested : {A : Type 0} → Option Refusal → Result A ReadFault → Type 0
IsTested r (Ok a) = r ≡ None
IsTested r (Err e) = IsFailed r e

-- a text without tokens is refused where its first fault stands
abbrev pub of_lex : LexFault → ReadFault
of_lex (lex.Byte at) = At kind.Byte at
of_lex (lex.LongName at) = At kind.LongName at
of_lex (lex.Number at) = At kind.Number at
of_lex lex.NoMemory = NoMemory
