-- What the reader of scripts answers.
use Rattle.std.specs.Prelude.{◌≡◌, ◌<◌, ◌⊎◌, ℕ, List, length, Result, Ok, Err}
use Rattle.msl_read.specs.Reading.{Refusal}
use Rattle.msl_read.specs.declared.fault.ReadFault.{ReadFault}
use Rattle.msl_read.specs.declared.fault.ReadFault.TheVariants.{At, NoMemory}
use Rattle.msl_program.specs.Script.{Script}
use Rattle.msl_script_read.specs.declared.script.ScriptReader.{ScriptReader}
use Rattle.msl_grammar.specs.Known.{IsKnown}
use Rattle.msl_grammar.specs.ScriptGrammar.{items, main_rule, reading, ReadsTo, ReadsAs}

-- the text is refused, with this kind at this place
abbrev pub IsRefusedAs : List ℕ → Refusal → Type 0
IsRefusedAs text r = ReadsTo text (Err r)

-- the script of the text, or its refusal; want of memory says nothing
abbrev pub IsReading : List ℕ → Result Script ReadFault → Type 0
IsReading text (Ok s) = ReadsAs text s
IsReading text (Err (At kind at)) = IsRefusedAs text (kind, at)
IsReading text (Err NoMemory) = Unit {0}

-- a text is a script or is refused
abbrev pub HasReading : List ℕ → Type 0
HasReading text = ((s : Script) × ReadsAs text s) ⊎ ((r : Refusal) × IsRefusedAs text r)

-- an item was taken
pub record TakesItem (old new : ScriptReader) : Type 0 where
  pub goes : reading old.cursor (items old.known) ≡ reading new.cursor (items new.known)
  pub known : IsKnown new.known
  pub shorter : length new.cursor < length old.cursor

-- all items were taken, and `main` behind them
pub record TakesItems (old new : ScriptReader) : Type 0 where
  pub goes : reading old.cursor (items old.known) ≡ reading new.cursor (main_rule new.known)
  pub known : IsKnown new.known
