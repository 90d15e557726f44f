-- A name that comes into a scope.
use Rattle.std.specs.Prelude.{ℕ, ◌≡◌, ◌<◌, ◌≤◌, [], ◌∷◌, ◌++◌, length, drop, Some, None, IsTrue, false, true}
use Rattle.msl_base.specs.declared.limits.TheConstants.{MOST_NAMES}
use Rattle.msl_lex.specs.declared.kind.Kind.TheVariants.{Expected, Many, Twice, Unknown}
use Rattle.msl_read.specs.declared.fault.ReadFault.{ReadFault}
use Rattle.msl_read.specs.declared.fault.ReadFault.TheVariants.{At, NoMemory}
use Rattle.msl_fun_read.specs.declared.parse.draft.Draft.{Draft}
use Rattle.msl_fun.specs.declared.expr.Expr.TheVariants.{Slot}
use Rattle.msl_base.specs.Names.{Text, is_among}
use Rattle.msl_lex.specs.Names.{is_name}
use Rattle.msl_read.specs.Reading.{place}
use Rattle.msl_read.specs.Front.{form}
use Rattle.msl_fun_read.specs.Grammar.{Tree}
use Rattle.msl_read.specs.Front.{name_in, word_in}
use Rattle.msl_base.specs.Names.{place_among}

-- the first token is a name that the scope can take, and is taken
pub record NamesNew (old new : Draft) (n : Text) : Type 0 where
  pub name : name_in (form old.cursor) ≡ Some n
  pub is_name : IsTrue (is_name n)
  pub few : length old.scope < MOST_NAMES
  pub is_new : is_among old.scope n ≡ false
  pub cursor : new.cursor ≡ drop 1 old.cursor
  pub scope : new.scope ≡ old.scope
  pub names : new.names ≡ old.names ++ n ∷ []

-- why it is not
pub record IsTaken (old : Draft) (n : Text) : Type 0 where
  pub name : name_in (form old.cursor) ≡ Some n
  pub few : length old.scope < MOST_NAMES
  pub taken : is_among old.scope n ≡ true

abbrev pub IsNoName : Draft → ReadFault → Type 0
IsNoName old (At Expected at) = (name_in (form old.cursor) ≡ None) × (at ≡ place old.cursor)
IsNoName old (At Many at) = ((n : Text) × (name_in (form old.cursor) ≡ Some n)) × (MOST_NAMES ≤ length old.scope) × (at ≡ place old.cursor)
IsNoName old (At Twice at) = ((n : Text) × IsTaken old n) × (at ≡ place old.cursor)
IsNoName old (At _ at) = ⊥
IsNoName old NoMemory = Unit {0}

-- the first token is a variable in scope, and is taken
pub record NamesVariable (old new : Draft) (t : Tree) : Type 0 where
  pub at : ℕ
  pub found : place_among old.scope (word_in (form old.cursor)) ≡ Some at
  pub tree : t ≡ Some (Slot at)
  pub cursor : new.cursor ≡ drop 1 old.cursor
  pub scope : new.scope ≡ old.scope
  pub names : new.names ≡ old.names

abbrev pub IsUnknown : Draft → ReadFault → Type 0
IsUnknown old e = (place_among old.scope (word_in (form old.cursor)) ≡ None) × (e ≡ At Unknown (place old.cursor))
