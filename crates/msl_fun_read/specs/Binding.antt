-- A name that `let` or `loop` binds, and a quoted token behind it.
use Rattle.std.specs.Prelude.{◌≡◌, ◌<◌, ◌≤◌, List, [], ◌∷◌, ◌++◌, length, Ok, IsTrue, false}
use Rattle.msl_base.specs.declared.limits.TheConstants.{MOST_NAMES}
use Rattle.msl_fun.specs.declared.funs.Fun.{Fun}
use Rattle.msl_read.specs.declared.fault.ReadFault.{ReadFault}
use Rattle.msl_fun_read.specs.declared.parse.draft.Draft.{Draft}
use Rattle.msl_fun_read.specs.declared.parse.draft.Bound.{Bound}
use Rattle.msl_fun_read.specs.declared.parse.draft.Bound.TheVariants.{One, Two}
use Rattle.msl_base.specs.Names.{Text, is_among}
use Rattle.msl_lex.specs.Names.{is_name}
use Rattle.msl_fun_read.specs.Grammar.{State, token, new_name, on}
use Rattle.msl_read.specs.Parts.{IsRead, IsStopped}

abbrev pub name_before : List Text → Text → (Text → State) → State
name_before scope text k = new_name scope (λ n. token text (k n))

-- both were taken; the name is new where these are in scope
pub record BindsName (known : List Text) (text : Text) (old new : Draft) (n : Text) : Type 0 where
  pub is_name : IsTrue (is_name n)
  pub few : length known < MOST_NAMES
  pub is_new : is_among known n ≡ false
  pub scope : new.scope ≡ old.scope
  pub names : new.names ≡ old.names ++ n ∷ []
  pub shorter : length new.cursor ≤ length old.cursor
  pub goes : (funs : List Fun) (others : List Text) → IsRead (on funs others) old.cursor (name_before known text) new.cursor (Ok n)

abbrev pub BindsNone : List Text → Text → Draft → ReadFault → Type 0
BindsNone scope text old e = (funs : List Fun) (others : List Text) → IsStopped (on funs others) old.cursor (name_before scope text) e

abbrev pub names_in : Bound → List Text
names_in (One x) = x.now ∷ []
names_in (Two x y) = x.now ∷ y.now ∷ []
