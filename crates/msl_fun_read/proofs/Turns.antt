-- How reading goes on at a name that comes into a scope, and at the end of a call.
use Rattle.std.proofs.Common.{◌≡◌, ℕ, ◌<◌, ◌≤◌, List, [], ◌∷◌, length, drop, Bool, true, false, not, Option, Some, None, Result, Err, refl, ap, sym, ◌∙◌, lt-ltb, le-ltb, eq-eqb, if◌then◌else◌, codes}
use Rattle.msl_lex.specs.declared.kind.Kind.TheVariants as kind
use Rattle.msl_lex.specs.Lexemes.{Lexeme}
use Rattle.msl_fun.specs.declared.funs.Fun.{Fun}
use Rattle.msl_fun_read.specs.declared.parse.draft.Draft.{Draft}
use Rattle.msl_read.specs.declared.fault.ReadFault.{ReadFault}
use Rattle.msl_read.specs.declared.fault.ReadFault.TheVariants.{At, NoMemory}
use Rattle.msl_base.specs.Names.{Text, is_among}
use Rattle.msl_read.specs.Reading.{Refusal, test, takes, stops, moved, place, says}
use Rattle.msl_read.specs.Front.{form}
use Rattle.msl_fun_read.specs.Grammar.{State, Then, Tree, Context, Callee, new_name, arguments, name_turn, go, params_at, call_of, all_of, reading}
use Rattle.msl_read.specs.Front.{name_in}
use Rattle.msl_read.specs.Refusals.{IsRefused}
use Rattle.msl_fun_read.specs.Naming.{NamesNew, IsNoName}
use Rattle.msl_read.proofs.Cursors.{name_is}

-- ---- a name that comes into a scope

module _ (t : Lexeme) (ts : List Lexeme) (k : Text → State) (behind : State → Result (Fun × List Lexeme) Refusal) where
  -- by the name that the token is, whether there is room, and whether the name is new
  abbrev turn : Option Text → Bool → Bool → Result (Fun × List Lexeme) Refusal
  turn name few new = moved (name_turn (test kind.Many t.at few ∷ test kind.Twice t.at new ∷ []) name k) t ts behind

  taken : (name : Option Text) (few new : Bool) (n : Text) → name ≡ Some n → few ≡ true → new ≡ true → turn name few new ≡ behind (k n)
  taken None few new n is room free = cc
  taken (Some m) false new n is room free = cc
  taken (Some m) true false n is room free = cc
  taken (Some m) true true n is room free = cc

  no_name : (name : Option Text) (few new : Bool) → name ≡ None → turn name few new ≡ Err (kind.Expected, t.at)
  no_name None few new is = refl
  no_name (Some n) few new is = cc

  too_many : (name : Option Text) (few new : Bool) (n : Text) → name ≡ Some n → few ≡ false → turn name few new ≡ Err (kind.Many, t.at)
  too_many None few new n is full = cc
  too_many (Some m) false new n is full = refl
  too_many (Some m) true new n is full = cc

  twice : (name : Option Text) (few new : Bool) (n : Text) → name ≡ Some n → few ≡ true → new ≡ false → turn name few new ≡ Err (kind.Twice, t.at)
  twice None few new n is room there = cc
  twice (Some m) false new n is room there = cc
  twice (Some m) true false n is room there = refl
  twice (Some m) true true n is room there = cc

module _ (funs : List Fun) (others : List Text) where
  pub reads_name : (ts : List Lexeme) (scope : List Text) (n : Text) (k : Text → State) → name_in (form ts) ≡ Some n → length scope < 32 → is_among scope n ≡ false →
      reading funs others ts (new_name scope k) ≡ reading funs others (drop 1 ts) (k n)
  reads_name [] scope n k is few free = cc
  reads_name (t ∷ ts) scope n k is few free =
      taken t ts k (reading funs others ts) (name_in t.form) _ _ n is (lt-ltb (length scope) 32 few) (ap not (ap (is_among scope) (name_is t.form n is) ∙ free))

  pub new_name_ok : (old new : Draft) (n : Text) → NamesNew old new n → (k : Text → State) → reading funs others old.cursor (new_name old.scope k) ≡ reading funs others new.cursor (k n)
  new_name_ok old new n h k = reads_name old.cursor old.scope n k h.name h.few h.is_new ∙ ap (λ (ts : List Lexeme). reading funs others ts (k n)) (sym h.cursor)

  reads_no_name : (ts : List Lexeme) (scope : List Text) (k : Text → State) → name_in (form ts) ≡ None → reading funs others ts (new_name scope k) ≡ Err (kind.Expected, place ts)
  reads_no_name [] scope k is = refl
  reads_no_name (t ∷ ts) scope k is = no_name t ts k (reading funs others ts) (name_in t.form) _ _ is

  reads_too_many : (ts : List Lexeme) (scope : List Text) (k : Text → State) (n : Text) → name_in (form ts) ≡ Some n → 32 ≤ length scope →
      reading funs others ts (new_name scope k) ≡ Err (kind.Many, place ts)
  reads_too_many [] scope k n is full = cc
  reads_too_many (t ∷ ts) scope k n is full = too_many t ts k (reading funs others ts) (name_in t.form) _ _ n is (le-ltb (length scope) 32 full)

  reads_twice : (ts : List Lexeme) (scope : List Text) (k : Text → State) (n : Text) → name_in (form ts) ≡ Some n → length scope < 32 → is_among scope n ≡ true →
      reading funs others ts (new_name scope k) ≡ Err (kind.Twice, place ts)
  reads_twice [] scope k n is few there = cc
  reads_twice (t ∷ ts) scope k n is few there =
      twice t ts k (reading funs others ts) (name_in t.form) _ _ n is (lt-ltb (length scope) 32 few) (ap not (ap (is_among scope) (name_is t.form n is) ∙ there))

  pub new_name_err : (old : Draft) (e : ReadFault) → IsNoName old e → (k : Text → State) → IsRefused (reading funs others old.cursor (new_name old.scope k)) e
  new_name_err old NoMemory h k = tt
  new_name_err old (At kind.Expected at) h k = reads_no_name old.cursor old.scope k h.0 ∙ ap (λ (at : ℕ). Err (kind.Expected, at)) (sym h.1)
  new_name_err old (At kind.Many at) h k = reads_too_many old.cursor old.scope k h.0.0 h.0.1 h.1 ∙ ap (λ (at : ℕ). Err (kind.Many, at)) (sym h.2)
  new_name_err old (At kind.Twice at) h k = reads_twice old.cursor old.scope k h.0.0 h.0.1.name h.0.1.few h.0.1.taken ∙ ap (λ (at : ℕ). Err (kind.Twice, at)) (sym h.1)
  new_name_err old (At _ at) h k = absurd h

-- ---- the end of a call

module _ (t : Lexeme) (ts : List Lexeme) (more ended : State) (at : ℕ) (behind : State → Result (Fun × List Lexeme) Refusal) where
  ends_call : (comma closed fits : Bool) → comma ≡ false → closed ≡ true → fits ≡ true →
      moved (if comma then go more else if closed then takes (test kind.Width at fits ∷ []) ended else stops) t ts behind ≡ behind ended
  ends_call true closed fits e h w = cc
  ends_call false false fits e h w = cc
  ends_call false true false e h w = cc
  ends_call false true true e h w = refl

module _ (funs : List Fun) (others : List Text) (f : Callee) (c : Context) (ns : List Text) (args : List Tree) (k : Then) where
  pub reads_end : (ts : List Lexeme) → says (codes ",") (form ts) ≡ false → says (codes ")") (form ts) ≡ true → length args ≡ params_at funs others f.fun →
      reading funs others ts (arguments f c ns args k) ≡ reading funs others (drop 1 ts) (k ns (call_of f.fun (all_of args)))
  reads_end [] e h long = cc
  reads_end (t ∷ ts) e h long = ends_call t ts _ _ f.at (reading funs others ts) (says (codes ",") t.form) (says (codes ")") t.form) _ e h (eq-eqb (length args) _ long)
