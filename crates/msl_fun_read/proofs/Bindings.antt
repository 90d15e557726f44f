-- A name that `let` or `loop` binds, and a quoted token behind it.
use Rattle.std.proofs.Common.{◌≡◌, ◌≤◌, ◌-◌, ℕ, false, List, [], ◌∷◌, ◌++◌, length, drop, take, IsTrue, arith, length-drop, length-append, take_all, refl, ap, ◌∙◌}
use Rattle.std.proofs.lemmas.List.{take-append-le}
use Rattle.msl_lex.specs.declared.kind.Kind.TheVariants.{Expected}
use Rattle.msl_lex.specs.Lexemes.{Lexeme}
use Rattle.msl_fun.specs.declared.funs.Fun.{Fun}
use Rattle.msl_read.specs.declared.fault.ReadFault.{ReadFault}
use Rattle.msl_read.specs.declared.fault.ReadFault.TheVariants.{At}
use Rattle.msl_fun_read.specs.declared.parse.draft.Draft.{Draft}
use Rattle.msl_base.specs.Names.{Text}
use Rattle.msl_read.specs.Reading.{says, place}
use Rattle.msl_read.specs.Front.{form}
use Rattle.msl_fun_read.specs.Grammar.{State, token, reading}
use Rattle.msl_fun_read.specs.Naming.{NamesNew, IsNoName}
use Rattle.msl_fun_read.specs.Binding.{BindsName, BindsNone, name_before}
use Rattle.msl_read.proofs.Parts.{refused_along}
use Rattle.msl_fun_read.proofs.Turns.{new_name_ok, new_name_err}
use Rattle.msl_fun_read.proofs.Rules.{taken, refused}

front : (xs ys : List Text) → take (length xs) (xs ++ ys) ≡ xs
front xs ys = take-append-le (length xs) xs ys (omega arith) ∙ take_all (length xs) xs (omega arith)

-- the last names go
pub left_all : (xs ys ns : List Text) → ys ≡ xs ++ ns → take (length ys - length ns) ys ≡ xs
left_all xs ys ns h = rw h (shorter (length (xs ++ ns) - length ns) (omega (arith, length-append xs ns)))
  where
    shorter : (k : ℕ) → k ≡ length xs → take k (xs ++ ns) ≡ xs
    shorter k e = rw e (front xs ns)

two_fewer : (xs ys zs : List Lexeme) → ys ≡ drop 1 xs → zs ≡ drop 1 ys → length zs ≤ length xs
two_fewer xs ys zs p q = rw (q, p) (omega (arith, length-drop 1 (drop 1 xs), length-drop 1 xs))

-- where these are in scope at first; what is in scope afterwards is said apart
module _ (known : List Text) (text n : Text) (old start mid new : Draft) (same : start.cursor ≡ old.cursor) (scope : start.scope ≡ known) where
  starts : (funs : List Fun) (others : List Text) (k : Text → State) → reading funs others old.cursor (name_before known text k) ≡ reading funs others start.cursor (name_before start.scope text k)
  starts funs others k = rw (same, scope) refl

  pub binds : start.names ≡ old.names → NamesNew start mid n → IsTrue (says text (form mid.cursor)) × (new.cursor ≡ drop 1 mid.cursor) → new.scope ≡ old.scope → new.names ≡ mid.names → BindsName known text old new n
  binds names h t left kept = record {
    is_name = h.is_name;
    few = rw (← scope) h.few;
    is_new = rw (← scope) h.is_new;
    scope = left;
    names = kept ∙ (h.names ∙ ap (λ (ns : List Text). ns ++ n ∷ []) names);
    shorter = two_fewer old.cursor mid.cursor new.cursor (h.cursor ∙ ap (λ (ts : List Lexeme). drop 1 ts) same) t.1;
    goes = λ funs others k. starts funs others k ∙ (new_name_ok funs others start mid n h (λ m. token text (k m)) ∙ taken funs others mid.cursor new.cursor text (k n) t);
  }

  pub no_binding : (e : ReadFault) → NamesNew start mid n → (says text (form mid.cursor) ≡ false) × (e ≡ At Expected (place mid.cursor)) → BindsNone known text old e
  no_binding e h t = λ funs others k. refused_along _ _ e (starts funs others k ∙ new_name_ok funs others start mid n h (λ m. token text (k m))) (refused funs others mid.cursor text (k n) e t)

  pub no_name : (e : ReadFault) → IsNoName start e → BindsNone known text old e
  no_name e h = λ funs others k. refused_along _ _ e (starts funs others k) (new_name_err funs others start e h (λ m. token text (k m)))
