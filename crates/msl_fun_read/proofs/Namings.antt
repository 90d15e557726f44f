-- The place of a name among others, and the name at the front of an expression.
use Rattle.std.proofs.Common.{◌≡◌, Bool, true, false, if◌then◌else◌, codes, Some, None, refl}
use Rattle.msl_lex.specs.Lexemes.{Form, word, number, sign, close}
use Rattle.msl_fun.specs.declared.expr.BinOp.TheVariants.{Min, Max}
use Rattle.msl_fun_read.specs.declared.parse.first.First.{First}
use Rattle.msl_fun_read.specs.declared.parse.first.First.TheVariants as first
use Rattle.msl_base.specs.Names.{Text, is_among}
use Rattle.msl_lex.specs.Names.{reserved}
use Rattle.msl_read.specs.Reading.{says}
use Rattle.msl_read.specs.Front.{name_in, word_in}
use Rattle.msl_fun_read.specs.Grammar.{first_in, other_first}

-- ---- the name of a variable or of a function that is called

abbrev pub BeginsName : First → Type 0
BeginsName first.Variable = Unit {0}
BeginsName first.Call = Unit {0}
BeginsName _ = ⊥

behind_test : (b : Bool) (x y : First) → (BeginsName x → ⊥) → BeginsName (if b then x else y) → BeginsName y
behind_test true x y not_x h = absurd (not_x h)
behind_test false x y not_x h = h

unreserved : (b : Bool) (w : Text) (y : First) → BeginsName (if b then first.Nothing else y) → (if b then None else Some w) ≡ Some w
unreserved true w y h = absurd h
unreserved false w y h = refl

other_named : (f behind : Form) → BeginsName (other_first f behind) → name_in f ≡ Some (word_in f)
other_named (word w) behind h = unreserved (is_among reserved w) w (if says (codes "(") behind then first.Call else first.Variable) h
other_named (number n) behind h = absurd h
other_named (sign s) behind h = absurd h
other_named close behind h = absurd h

pub named : (f behind : Form) → BeginsName (first_in f behind) → name_in f ≡ Some (word_in f)
named f behind h =
    other_named f behind
    (behind_test (says (codes "(") f) first.Parenthesis _ (λ z. z)
    (behind_test (says (codes "max") f) (first.Pair Max) _ (λ z. z)
    (behind_test (says (codes "min") f) (first.Pair Min) _ (λ z. z)
    (behind_test (says (codes "not") f) first.Not _ (λ z. z)
    (behind_test (says (codes "-") f) first.Minus _ (λ z. z)
    (behind_test (says (codes "loop") f) first.Loop _ (λ z. z)
    (behind_test (says (codes "let") f) first.Let _ (λ z. z)
    (behind_test (says (codes "if") f) first.If _ (λ z. z) h))))))))
