-- What begins with a name, and with no name.
use Rattle.std.proofs.Common.{◌≡◌, ◌≢◌, Bool, true, false, if◌then◌else◌, codes, Some, None, refl, ap, sym, ◌∙◌}
use Rattle.msl_base.specs.Names.{Text, is_among}
use Rattle.msl_lex.specs.Names.{reserved}
use Rattle.msl_lex.specs.Lexemes.{Form, word, number, sign, close}
use Rattle.msl_lex.specs.declared.token.TokenKind.TheVariants as kind
use Rattle.msl_read.specs.Reading.{says}
use Rattle.msl_read.specs.Front.{name_in}
use Rattle.msl_read.specs.Kinds.{kind_of}
use Rattle.msl_fun_read.specs.declared.parse.first.First.TheVariants as first
use Rattle.msl_fun_read.specs.Grammar.{other_first}

not_reserved : (b : Bool) (w n : Text) → (if b then None else Some w) ≡ Some n → b ≡ false
not_reserved false w n h = refl
not_reserved true w n h = cc

pub named : (f behind b : Form) (n : Text) (opens : Bool) → name_in f ≡ Some n → opens ≡ says (codes "(") b → b ≡ behind → (if opens then first.Call else first.Variable) ≡ other_first f behind
named (word w) behind b n opens h e e2 =
    ap (λ (o : Bool). if o then first.Call else first.Variable) (e ∙ ap (says (codes "(")) e2) ∙
    ap (λ (r : Bool). if r then first.Nothing else if says (codes "(") behind then first.Call else first.Variable) (sym (not_reserved (is_among reserved w) w n h))
named (number m) behind b n opens h e e2 = cc
named (sign s) behind b n opens h e e2 = cc
named close behind b n opens h e e2 = cc

is_reserved : (b : Bool) (w : Text) → (if b then None else Some w) ≡ None → b ≡ true
is_reserved true w h = refl
is_reserved false w h = cc

pub nameless : (f behind : Form) → kind_of f ≢ kind.Number → name_in f ≡ None → first.Nothing ≡ other_first f behind
nameless (word s) behind other h =
    ap (λ (r : Bool). if r then first.Nothing else if says (codes "(") behind then first.Call else first.Variable) (sym (is_reserved (is_among reserved s) s h))
nameless (number n) behind other h = absurd (other refl)
nameless (sign s) behind other h = refl
nameless close behind other h = refl
