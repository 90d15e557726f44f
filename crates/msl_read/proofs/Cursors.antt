-- What the first tokens of an open text say.
use Rattle.std.proofs.Common.{◌<◌, drop, length, length-drop, arith, ◌≡◌, ℕ, List, [], ◌∷◌, map, get_or, slice_range, Bool, true, false, if◌then◌else◌, Some, None, refl, ap, sym, ◌∙◌}
use Rattle.msl_lex.specs.declared.token.Token.{Token}
use Rattle.msl_lex.specs.declared.token.TokenKind.{TokenKind}
use Rattle.msl_lex.specs.declared.token.TokenKind.TheVariants as kind
use Rattle.msl_lex.specs.Lexemes.{Form, Lexeme, lexeme_of, form_of, word, number, sign, close}
use Rattle.msl_base.specs.Names.{Text, is_among}
use Rattle.msl_lex.specs.Names.{reserved}
use Rattle.msl_read.specs.Reading.{says}
use Rattle.msl_read.specs.Front.{form, AreOpen}
use Rattle.msl_read.specs.Front.{name_in, word_in}

module _ (text : List ℕ) (ts : List Token) (d : Token) (seen : List Lexeme) (view : map (lexeme_of text) ts ≡ seen) (open_text : AreOpen text ts) where
  form_is : form seen ≡ form_of (get_or ts 0 d).kind (slice_range text (get_or ts 0 d).from (get_or ts 0 d).to)
  form_is = ap form (sym view) ∙ along ts open_text
    where
      along : (ts : List Token) → AreOpen text ts → form (map (lexeme_of text) ts) ≡ form_of (get_or ts 0 d).kind (slice_range text (get_or ts 0 d).from (get_or ts 0 d).to)
      along [] h = absurd h
      along (t ∷ ts) h = refl

  pub word_is : (s : List ℕ) → (get_or ts 0 d).kind ≡ kind.Word → s ≡ slice_range text (get_or ts 0 d).from (get_or ts 0 d).to → form seen ≡ word s
  word_is s e e2 = form_is ∙ (ap (λ (k : TokenKind). form_of k (slice_range text (get_or ts 0 d).from (get_or ts 0 d).to)) e ∙ ap word (sym e2))

-- a name is the word of its token
pub name_is : (f : Form) (n : Text) → name_in f ≡ Some n → word_in f ≡ n
name_is (word w) n h = by (is_among reserved w) h
  where
    by : (b : Bool) → (if b then None else Some w) ≡ Some n → w ≡ n
    by true h = cc
    by false h = cc
name_is (number m) n h = cc
name_is (sign s) n h = cc
name_is close n h = cc

-- behind a quoted token there is less
pub shorter : (ts : List Lexeme) (w : Text) → says w (form ts) ≡ true → length (drop 1 ts) < length ts
shorter [] w h = cc
shorter (t ∷ ts) w h = omega (arith, length-drop 1 (t ∷ ts))
