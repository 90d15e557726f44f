-- A text by its tokens and the blanks between them.
use Rattle.std.specs.Prelude.{◌≡◌, ℕ, Bool, true, false, not, ◌&&◌, ◌||◌, nat_le, List, [], ◌∷◌, ◌++◌, length, map, decimal, Ok}
use Rattle.msl_lex.specs.Bytes.{is_blank, starts_long_sign}
use Rattle.msl_lex.specs.Layout.{is_word, is_sign, ReadsAs}
use Rattle.msl_lex.specs.Lexemes.{Form, Lexeme, word, number, sign, close, longest_name, greatest_number}

-- what a text is put together from
pub data Bit : Type 0 where
  token : Form → Bit
  blank : ℕ → Bit

-- a number without leading zeros
abbrev pub spelling : Form → List ℕ
spelling (word w) = w
spelling (number n) = decimal n
spelling (sign s) = s
spelling close = []

abbrev pub bytes_of : Bit → List ℕ
bytes_of (token f) = spelling f
bytes_of (blank c) = c ∷ []

abbrev pub text_of : List Bit → List ℕ
text_of [] = []
text_of (b ∷ bs) = bytes_of b ++ text_of bs

abbrev pub forms_of : List Bit → List Form
forms_of [] = []
forms_of (token f ∷ bs) = f ∷ forms_of bs
forms_of (blank c ∷ bs) = forms_of bs

-- a token can say this
abbrev pub is_spellable : Form → Bool
is_spellable (word w) = is_word w && nat_le (length w) longest_name
is_spellable (number n) = nat_le n greatest_number
is_spellable (sign s) = is_sign s
is_spellable close = false

-- nothing need stand between two tokens; a long sign is over whatever comes next
abbrev pub may_touch : Form → Form → Bool
may_touch (word v) (word w) = false
may_touch (word v) (number n) = false
may_touch (number m) (number n) = false
may_touch (sign s) (sign t) = starts_long_sign s || not (starts_long_sign (s ++ t))
may_touch _ _ = true

-- each token can be spelt, blanks are blanks, and no two tokens touch that would be others then
abbrev pub is_laid : List Bit → Bool
is_laid [] = true
is_laid (token f ∷ token g ∷ bs) = is_spellable f && may_touch f g && is_laid (token g ∷ bs)
is_laid (token f ∷ bs) = is_spellable f && is_laid bs
is_laid (blank c ∷ bs) = is_blank c && is_laid bs

-- the text has just these tokens, and its end
pub record SaysAll (bits : List Bit) : Type 0 where
  pub tokens : List Lexeme
  pub said : ReadsAs 0 (text_of bits) (Ok tokens)
  pub forms : map (λ t. t.form) tokens ≡ forms_of bits ++ close ∷ []
