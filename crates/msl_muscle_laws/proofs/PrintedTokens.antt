-- Tokens that say what was printed.
use Rattle.std.proofs.Common.{◌≡◌, List, [], ◌∷◌, ◌++◌, map, drop, true, false, codes, refl, ap, ◌∙◌}
use Rattle.msl_lex.specs.Lexemes.{Form, Lexeme, word, sign}
use Rattle.msl_lex.specs.Printing.{Bit, token, blank, forms_of}
use Rattle.msl_base.specs.Names.{Text}
use Rattle.msl_read.specs.Reading.{says}
use Rattle.msl_read.specs.Front.{form, form_behind}
use Rattle.msl_fun_print.proofs.Listed.{later}

-- the first tokens say these bits, and the others are behind them
abbrev pub Says : List Bit → List Lexeme → List Lexeme → Type 0
Says [] ts us = ts ≡ us
Says (token f ∷ bs) ts us = (form ts ≡ f) × Says bs (drop 1 ts) us
Says (blank c ∷ bs) ts us = Says bs ts us

pub record Split (bs cs : List Bit) (ts us : List Lexeme) : Type 0 where
  pub at : List Lexeme
  pub front : Says bs ts at
  pub back : Says cs at us

pub split : (bs cs : List Bit) (ts us : List Lexeme) → Says (bs ++ cs) ts us → Split bs cs ts us
split [] cs ts us h = record { at = ts; front = refl; back = h }
split (token f ∷ bs) cs ts us h = let r = split bs cs (drop 1 ts) us h.1 in record { at = r.at; front = (h.0, r.front); back = r.back }
split (blank c ∷ bs) cs ts us h = let r = split bs cs ts us h in record { at = r.at; front = r.front; back = r.back }

pub says_all : (bits : List Bit) (front rest : List Lexeme) → map (λ t. t.form) front ≡ forms_of bits → Says bits (front ++ rest) rest
says_all [] [] rest h = refl
says_all [] (t ∷ front) rest h = cc
says_all (token f ∷ bs) [] rest h = cc
says_all (token f ∷ bs) (t ∷ front) rest h = let first : t.form ≡ f = cc in let others : map (λ t. t.form) front ≡ forms_of bs = cc in (first, says_all bs front rest others)
says_all (blank c ∷ bs) front rest h = says_all bs front rest h

-- ---- parts with commas between them

-- a comma is behind a part, or what is behind all
pub next : (P : Form → Type 0) (ps : List (List Bit)) (ts us : List Lexeme) → Says (later ps) ts us → P (sign (codes ",")) → P (form us) → P (form ts)
next P [] ts us h comma end = rw h end
next P (p ∷ ps) ts us h comma end = rw h.0 comma

-- ---- the token behind

pub not_open : (w : Text) (ts us : List Lexeme) → form ts ≡ word w → says (codes "(") (word w) ≡ false → drop 1 ts ≡ us → says (codes "(") (form us) ≡ false → says (codes "(") (form_behind ts) ≡ false
not_open w [] us is other e h = refl
not_open w (t ∷ []) us is other e h = ap (says (codes "(")) is ∙ other
not_open w (t ∷ u ∷ ts) us is other e h = ap (λ (l : List Lexeme). says (codes "(") (form l)) e ∙ h

pub is_open : (ts : List Lexeme) → says (codes "(") (form (drop 1 ts)) ≡ true → says (codes "(") (form_behind ts) ≡ true
is_open [] h = cc
is_open (t ∷ []) h = cc
is_open (t ∷ u ∷ ts) h = h
