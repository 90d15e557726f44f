-- Reading goes on through what is printed, which is laid.
use Rattle.std.proofs.Common.{◌≡◌, ◌≤◌, ℕ, suc, Bool, true, ℤ, pos, negsuc, List, [], ◌∷◌, ◌++◌, None, refl, sym, subst, ◌∙◌, append_assoc, arith}
use Rattle.std.specs.Prelude.{nat_le, neg_ℤ}
use Rattle.std.proofs.lemmas.Bool.{leb-true}
use Rattle.std.proofs.lemmas.Bool.Decides.{nat_tests}
use Rattle.msl_lex.specs.Layout.{is_sign}
use Rattle.msl_lex.specs.Lexemes.{Form, Lexeme, word, number, sign, lexeme, greatest_number}
use Rattle.msl_lex.specs.Printing.{Bit, token, blank, is_spellable, may_touch, is_laid}
use Rattle.msl_base.specs.Names.{Text}
use Rattle.msl_lex.specs.Names.{is_name}
use Rattle.msl_fun_print.specs.FunText.{space, named, mark}
use Rattle.msl_read.specs.Front.{name_in}
use Rattle.msl_read.specs.Reading.{Test, failing}
use Rattle.msl_muscle_laws.proofs.PrintedNames.{is_named, same_text, word_of}
use Rattle.msl_muscle_laws.proofs.PrintedTokens.{Says}
use Rattle.msl_program.specs.ProgramPromise.{IsBetween}
use Rattle.msl_grammar.specs.ScriptGrammar.{State, on, reading, name_turn, integer_turn, is_between, a_number, a_natural}
use Rattle.msl_grammar.specs.ScriptGrammar as grammar
use Rattle.msl_script_print.specs.ScriptText.{line_end, integer}
use Rattle.msl_lex.specs.Spelling.{IsInteger}
use Rattle.msl_grammar.proofs.Leaves.{name_passes}

-- a token may stand before these
abbrev pub meets : Form → List Bit → Bool
meets f (token g ∷ bits) = may_touch f g
meets f _ = true

-- The bits are laid, and reading goes on from one state behind tokens that say them as from another, where something is behind.
pub record Goes (s : State) (bits : List Bit) (t : State) : Type 0 where
  pub laid : is_laid bits ≡ true
  pub goes : (ts us : List Lexeme) (u : Lexeme) → Says bits ts (u ∷ us) → reading ts s ≡ reading (u ∷ us) t

-- ---- one bit

laid_token : (f : Form) (bits : List Bit) → is_spellable f ≡ true → meets f bits ≡ true → is_laid bits ≡ true → is_laid (token f ∷ bits) ≡ true
laid_token f [] spelt meet laid = rw spelt refl
laid_token f (token g ∷ bits) spelt meet laid = rw (spelt, meet, laid) refl
laid_token f (blank c ∷ bits) spelt meet laid = rw (spelt, laid) refl

pub nothing_left : (bits : List Bit) (us : List Lexeme) (u : Lexeme) → Says bits [] (u ∷ us) → ⊥
nothing_left [] us u h = cc
nothing_left (token f ∷ bits) us u h = nothing_left bits us u h.1
nothing_left (blank c ∷ bits) us u h = nothing_left bits us u h

pub nothing : {s : State} → Goes s [] s
nothing = record { laid = refl; goes = λ ts us u h. rw h refl }

pub spaced : {s t : State} {bits : List Bit} → Goes s bits t → Goes s (space ∷ bits) t
spaced h = record { laid = h.laid; goes = h.goes }

pub lined : {s t : State} {bits : List Bit} → Goes s bits t → Goes s (line_end ∷ bits) t
lined h = record { laid = h.laid; goes = h.goes }

-- what follows may depend on the place of the token
pub at_token : {s t : State} {f : Form} {bits : List Bit} (next : ℕ → State) → is_spellable f ≡ true → meets f bits ≡ true
    → ((at end : ℕ) (ts : List Lexeme) → reading (lexeme f at end ∷ ts) s ≡ reading ts (next at)) → ((at : ℕ) → Goes (next at) bits t) → Goes s (token f ∷ bits) t
at_token {s = s} {t = t} {f = f} {bits = bits} next spelt meet step h = record { laid = laid_token f bits spelt meet (h 0).laid; goes = by }
  where
    by : (ts us : List Lexeme) (u : Lexeme) → Says (token f ∷ bits) ts (u ∷ us) → reading ts s ≡ reading (u ∷ us) t
    by [] us u said = absurd (nothing_left bits us u said.1)
    by (l ∷ ts) us u said = subst (λ (g : Form). reading (lexeme g l.at l.end ∷ ts) s ≡ reading ts (next l.at)) (sym said.0) (step l.at l.end ts) ∙ (h l.at).goes ts us u said.1

pub one_token : {s t : State} {f : Form} {bits : List Bit} (next : State) → is_spellable f ≡ true → meets f bits ≡ true
    → ((at end : ℕ) (ts : List Lexeme) → reading (lexeme f at end ∷ ts) s ≡ reading ts next) → Goes next bits t → Goes s (token f ∷ bits) t
one_token next spelt meet step h = at_token (λ at. next) spelt meet step (λ at. h)

-- a token that a state leaves to what follows it
pub same_token : {s t : State} {f : Form} {bits : List Bit} (next : State)
    → ((at end : ℕ) (ts : List Lexeme) → reading (lexeme f at end ∷ ts) s ≡ reading (lexeme f at end ∷ ts) next) → Goes next (token f ∷ bits) t → Goes s (token f ∷ bits) t
same_token {s = s} {t = t} {f = f} {bits = bits} next step h = record { laid = h.laid; goes = by }
  where
    by : (ts us : List Lexeme) (u : Lexeme) → Says (token f ∷ bits) ts (u ∷ us) → reading ts s ≡ reading (u ∷ us) t
    by [] us u said = absurd (nothing_left bits us u said.1)
    by (l ∷ ts) us u said = subst (λ (g : Form). reading (lexeme g l.at l.end ∷ ts) s ≡ reading (lexeme g l.at l.end ∷ ts) next) (sym said.0) (step l.at l.end ts) ∙ h.goes (l ∷ ts) us u said

-- ---- parts

pub same_bits : {s t : State} {bits more : List Bit} → more ≡ bits → Goes s bits t → Goes s more t
same_bits {s = s} {t = t} is h = subst (λ (b : List Bit). Goes s b t) (sym is) h

-- a part with more behind it
pub grouped : {s t : State} (a b c : List Bit) → Goes s (a ++ (b ++ c)) t → Goes s ((a ++ b) ++ c) t
grouped a b c h = same_bits (append_assoc a b c) h

-- ---- quoted tokens

pub word_goes : {s t : State} {w : Text} {bits : List Bit} → is_spellable (word w) ≡ true → meets (word w) bits ≡ true → Goes s bits t → Goes (grammar.token w s) (named w ∷ bits) t
word_goes {s = s} {w = w} spelt meet h = one_token s spelt meet (λ at end ts. rw (same_text w) refl) h

pub sign_goes : {s t : State} {w : Text} {bits : List Bit} → is_sign w ≡ true → meets (sign w) bits ≡ true → Goes s bits t → Goes (grammar.token w s) (mark w ∷ bits) t
sign_goes {s = s} {w = w} spelt meet h = one_token s spelt meet (λ at end ts. rw (same_text w) refl) h

-- ---- names

pub name_spelt : (n : Text) → is_name n ≡ true → is_spellable (word n) ≡ true
name_spelt n name = let w = word_of n name in rw (w.0, w.1) refl

-- a state that wants a name
module _ (s : State) (due : ℕ → Text → List Test) (next : ℕ → Text → State) (is : (l behind : Lexeme) → on s l behind ≡ name_turn (due l.at) (name_in l.form) (next l.at)) where
  pub name_goes : {t : State} {n : Text} {bits : List Bit} → is_name n ≡ true → meets (word n) bits ≡ true → ((at : ℕ) → failing (due at n) ≡ None) → ((at : ℕ) → Goes (next at n) bits t) → Goes s (named n ∷ bits) t
  name_goes {n = n} name meet none h =
      at_token (λ at. next at n) (name_spelt n name) meet (λ at end ts. name_passes s due next is (lexeme (word n) at end ∷ ts) n (is_named n name) (none at)) h

-- ---- numbers

pub number_spelt : (v : ℕ) → v ≤ greatest_number → is_spellable (number v) ≡ true
number_spelt v few = grind (arith, nat_tests)

is_within : (low high v : ℕ) → IsBetween low high v → is_between low high v ≡ true
is_within low high v b = let least = b.0 in let most = b.1 in grind (arith, nat_tests)

few_enough : (high v : ℕ) → nat_le high greatest_number ≡ true → v ≤ high → v ≤ greatest_number
few_enough high v small most = let h = leb-true high greatest_number small in omega arith

-- a number in its range
pub number_goes : {t : State} {low high v : ℕ} {k : ℕ → State} {bits : List Bit} → nat_le high greatest_number ≡ true → IsBetween low high v → meets (number v) bits ≡ true → Goes (k v) bits t → Goes (a_number low high k) (token (number v) ∷ bits) t
number_goes {low = low} {high = high} {v = v} {k = k} small between meet h =
    one_token (k v) (number_spelt v (few_enough high v small between.1)) meet (λ at end ts. rw (is_within low high v between) refl) h

pub natural_goes : {t : State} {v : ℕ} {k : ℕ → State} {bits : List Bit} → v ≤ greatest_number → meets (number v) bits ≡ true → Goes (k v) bits t → Goes (a_natural k) (token (number v) ∷ bits) t
natural_goes {v = v} {k = k} few meet h = one_token (k v) (number_spelt v few) meet (λ at end ts. refl) h

-- a state that wants an integer
module _ (s : State) (due : ℕ → List Test) (k : ℤ → State) (is : (l behind : Lexeme) → on s l behind ≡ integer_turn (due l.at) l.form k) (none : (at : ℕ) → failing (due at) ≡ None) where
  pub integer_goes : {t : State} {bits : List Bit} (z : ℤ) → IsInteger z → ((v : ℕ) → meets (number v) bits ≡ true) → Goes (k z) bits t → Goes s (integer z ++ bits) t
  integer_goes (pos v) few meet h = one_token (k (pos v)) (number_spelt v few) (meet v) (λ at end ts. rw (is, none at) refl) h
  integer_goes (negsuc v) few meet h = one_token (a_natural (λ v. k (neg_ℤ (pos v)))) refl refl (λ at end ts. rw (is, none at) refl) (natural_goes few (meet (suc v)) h)
