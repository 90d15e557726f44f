-- Canonical texts whose numbers are digits, which can be computed.
use Rattle.std.proofs.Common.{◌≡◌, ℕ, ◌+◌, Bool, true, false, ◌&&◌, List, [], ◌∷◌, ◌++◌, Result, Ok, Err, refl, ap, ◌∙◌, ltb-true}
use Rattle.std.specs.Prelude.{nat_lt}
use Rattle.std.proofs.lemmas.Fmt.{decimal_digit}
use Rattle.msl_lex.specs.Lexemes.{word, number, sign, close}
use Rattle.msl_lex.specs.Printing.{Bit, token, blank, bytes_of, text_of}
use Rattle.msl_read.specs.Reading.{Refusal}
use Rattle.msl_program.specs.declared.script.Script.{Script}
use Rattle.msl_script_print.specs.ScriptText.{script_bits}
use Rattle.msl_script_laws.specs.Canonical.{printed}

abbrev is_short : Bit → Bool
is_short (token (number n)) = nat_lt n 10
is_short _ = true

abbrev are_short : List Bit → Bool
are_short [] = true
are_short (b ∷ bs) = is_short b && are_short bs

abbrev short_bytes : Bit → List ℕ
short_bytes (token (number n)) = (48 + n) ∷ []
short_bytes b = bytes_of b

abbrev short_text : List Bit → List ℕ
short_text [] = []
short_text (b ∷ bs) = short_bytes b ++ short_text bs

one_short : (b : Bit) → is_short b ≡ true → bytes_of b ≡ short_bytes b
one_short (token (number n)) h = decimal_digit n (ltb-true n 10 h)
one_short (token (word w)) h = refl
one_short (token (sign s)) h = refl
one_short (token close) h = refl
one_short (blank c) h = refl

both : (a b : Bool) → (a && b) ≡ true → (a ≡ true) × (b ≡ true)
both true b h = (refl, h)
both false b h = cc

all_short : (bs : List Bit) → are_short bs ≡ true → text_of bs ≡ short_text bs
all_short [] h = refl
all_short (b ∷ bs) h =
    let parts = both (is_short b) (are_short bs) h in
    ap (λ (t : List ℕ). t ++ text_of bs) (one_short b parts.0) ∙ ap (λ (t : List ℕ). short_bytes b ++ t) (all_short bs parts.1)

abbrev pub bits_in : Result Script Refusal → List Bit
bits_in (Ok s) = script_bits s
bits_in (Err e) = []

pub short_printed : (r : Result Script Refusal) → are_short (bits_in r) ≡ true → printed r ≡ short_text (bits_in r)
short_printed (Ok s) h = all_short (script_bits s) h
short_printed (Err e) h = refl
