-- What several writes to one sink append.
use Rattle.std.proofs.Common.{arith, ◌≡◌, ℕ, ◌+◌, ◌-◌, ◌<◌, ◌≤◌, List, [], ◌∷◌, ◌++◌, length, take, drop, ap, get_or, ℤ, pos, add-one, sym, refl, ◌∙◌, append_assoc, take-append-drop, length-append, Option, Result, Ok, Err, OnErr, subst, map}
use Rattle.std.proofs.Math.Seq.{take-length, drop-cons, drop-length}
use Rattle.std.specs.Io.KnownBytes.{Appends}
use Rattle.std.proofs.KnownBytes.{Appends-trans}
use Rattle.msl_io.specs.Text.{AppendsPart, text_of}
use Rattle.msl_io.specs.Writing.{Wrote, others}
use Rattle.std.specs.Fmt.{signed_decimal}
use Rattle.std.specs.List.{join_with_byte}

-- one write after another
pub wrote_on : (a b c : Option (List ℕ)) (text rest next : List ℕ) → Wrote a b text rest → Wrote b c rest next → Wrote a c text next
wrote_on a b c text rest next w v = record {
  front = w.front ++ v.front;
  split = w.split ∙ ap (λ (t : List ℕ). w.front ++ t) v.split ∙ sym (append_assoc w.front v.front next);
  appended = Appends-trans a b c w.front v.front w.appended v.appended;
}

-- n bytes were taken
pub wrote_bytes : (a b : Option (List ℕ)) (n : ℕ) (text : List ℕ) → Appends a b (take n text) → Wrote a b text (drop n text)
wrote_bytes a b n text p = record { front = take n text; split = sym (take-append-drop n text); appended = p }

-- more text stands behind
pub wrote_before : (a b : Option (List ℕ)) (text rest more : List ℕ) → Wrote a b text rest → Wrote a b (text ++ more) (rest ++ more)
wrote_before a b text rest more w = record { front = w.front; split = ap (λ (t : List ℕ). t ++ more) w.split ∙ append_assoc w.front rest more; appended = w.appended }

pub part_before : (a b : Option (List ℕ)) (text more : List ℕ) → AppendsPart a b text → AppendsPart a b (text ++ more)
part_before a b text more (x, y, split, some, p) = (x, y ++ more, ap (λ (t : List ℕ). t ++ more) split ∙ append_assoc x y more, omega (arith, some, length-append y more), p)

-- the rest was written in part
pub part_on : (a b c : Option (List ℕ)) (text rest : List ℕ) → Wrote a b text rest → AppendsPart b c rest → AppendsPart a c text
part_on a b c text rest w (x, y, split, some, p) =
    (w.front ++ x, y, w.split ∙ ap (λ (t : List ℕ). w.front ++ t) split ∙ sym (append_assoc w.front x y), some, Appends-trans a b c w.front x w.appended p)

pub err_on : {T E : Type 0} (r : Result T E) (a b c : Option (List ℕ)) (text rest : List ℕ) → Wrote a b text rest → OnErr r (AppendsPart b c rest) → OnErr r (AppendsPart a c text)
err_on (Ok x) a b c text rest w p = tt
err_on (Err e) a b c text rest w p = part_on a b c text rest w p

pub others-drop : (xs : List ℤ) (i : ℕ) → i < length xs → others (drop i xs) ≡ (32 ∷ signed_decimal (get_or xs i (pos 0))) ++ others (drop (i + 1) xs)
others-drop xs i lt = ap others (drop-cons xs i (pos 0) lt ∙ ap (λ (k : ℕ). get_or xs i (pos 0) ∷ drop k xs) (sym (add-one i)))

pub others-end : (xs : List ℤ) (i : ℕ) → i ≡ length xs → others (drop i xs) ≡ 10 ∷ []
others-end xs i e = ap (λ (k : ℕ). others (drop k xs)) e ∙ ap others (drop-length xs)

-- a record's text is its first number's and that of the others
text_of-cons : (x : ℤ) (xs : List ℤ) → text_of (x ∷ xs) ≡ signed_decimal x ++ others xs
text_of-cons x [] = refl
text_of-cons x (y ∷ ys) =
    append_assoc (signed_decimal x) (32 ∷ join_with_byte 32 (map signed_decimal (y ∷ ys))) (10 ∷ [])
    ∙ ap (λ (t : List ℕ). signed_decimal x ++ 32 ∷ t) (text_of-cons y ys)

text_of-split : (xs : List ℤ) → 1 ≤ length xs → signed_decimal (get_or xs 0 (pos 0)) ++ others (take (length xs - 1) (drop 1 xs)) ≡ text_of xs
text_of-split [] some = absurd (omega arith)
text_of-split (x ∷ xs) some =
    let size : length (x ∷ xs) - 1 ≡ length xs = omega arith in
    ap (λ (t : List ℤ). signed_decimal x ++ others t) (ap (λ (k : ℕ). take k xs) size ∙ take-length xs) ∙ sym (text_of-cons x xs)

-- the first number stands in a piece that had nothing
pub text_of-first : (xs : List ℤ) (none piece : List ℕ) → 1 ≤ length xs → none ≡ [] → piece ≡ none ++ signed_decimal (get_or xs 0 (pos 0)) → piece ++ others (take (length xs - 1) (drop 1 xs)) ≡ text_of xs
text_of-first xs none piece some empty e =
    ap (λ (t : List ℕ). t ++ others (take (length xs - 1) (drop 1 xs))) (e ∙ ap (λ (t : List ℕ). t ++ signed_decimal (get_or xs 0 (pos 0))) empty) ∙ text_of-split xs some

-- the piece in front was handed on, and one number more stands in it
pub wrote_next : (a b c : Option (List ℕ)) (text piece rest spaced grown : List ℕ) (xs : List ℤ) (i : ℕ)
    → Wrote a b text (piece ++ others (drop i xs)) → Wrote b c piece rest → spaced ≡ rest ++ 32 ∷ [] → grown ≡ spaced ++ signed_decimal (get_or xs i (pos 0)) → i < length xs
    → Wrote a c text (grown ++ others (drop (i + 1) xs))
wrote_next a b c text piece rest spaced grown xs i w v s e lt =
    let number = signed_decimal (get_or xs i (pos 0)) in
    let next = others (drop (i + 1) xs) in
    let same : rest ++ others (drop i xs) ≡ grown ++ next =
    ap (λ (t : List ℕ). rest ++ t) (others-drop xs i lt) ∙ sym (append_assoc rest (32 ∷ number) next) ∙ ap (λ (t : List ℕ). t ++ next) (sym (append_assoc rest (32 ∷ []) number) ∙ ap (λ (t : List ℕ). t ++ number) (sym s) ∙ sym e) in
    subst (Wrote a c text) same (wrote_on a b c text (piece ++ others (drop i xs)) (rest ++ others (drop i xs)) w (wrote_before b c piece rest (others (drop i xs)) v))
