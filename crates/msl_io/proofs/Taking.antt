-- How a line's bytes are taken piece by piece.
use Rattle.std.proofs.Common.{arith, ◌≡◌, ◌≢◌, ℕ, ◌+◌, ◌-◌, ◌<◌, ◌≤◌, List, [], ◌∷◌, ◌++◌, length, take, drop, get_or, ap, sym, refl, ◌∙◌, subst, Bool, true, false, cond, ◌==◌, append_assoc, append-nil, length-append}
use Rattle.std.proofs.lemmas.Bool.{cond-true, cond-false}
use Rattle.std.proofs.lemmas.List.{take_more, get_or_at, take_at, take_all, take-append-drop, length-take-le, drop_more, drop_all}
use Rattle.std.specs.Str.Lines.{strip_carriage_return}
use Rattle.msl_io.specs.declared.text.Text.{Text}
use Rattle.msl_io.specs.declared.words.Words.{Words}
use Rattle.msl_io.specs.declared.text.Part.TheVariants as part
use Rattle.msl_io.specs.Lines.{HasNoLf, most_bytes}
use Rattle.msl_io.specs.Taking.{HasTaken, IsLineEnd, Scanned, TakesPart}
use Rattle.msl_io.proofs.Splitting.{scanned_stray}

-- ---- no LF

pub HasNoLf-append : (xs ys : List ℕ) → HasNoLf xs → HasNoLf ys → HasNoLf (xs ++ ys)
HasNoLf-append [] ys h k = k
HasNoLf-append (x ∷ xs) ys h k = (h.0, HasNoLf-append xs ys h.1 k)

pub HasNoLf-more : (bytes : List ℕ) (i : ℕ) → i < length bytes → get_or bytes i 0 ≢ 10 → HasNoLf (take i bytes) → HasNoLf (take (i + 1) bytes)
HasNoLf-more bytes i lt ne h = subst HasNoLf (sym (take_more bytes i 0 lt)) (HasNoLf-append (take i bytes) (get_or bytes i 0 ∷ []) h (ne, tt))

pub line_end_all : (bytes : List ℕ) (i : ℕ) → i ≡ length bytes → HasNoLf (take i bytes) → IsLineEnd bytes (length bytes)
line_end_all bytes i e h = record { within = omega arith; no_lf = subst (λ (k : ℕ). HasNoLf (take k bytes)) e h; lf = λ lt. absurd (omega arith) }

-- ---- one CR at the end

pub strip_push : (xs : List ℕ) (b : ℕ) → strip_carriage_return (xs ++ b ∷ []) ≡ cond (b == 13) xs (xs ++ b ∷ [])
strip_push xs b =
    let whole = xs ++ b ∷ [] in
    let size : length whole - 1 ≡ length xs = omega (arith, length-append xs (b ∷ [])) in
    ap (λ (k : ℕ). cond (get_or whole k 0 == 13) (take k whole) whole) size
    ∙ ap (λ (c : ℕ). cond (c == 13) (take (length xs) whole) whole) (get_or_at xs b [] 0 (length xs) refl)
    ∙ ap (λ (t : List ℕ). cond (b == 13) t whole) (take_at xs (b ∷ []) (length xs) refl)

-- a CR that more follows belongs to the text, and no word has it
pub scanned_cr : (taken : List ℕ) (old : Text) (w : Words) (h : HasTaken taken old) → old.cr ≡ true → w.bad ≡ true → Scanned taken w old.word
scanned_cr taken old w h cr bad =
    subst (λ (t : List ℕ). Scanned t w old.word) (sym (h.split ∙ ap (λ (b : Bool). h.text ++ cond b (13 ∷ []) []) cr))
    (scanned_stray h.text old.words w old.word old.word 13 refl bad (λ bytes is. (refl, λ none. (refl, refl))) h.scanned)

pub scanned_whole : (taken : List ℕ) (old : Text) (h : HasTaken taken old) → old.cr ≡ false → Scanned taken old.words old.word
scanned_whole taken old h cr =
    subst (λ (t : List ℕ). Scanned t old.words old.word) (sym (h.split ∙ ap (λ (b : Bool). h.text ++ cond b (13 ∷ []) []) cr ∙ append-nil h.text)) h.scanned

-- more bytes, of which the last is a CR or not
module _ (taken bytes front : List ℕ) (last : ℕ) (old new : Text) (h : HasTaken taken old) (no_lf : HasNoLf bytes) (split : bytes ≡ front ++ last ∷ [])
    (cr : new.cr ≡ (last == 13)) (len : new.len ≡ old.len + length bytes) where
  long : new.len ≡ length (taken ++ bytes)
  long = omega (arith, len, h.len, length-append taken bytes)

  stripped : strip_carriage_return (taken ++ bytes) ≡ cond (last == 13) (taken ++ front) ((taken ++ front) ++ last ∷ [])
  stripped = ap (λ (t : List ℕ). strip_carriage_return (taken ++ t)) split ∙ ap strip_carriage_return (sym (append_assoc taken front (last ∷ []))) ∙ strip_push (taken ++ front) last

  pub has_taken_cr : (last == 13) ≡ true → last ≡ 13 → Scanned (taken ++ front) new.words new.word → HasTaken (taken ++ bytes) new
  has_taken_cr is e s = record {
    text = taken ++ front;
    split = ap (λ (t : List ℕ). taken ++ t) split ∙ sym (append_assoc taken front (last ∷ [])) ∙ ap (λ (b : ℕ). (taken ++ front) ++ b ∷ []) e ∙ ap (λ (b : Bool). (taken ++ front) ++ cond b (13 ∷ []) []) (sym (cr ∙ is));
    stripped = stripped ∙ cond-true (last == 13) (taken ++ front) ((taken ++ front) ++ last ∷ []) is;
    scanned = s;
    len = long;
    no_lf = HasNoLf-append taken bytes h.no_lf no_lf;
  }

  pub has_taken_text : (last == 13) ≡ false → Scanned (taken ++ bytes) new.words new.word → HasTaken (taken ++ bytes) new
  has_taken_text is s = record {
    text = taken ++ bytes;
    split = sym (append-nil (taken ++ bytes)) ∙ ap (λ (b : Bool). (taken ++ bytes) ++ cond b (13 ∷ []) []) (sym (cr ∙ is));
    stripped = stripped ∙ cond-false (last == 13) (taken ++ front) ((taken ++ front) ++ last ∷ []) is ∙ append_assoc taken front (last ∷ []) ∙ ap (λ (t : List ℕ). taken ++ t) (sym split);
    scanned = s;
    len = long;
    no_lf = HasNoLf-append taken bytes h.no_lf no_lf;
  }

-- ---- a chunk's part of a line

-- the part before the first LF, or all
module _ (chunk : List ℕ) (n : ℕ) (end : IsLineEnd chunk n) where
  pub part_long : (taken : List ℕ) (t : Text) → most_bytes - t.len < n → HasTaken taken t → TakesPart part.Long taken chunk t chunk
  part_long taken t gt h = (take n chunk, drop n chunk, sym (take-append-drop n chunk), end.no_lf, omega (arith, h.len, length-take-le n chunk end.within))

  pub part_ended : (taken rest : List ℕ) (t : Text) → n < length chunk → rest ≡ drop (n + 1) chunk → HasTaken (taken ++ take n chunk) t → TakesPart part.Ended taken chunk t rest
  part_ended taken rest t lt e h = (
    take n chunk,
    sym (take-append-drop n chunk) ∙ ap (λ (xs : List ℕ). take n chunk ++ xs) (drop_more chunk n 0 lt ∙ ap (λ (b : ℕ). b ∷ drop (n + 1) chunk) (end.lf lt) ∙ ap (λ (xs : List ℕ). 10 ∷ xs) (sym e)),
    h,
  )

  pub part_more : (taken rest : List ℕ) (t : Text) → length chunk ≤ n → rest ≡ drop n chunk → HasTaken (taken ++ take n chunk) t → TakesPart part.More taken chunk t rest
  part_more taken rest t ge e h = (subst (λ (xs : List ℕ). HasTaken (taken ++ xs) t) (take_all n chunk ge) h, e ∙ drop_all n chunk ge)
