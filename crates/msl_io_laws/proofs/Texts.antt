-- The text of records: its lines, their words, and the stream that it reads as.
use Rattle.std.proofs.Common.{arith, ◌≡◌, ℕ, ℤ, ◌+◌, ◌-◌, ◌*◌, ◌≤◌, List, [], ◌∷◌, ◌++◌, length, map, get_or, take, refl, ap, sym, ◌∙◌, true, false, Ok, Err, append_assoc, length-append, ltb, ◌==◌, ◌||◌}
use Rattle.std.proofs.lemmas.Bool.{cond-false, le-ltb, ne_eqb}
use Rattle.std.proofs.lemmas.List.Elements.{All-from_recursion, recursion_from_All, All-weaker, All-get_or}
use Rattle.std.specs.Fmt.{signed_decimal}
use Rattle.std.specs.Int.{w64}
use Rattle.std.specs.List.{All, AllByRecursion, join_with_byte}
use Rattle.std.specs.Prelude.{FitsSigned}
use Rattle.std.specs.Str.Lines.{strip_carriage_return}
use Rattle.msl_base.specs.declared.fault.Fault.TheVariants.{LongLine, WideRecord}
use Rattle.msl_base.specs.Streams.{Outcome, Stream, stream, before, done, unread}
use Rattle.msl_io.specs.Lines.{row, rows_of, HasNoLf, is_blank, words, numbers_of, record_of, reading, led_by, stream_of, part_of, reads, most_bytes, most_lines, most_numbers}
use Rattle.msl_io.specs.Text.{text}
use Rattle.msl_io.proofs.Rows.{rows_of-ended, stream-row, part-row}
use Rattle.msl_io.proofs.Splitting.{words-blank, words-unbroken}
use Rattle.msl_io_laws.specs.RoundTrip.{IsReadable, TextReadsBack, TextBeginsSo, TextIsOfOne}
use Rattle.msl_io_laws.proofs.Numbers.{IsVisible, number_visible, number_some, number_short, numbers_spelt}

abbrev AreFit : List ℤ → Type 0
AreFit = AllByRecursion (FitsSigned w64)

-- the bytes of a line, before its LF
abbrev line : List ℤ → List ℕ
line zs = join_with_byte 32 (map signed_decimal zs)

-- ---- bytes

-- no line end
abbrev IsInLine : ℕ → Type 0
IsInLine b = 32 ≤ b

append_in_line : (xs ys : List ℕ) → AllByRecursion IsVisible xs → AllByRecursion IsInLine ys → AllByRecursion IsInLine (xs ++ ys)
append_in_line [] ys h k = k
append_in_line (x ∷ xs) ys h k = (omega (arith, h.0), append_in_line xs ys h.1 k)

visible_in_line : (xs : List ℕ) → AllByRecursion IsVisible xs → AllByRecursion IsInLine xs
visible_in_line [] h = tt
visible_in_line (x ∷ xs) h = (omega (arith, h.0), visible_in_line xs h.1)

line_in_line : (zs : List ℤ) → AreFit zs → AllByRecursion IsInLine (line zs)
line_in_line [] h = tt
line_in_line (z ∷ []) h = visible_in_line (signed_decimal z) (number_visible z h.0)
line_in_line (z ∷ y ∷ zs) h = append_in_line (signed_decimal z) (32 ∷ line (y ∷ zs)) (number_visible z h.0) (omega arith, line_in_line (y ∷ zs) h.1)

no_lf : (bs : List ℕ) → AllByRecursion IsInLine bs → HasNoLf bs
no_lf [] h = tt
no_lf (b ∷ bs) h = (λ is. absurd (omega (arith, h.0, is)), no_lf bs h.1)

-- no CR is at the end
not_stripped : (bs : List ℕ) → AllByRecursion IsInLine bs → strip_carriage_return bs ≡ bs
not_stripped [] h = refl
not_stripped (b ∷ bs) h =
    let last : 32 ≤ get_or (b ∷ bs) (length (b ∷ bs) - 1) 0 = All-get_or IsInLine (b ∷ bs) (length (b ∷ bs) - 1) 0 (omega arith) (All-from_recursion IsInLine (b ∷ bs) h) in
    cond-false (get_or (b ∷ bs) (length (b ∷ bs) - 1) 0 == 13) (take (length (b ∷ bs) - 1) (b ∷ bs)) (b ∷ bs) (ne_eqb _ 13 (λ is. absurd (omega (arith, last, is))))

-- ---- words

not_blank : (b : ℕ) → IsVisible b → is_blank b ≡ false
not_blank b h = ap (λ t. t || b == 9) (ne_eqb b 32 (λ is. absurd (omega (arith, h, is)))) ∙ ne_eqb b 9 (λ is. absurd (omega (arith, h, is)))

unbroken : (z : ℤ) → FitsSigned w64 z → All (λ (b : ℕ). is_blank b ≡ false) (signed_decimal z)
unbroken z f = All-weaker IsVisible (λ (b : ℕ). is_blank b ≡ false) not_blank (signed_decimal z) (All-from_recursion IsVisible (signed_decimal z) (number_visible z f))

one_word : (z : ℤ) → FitsSigned w64 z → words (signed_decimal z) ≡ signed_decimal z ∷ []
one_word z f = words-unbroken (signed_decimal z) (unbroken z f) (number_some z f)

line_words : (zs : List ℤ) → AreFit zs → words (line zs) ≡ map signed_decimal zs
line_words [] h = refl
line_words (z ∷ []) h = one_word z h.0
line_words (z ∷ y ∷ zs) h =
    words-blank (signed_decimal z) (line (y ∷ zs)) 32 refl ∙ ap (λ ws. ws ++ words (line (y ∷ zs))) (one_word z h.0)
    ∙ ap (λ ws. signed_decimal z ∷ ws) (line_words (y ∷ zs) h.1)

-- ---- one line

line_short : (zs : List ℤ) → AreFit zs → length (line zs) ≤ 21 * length zs
line_short [] h = omega arith
line_short (z ∷ []) h = omega (arith, number_short z h.0)
line_short (z ∷ y ∷ zs) h = omega (arith, number_short z h.0, length-append (signed_decimal z) (32 ∷ line (y ∷ zs)), line_short (y ∷ zs) h.1)

line_reads : (n : ℕ) (zs : List ℤ) → IsReadable zs → reading n (row (line zs) true) ≡ Ok zs
line_reads n zs is =
    let fit : AreFit zs = recursion_from_All (FitsSigned w64) zs is.fit in
    cond-false (ltb most_bytes (length (line zs))) (Err (LongLine n)) (record_of n (numbers_of (words (strip_carriage_return (line zs)))))
    (le-ltb most_bytes (length (line zs)) (omega (arith, line_short zs fit, is.few)))
    ∙ ap (λ bs. record_of n (numbers_of (words bs))) (not_stripped (line zs) (line_in_line zs fit))
    ∙ ap (λ ws. record_of n (numbers_of ws)) (line_words zs fit) ∙ ap (record_of n) (numbers_spelt zs fit)
    ∙ cond-false (ltb most_numbers (length zs)) (Err (WideRecord n)) (Ok zs) (le-ltb most_numbers (length zs) is.few)

-- ---- all lines

text_rows : (zs : List ℤ) (X : List (List ℤ)) → IsReadable zs → rows_of (text (zs ∷ X)) ≡ row (line zs) true ∷ rows_of (text X)
text_rows zs X is =
    ap rows_of (append_assoc (line zs) (10 ∷ []) (text X)) ∙ rows_of-ended (line zs) (text X) (no_lf (line zs) (line_in_line zs (recursion_from_All (FitsSigned w64) zs is.fit)))

text_streams : (limit n : ℕ) (X : List (List ℤ)) → n + length X ≤ limit + 1 → AllByRecursion IsReadable X → stream_of limit n (rows_of (text X)) ≡ stream X done
text_streams limit n [] le h = refl
text_streams limit n (zs ∷ X) le h =
    ap (stream_of limit n) (text_rows zs X h.0) ∙ stream-row limit n (row (line zs) true) (rows_of (text X)) (omega arith)
    ∙ ap (λ (o : Outcome). led_by o (stream_of limit (n + 1) (rows_of (text X)))) (line_reads n zs h.0)
    ∙ ap (before (zs ∷ [])) (text_streams limit (n + 1) X (omega arith) h.1)

text_parts : (limit n : ℕ) (X : List (List ℤ)) → n + length X ≤ limit + 1 → AllByRecursion IsReadable X → part_of limit n (rows_of (text X)) ≡ stream X unread
text_parts limit n [] le h = refl
text_parts limit n (zs ∷ X) le h =
    ap (part_of limit n) (text_rows zs X h.0) ∙ part-row limit n (line zs) (rows_of (text X)) (omega arith)
    ∙ ap (λ (o : Outcome). led_by o (part_of limit (n + 1) (rows_of (text X)))) (line_reads n zs h.0)
    ∙ ap (before (zs ∷ [])) (text_parts limit (n + 1) X (omega arith) h.1)

pub reads_back : TextReadsBack
reads_back X are = text_streams most_lines 1 X (omega (arith, are.few)) (recursion_from_All IsReadable X are.each)

pub begins_so : TextBeginsSo
begins_so X are = text_parts most_lines 1 X (omega (arith, are.few)) (recursion_from_All IsReadable X are.each)

pub is_of_one : TextIsOfOne
is_of_one X Y a b same = ap (λ (s : Stream). s.records) (sym (reads_back X a) ∙ ap reads same ∙ reads_back Y b)
