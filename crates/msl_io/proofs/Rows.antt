-- The first line of bytes, and what streams say of it.
use Rattle.std.proofs.Common.{arith, ◌≡◌, ◌≢◌, ℕ, ◌+◌, ◌<◌, ◌≤◌, List, [], ◌∷◌, ◌++◌, length, ap, sym, refl, ◌∙◌, subst, Bool, true, false, cond, ltb, Err, append_assoc, append-nil, length-append, inl, inr, ◌⊎◌}
use Rattle.std.proofs.Math.Logic.{⊎_map}
use Rattle.std.proofs.lemmas.Bool.{cond-true, cond-false, lt-ltb, le-ltb}
use Rattle.std.proofs.lemmas.Bool.Decides.{nat_tests, eqb_tells}
use Rattle.msl_base.specs.declared.fault.Fault.{Fault}
use Rattle.msl_base.specs.declared.fault.Fault.TheVariants.{ManyLines, LongLine}
use Rattle.msl_base.specs.Streams.{Outcome, stream, failed, unread}
use Rattle.std.specs.Str.Lines.{strip_carriage_return}
use Rattle.msl_io.specs.Lines.{Row, row, whole, rows_of, with_byte, HasNoLf, FirstRow, reading, record_of, numbers_of, words, most_bytes, led_by, stream_of, part_of, open_line}

pub rows_of-no_lf : (b : ℕ) (bs : List ℕ) → b ≢ 10 → rows_of (b ∷ bs) ≡ with_byte b (rows_of bs)
rows_of-no_lf b bs ne = grind (arith)

-- a line that an LF ends
pub rows_of-ended : (line bs : List ℕ) → HasNoLf line → rows_of (line ++ 10 ∷ bs) ≡ row line true ∷ rows_of bs
rows_of-ended [] bs h = refl
rows_of-ended (b ∷ line) bs h = rows_of-no_lf b (line ++ 10 ∷ bs) h.0 ∙ ap (with_byte b) (rows_of-ended line bs h.1)

-- a last line that no LF ends
pub rows_of-unended : (b : ℕ) (bs : List ℕ) → HasNoLf (b ∷ bs) → rows_of (b ∷ bs) ≡ row (b ∷ bs) false ∷ []
rows_of-unended b [] h = rows_of-no_lf b [] h.0
rows_of-unended b (c ∷ bs) h = rows_of-no_lf b (c ∷ bs) h.0 ∙ ap (with_byte b) (rows_of-unended c bs h.1)

-- the first line is the first row
first_row-by : (bytes line behind : List ℕ) (t : Bool) → HasNoLf line → bytes ≡ whole (row line t) ++ behind → (t ≡ false → (behind ≡ []) × (0 < length line)) → rows_of bytes ≡ row line t ∷ rows_of behind
first_row-by bytes line behind true h e last = ap rows_of (e ∙ append_assoc line (10 ∷ []) behind) ∙ rows_of-ended line behind h
first_row-by bytes [] behind false h e last = absurd (omega (arith, (last refl).1))
first_row-by bytes (b ∷ bs) behind false h e last =
    ap rows_of (e ∙ ap (λ (t : List ℕ). ((b ∷ bs) ++ []) ++ t) (last refl).0 ∙ append-nil ((b ∷ bs) ++ []) ∙ append-nil (b ∷ bs)) ∙ rows_of-unended b bs h
    ∙ ap (λ (t : List ℕ). row (b ∷ bs) false ∷ rows_of t) (sym (last refl).0)

pub first_row : (bytes behind : List ℕ) (line : Row) → FirstRow bytes line behind → rows_of bytes ≡ line ∷ rows_of behind
first_row bytes behind line f = first_row-by bytes line.bytes behind line.ended f.no_lf f.split f.last

-- a line that an LF ends, in front of bytes
pub ended_first : (line behind : List ℕ) → HasNoLf line → FirstRow (line ++ 10 ∷ behind) (row line true) behind
ended_first line behind h = record { no_lf = h; split = sym (append_assoc line (10 ∷ []) behind); last = λ unended. cc }

-- bytes that are a last line
pub unended_first : (line : List ℕ) → HasNoLf line → 0 < length line → FirstRow line (row line false) []
unended_first line h some = record { no_lf = h; split = sym (append-nil (line ++ []) ∙ append-nil line); last = λ _. (refl, some) }

-- the first line of bytes, of which it takes a front that has no LF
pub record BeginsWith (front bytes : List ℕ) : Type 0 where
  pub more : List ℕ
  pub ended : Bool
  pub behind : List ℕ
  pub first : FirstRow bytes (row (front ++ more) ended) behind

add_byte : (b : ℕ) (bs : List ℕ) → b ≢ 10 → BeginsWith [] bs ⊎ (bs ≡ []) → BeginsWith (b ∷ []) (b ∷ bs)
add_byte b bs ne (inr e) = record { more = []; ended = false; behind = []; first = subst (λ (t : List ℕ). FirstRow (b ∷ t) (row (b ∷ []) false) []) (sym e) (unended_first (b ∷ []) (ne, tt) (omega arith)) }
add_byte b bs ne (inl f) = record {
  more = f.more;
  ended = f.ended;
  behind = f.behind;
  first = record { no_lf = (ne, f.first.no_lf); split = ap (λ (t : List ℕ). b ∷ t) f.first.split; last = λ unended. ((f.first.last unended).0, omega arith) };
}

first_of-by : (b : ℕ) (bs : List ℕ) → (b ≡ 10) ⊎ (b ≢ 10) → BeginsWith [] bs ⊎ (bs ≡ []) → BeginsWith [] (b ∷ bs)
first_of-by b bs (inl is) rest = record { more = []; ended = true; behind = bs; first = subst (λ (k : ℕ). FirstRow (k ∷ bs) (row [] true) bs) (sym is) (ended_first [] bs tt) }
first_of-by b bs (inr ne) rest =
    let f = add_byte b bs ne rest in
    record { more = b ∷ f.more; ended = f.ended; behind = f.behind; first = f.first }

is_lf : (b : ℕ) → (b ≡ 10) ⊎ (b ≢ 10)
is_lf b = ⊎_map (λ p. p.1) (λ p. p.1) (eqb_tells b 10)

-- bytes have a first line, where there are any
pub first_of : (bytes : List ℕ) → BeginsWith [] bytes ⊎ (bytes ≡ [])
first_of [] = inr refl
first_of (b ∷ bs) = inl (first_of-by b bs (is_lf b) (first_of bs))

-- a front with no LF belongs to it
pub front_of : (b : ℕ) (front bs : List ℕ) → HasNoLf (b ∷ front) → BeginsWith (b ∷ front) ((b ∷ front) ++ bs)
front_of b [] bs h = add_byte b bs h.0 (first_of bs)
front_of b (c ∷ front) bs h =
    let f = front_of c front bs h.1 in
    record {
      more = f.more;
      ended = f.ended;
      behind = f.behind;
      first = record { no_lf = (h.0, f.first.no_lf); split = ap (λ (t : List ℕ). b ∷ t) f.first.split; last = λ unended. ((f.first.last unended).0, omega arith) };
    }

-- ---- streams

pub not_past : (limit n : ℕ) → n ≤ limit → ltb limit n ≡ false
not_past limit n le = grind (arith, nat_tests)

pub past : (limit n : ℕ) → limit < n → ltb limit n ≡ true
past limit n le = grind (arith, nat_tests)

pub stream-row : (limit n : ℕ) (line : Row) (lines : List Row) → n ≤ limit → stream_of limit n (line ∷ lines) ≡ led_by (reading n line) (stream_of limit (n + 1) lines)
stream-row limit n line lines le =
    ap (λ (b : Bool). cond b (stream [] (failed ManyLines)) (led_by (reading n line) (stream_of limit (n + 1) lines))) (not_past limit n le)

pub part-row : (limit n : ℕ) (bytes : List ℕ) (lines : List Row) → n ≤ limit → part_of limit n (row bytes true ∷ lines) ≡ led_by (reading n (row bytes true)) (part_of limit (n + 1) lines)
part-row limit n bytes lines le =
    ap (λ (b : Bool). cond b (stream [] (failed ManyLines)) (led_by (reading n (row bytes true)) (part_of limit (n + 1) lines))) (not_past limit n le)

-- a refused first line
pub stream-refused : (limit n : ℕ) (bytes behind : List ℕ) (line : Row) (f : Fault) → n ≤ limit → FirstRow bytes line behind → reading n line ≡ Err f → stream_of limit n (rows_of bytes) ≡ stream [] (failed f)
stream-refused limit n bytes behind line f le first refused =
    ap (stream_of limit n) (first_row bytes behind line first) ∙ stream-row limit n line (rows_of behind) le ∙ ap (λ (o : Outcome). led_by o (stream_of limit (n + 1) (rows_of behind))) refused

-- a line too many
many-first : (limit n : ℕ) (bytes : List ℕ) → limit < n → BeginsWith [] bytes → stream_of limit n (rows_of bytes) ≡ stream [] (failed ManyLines)
many-first limit n bytes over f =
    ap (stream_of limit n) (first_row bytes f.behind (row f.more f.ended) f.first)
    ∙ ap (λ (b : Bool). cond b (stream [] (failed ManyLines)) (led_by (reading n (row f.more f.ended)) (stream_of limit (n + 1) (rows_of f.behind)))) (past limit n over)

pub stream-many : (limit n : ℕ) (bytes : List ℕ) → 0 < length bytes → limit < n → stream_of limit n (rows_of bytes) ≡ stream [] (failed ManyLines)
stream-many limit n [] some over = absurd (omega arith)
stream-many limit n (b ∷ bs) some over = elim (first_of (b ∷ bs)) [ inl f ↦ many-first limit n (b ∷ bs) over f | inr e ↦ cc ]

-- a front of a line
pub part-rest : (limit n : ℕ) (bytes : List ℕ) → HasNoLf bytes → length bytes ≤ most_bytes → (0 < length bytes → n ≤ limit) → part_of limit n (rows_of bytes) ≡ stream [] unread
part-rest limit n [] h short le = refl
part-rest limit n (b ∷ bs) h short le =
    ap (part_of limit n) (rows_of-unended b bs h)
    ∙ ap (λ (t : Bool). cond t (stream [] (failed ManyLines)) (stream [] (open_line n (b ∷ bs)))) (not_past limit n (le (omega arith)))
    ∙ ap (stream []) (cond-false (ltb most_bytes (length (b ∷ bs))) (failed (LongLine n)) unread (le-ltb most_bytes (length (b ∷ bs)) short))

-- a line that is too long already
long-first : (limit n : ℕ) (bytes front : List ℕ) → n ≤ limit → most_bytes < length front → BeginsWith front bytes → stream_of limit n (rows_of bytes) ≡ stream [] (failed (LongLine n))
long-first limit n bytes front le long b =
    let line = row (front ++ b.more) b.ended in
    stream-refused limit n bytes b.behind line (LongLine n) le b.first
    (cond-true (ltb most_bytes (length line.bytes)) (Err (LongLine n)) (record_of n (numbers_of (words (strip_carriage_return line.bytes)))) (lt-ltb most_bytes (length line.bytes) (omega (arith, length-append front b.more, long))))

pub stream-long : (limit n : ℕ) (front behind : List ℕ) → n ≤ limit → HasNoLf front → most_bytes < length front → stream_of limit n (rows_of (front ++ behind)) ≡ stream [] (failed (LongLine n))
stream-long limit n [] behind le h long = absurd (omega arith)
stream-long limit n (b ∷ front) behind le h long = long-first limit n ((b ∷ front) ++ behind) (b ∷ front) le long (front_of b front behind h)
