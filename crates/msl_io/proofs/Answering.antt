-- What the reader's answers say of the bytes that it took.
use Rattle.std.proofs.Common.{arith, ◌≡◌, ℕ, ◌<◌, ◌≤◌, List, [], ◌∷◌, ◌++◌, length, ◌==◌, ap, sym, ◌∙◌, subst, Bool, true, false, if◌then◌else◌, Option, Some, None, Err, refl, append_assoc, append-nil, length-append}
use Rattle.std.proofs.lemmas.Bool.Decides.{nat_tests}
use Rattle.msl_base.specs.declared.fault.Fault.{Fault}
use Rattle.msl_base.specs.declared.fault.Fault.TheVariants as faults
use Rattle.msl_base.specs.declared.rec.Rec.{Rec}
use Rattle.msl_base.specs.Streams.{stream, failed}
use Rattle.msl_io.specs.declared.chunk.TheConstants.{CHUNK_BYTES}
use Rattle.msl_io.specs.declared.chunk.Filled.TheVariants as filled
use Rattle.msl_io.specs.declared.lines.Line.{Line}
use Rattle.msl_io.specs.declared.lines.Line.TheVariants as line
use Rattle.msl_io.specs.declared.lines.Stop.{Stop}
use Rattle.msl_io.specs.declared.lines.Stop.TheVariants as stop
use Rattle.msl_io.specs.declared.text.Part.TheVariants as part
use Rattle.msl_io.specs.declared.text.Text.{Text}
use Rattle.msl_io.specs.Lines.{row, rows_of, FirstRow, reading, stream_of, most_bytes}
use Rattle.msl_io.specs.Reader.{Before, After, Reads, IsEndOf, IsRefused, IsLong, IsCutOff}
use Rattle.msl_io.specs.Taking.{Took, HasTaken, Fills, TakesPart, Gives}
use Rattle.msl_io.proofs.Rows.{ended_first, unended_first, stream-refused, stream-many, stream-long, part-rest}
use Rattle.msl_io.proofs.Taking.{HasNoLf-append}

pub nonzero : (n : ℕ) → false ≡ (n == 0) → 0 < n
nonzero n h = grind (arith, nat_tests)

-- ---- a line whose bytes were all taken

module _ (b : Before) (a : After) (taken : List ℕ) (ended : Bool) (le : b.number ≤ b.limit) (first : FirstRow b.bytes (row taken ended) a.bytes) (end : IsEndOf a.left b.bytes) where
  refused_row : (f : Fault) → reading b.number (row taken ended) ≡ Err f → IsRefused b a f
  refused_row f e = record { refused = stream-refused b.limit b.number b.bytes a.bytes (row taken ended) f le first e; taken = end.0; split = end.1 }

  reads_row : (answer : Line) → ((r : Rec) → answer ≡ line.Rec r → a.stopped ≡ (if ended then None else Some stop.End)) → Gives (reading b.number (row taken ended)) answer → Reads b a answer
  reads_row (line.Rec r) stops g = record { line = row taken ended; first = first; within = le; reads_as = g; stops = stops r refl }
  reads_row line.End stops g = absurd g
  reads_row (line.BadRecord k) stops g = refused_row (faults.BadRecord k) g
  reads_row (line.LongLine k) stops g = absurd g
  reads_row (line.WideRecord k) stops g = refused_row (faults.WideRecord k) g
  reads_row line.ManyLines stops g = absurd g
  reads_row line.ReadFault stops g = absurd g
  reads_row line.NoMemory stops g = end

-- ---- each answer, from what was taken and how the chunk was filled then

module _ (b : Before) (rest left rest' left' : List ℕ) (stopped : Option Stop) (t : Text) (k : Took b.bytes rest left t) (short : t.len ≤ most_bytes) where
  -- what a chunk and the source have afterwards
  abbrev pub having : List ℕ → After
  having chunk = record { bytes = chunk ++ left'; left = left'; stopped = stopped }

  pub answer_last : (answer : Line) → b.number ≤ b.limit → 0 < t.len → Fills filled.End rest left rest' left'
      → ((taken : List ℕ) (ended : Bool) → HasTaken taken t → length taken ≤ most_bytes → Gives (reading b.number (row taken ended)) answer)
      → ((r : Rec) → answer ≡ line.Rec r → stopped ≡ Some stop.End) → Reads b (having rest') answer
  answer_last answer le some f gives stops =
      let all : b.bytes ≡ k.taken = k.split ∙ ap (λ (xs : List ℕ). k.taken ++ xs) f.0 ∙ append-nil k.taken in
      let none : rest' ++ left' ≡ [] = ap (λ (xs : List ℕ). xs ++ left') f.1 ∙ f.2 in
      let alone = unended_first k.taken k.has.no_lf (omega (arith, k.has.len, some)) in
      let first = subst (λ (xs : List ℕ). FirstRow b.bytes (row k.taken false) xs) (sym none) (subst (λ (xs : List ℕ). FirstRow xs (row k.taken false) []) (sym all) alone) in
      let end : IsEndOf left' b.bytes = (k.taken, k.split ∙ ap (λ (xs : List ℕ). k.taken ++ xs) (f.0 ∙ sym f.2)) in
      reads_row b (having rest') k.taken false le first end answer stops (gives k.taken false k.has (omega (arith, k.has.len, short)))

  pub answer_cut : (0 < t.len → b.number ≤ b.limit) → Fills filled.Fault rest left rest' left' → IsCutOff b (having rest')
  answer_cut room f = record {
    taken = k.taken;
    split = k.split ∙ ap (λ (xs : List ℕ). k.taken ++ xs) f;
    no_lf = k.has.no_lf;
    unrefused = part-rest b.limit b.number k.taken k.has.no_lf (omega (arith, k.has.len, short)) (λ some. room (omega (arith, k.has.len, some)));
  }

  -- the chunk was filled
  module _ (f : Fills filled.Bytes rest left rest' left') where
    split : b.bytes ≡ (k.taken ++ rest') ++ left'
    split = k.split ∙ ap (λ (xs : List ℕ). k.taken ++ xs) f ∙ sym (append_assoc k.taken rest' left')

    pub answer_none : IsEndOf left' b.bytes
    answer_none = (k.taken ++ rest', split)

    pub answer_many : (chunk : List ℕ) → b.limit < b.number → 0 < length rest' → IsRefused b (having chunk) faults.ManyLines
    answer_many chunk over some = record {
      refused = stream-many b.limit b.number b.bytes (omega (arith, ap length split, length-append (k.taken ++ rest') left', length-append k.taken rest', some)) over;
      taken = k.taken ++ rest';
      split = split;
    }

    -- the chunk had a part of the line
    part_split : (front back : List ℕ) → rest' ≡ front ++ back → b.bytes ≡ (k.taken ++ front) ++ (back ++ left')
    part_split front back e =
        split ∙ ap (λ (xs : List ℕ). (k.taken ++ xs) ++ left') e ∙ ap (λ (xs : List ℕ). xs ++ left') (sym (append_assoc k.taken front back)) ∙ append_assoc (k.taken ++ front) back left'

    pub took_part : (u : Text) (chunk : List ℕ) → TakesPart part.More k.taken rest' u chunk → Took b.bytes chunk left' u
    took_part u chunk p = record {
      taken = k.taken ++ rest';
      has = p.0;
      split = split ∙ ap (λ (xs : List ℕ). (k.taken ++ rest') ++ (xs ++ left')) (sym p.1);
    }

    pub answer_ended : (answer : Line) (u : Text) (chunk : List ℕ) → b.number ≤ b.limit → u.len ≤ most_bytes → TakesPart part.Ended k.taken rest' u chunk
        → ((taken : List ℕ) (ended : Bool) → HasTaken taken u → length taken ≤ most_bytes → Gives (reading b.number (row taken ended)) answer)
        → ((r : Rec) → answer ≡ line.Rec r → stopped ≡ None) → Reads b (having chunk) answer
    answer_ended answer u chunk le fits (front, e, has) gives stops =
        let bytes = k.taken ++ front in
        let first = subst (λ (xs : List ℕ). FirstRow xs (row bytes true) (chunk ++ left')) (sym (part_split front (10 ∷ chunk) e)) (ended_first bytes (chunk ++ left') has.no_lf) in
        reads_row b (having chunk) bytes true le first answer_none answer stops (gives bytes true has (omega (arith, has.len, fits)))

    pub answer_long : (u : Text) (chunk : List ℕ) → b.number ≤ b.limit → length rest' ≤ CHUNK_BYTES → TakesPart part.Long k.taken rest' u chunk → IsLong b (having chunk) b.number
    answer_long u chunk le few (front, back, e, no_lf, long) = record {
      is = record {
        refused = subst (λ (xs : List ℕ). stream_of b.limit b.number (rows_of xs) ≡ stream [] (failed (faults.LongLine b.number))) (sym (part_split front back e))
            (stream-long b.limit b.number (k.taken ++ front) (back ++ left') le (HasNoLf-append k.taken front k.has.no_lf no_lf) (omega (arith, length-append k.taken front, long)));
        taken = k.taken ++ rest';
        split = split;
      };
      near = omega (arith, length-append k.taken rest', k.has.len, short, few);
    }
