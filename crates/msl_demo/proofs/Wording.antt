-- The line, put together piece by piece.
use Rattle.std.proofs.Common.{◌≡◌, ℕ, ℤ, List, [], ◌++◌, ap, ◌∙◌, codes}
use Rattle.std.specs.Prelude.{decimal}
use Rattle.std.specs.Fmt.{signed_decimal}

-- one more piece behind a text
then : (piece old text : List ℕ) → old ≡ text → (new : List ℕ) → new ≡ old ++ piece → new ≡ text ++ piece
then piece old text is new grown = grown ∙ ap (λ (t : List ℕ). t ++ piece) is

pub worded : (n r m : ℕ) (z : ℤ) (s0 s1 s2 s3 s4 s5 s6 s7 s8 s9 : List ℕ)
    → s0 ≡ [] → s1 ≡ s0 ++ codes "demo: " → s2 ≡ s1 ++ decimal n → s3 ≡ s2 ++ codes " records in, " → s4 ≡ s3 ++ decimal r → s5 ≡ s4 ++ codes " records out, "
    → s6 ≡ s5 ++ decimal m → s7 ≡ s6 ++ codes " numbers, sum " → s8 ≡ s7 ++ signed_decimal z → s9 ≡ s8 ++ codes "\n"
    → s9 ≡ codes "demo: " ++ decimal n ++ codes " records in, " ++ decimal r ++ codes " records out, " ++ decimal m ++ codes " numbers, sum " ++ signed_decimal z ++ codes "\n"
worded n r m z s0 s1 s2 s3 s4 s5 s6 s7 s8 s9 e0 e1 e2 e3 e4 e5 e6 e7 e8 e9 =
    let t1 = then (codes "demo: ") s0 [] e0 s1 e1 in
    let t2 = then (decimal n) s1 _ t1 s2 e2 in
    let t3 = then (codes " records in, ") s2 _ t2 s3 e3 in
    let t4 = then (decimal r) s3 _ t3 s4 e4 in
    let t5 = then (codes " records out, ") s4 _ t4 s5 e5 in
    let t6 = then (decimal m) s5 _ t5 s6 e6 in
    let t7 = then (codes " numbers, sum ") s6 _ t6 s7 e7 in
    let t8 = then (signed_decimal z) s7 _ t7 s8 e8 in
    then (codes "\n") s8 _ t8 s9 e9
