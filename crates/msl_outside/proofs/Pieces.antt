-- What a read of some bytes gives.
use Rattle.std.proofs.Common.{arith, ◌≡◌, ℕ, ◌+◌, ◌-◌, ◌≤◌, List, ◌++◌, length, take, drop, ap, sym, ◌∙◌, take-append-drop, length-drop}
use Rattle.std.proofs.Math.Seq.{take-length}
use Rattle.std.proofs.lemmas.List.{length-take-le, take_at, drop-drop}

-- all that is behind a place
pub rest_of : (n : ℕ) (xs : List ℕ) → take (length xs - n) (drop n xs) ≡ drop n xs
rest_of n xs = ap (λ (k : ℕ). take k (drop n xs)) (sym (length-drop n xs)) ∙ take-length (drop n xs)

-- the bytes that a read took off stand in front of the buffer
pub read_piece : (bytes buf piece : List ℕ) (at n : ℕ) → piece ≡ take n (drop at bytes) → at + n ≤ length bytes → drop at bytes ≡ take n (piece ++ drop n buf) ++ drop (at + n) bytes
read_piece bytes buf piece at n exact within =
    let size : n ≤ length (drop at bytes) = omega (arith, length-drop at bytes) in
    let long : length piece ≡ n = ap length exact ∙ length-take-le n (drop at bytes) size in
    sym (take-append-drop n (drop at bytes))
    ∙ ap (λ (t : List ℕ). t ++ drop n (drop at bytes)) (sym exact ∙ sym (take_at piece (drop n buf) n long))
    ∙ ap (λ (t : List ℕ). take n (piece ++ drop n buf) ++ t) (drop-drop n at bytes)
