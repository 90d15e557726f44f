-- Two lists written one behind the other into a longer one.
use Rattle.std.proofs.Common.{◌≡◌, ◌+◌, ◌-◌, ◌*◌, ℕ, List, ◌++◌, length, take, sym, ap, ◌∙◌, arith}
use Rattle.std.proofs.lemmas.List.{length-append}
use Rattle.std.proofs.lemmas.Slice.{take-put_mid}
use Rattle.std.proofs.Math.Seq.{take-append_seam}
use borrow.Rule.Slice.PartMut.{put_mid}

pub two_parts : {A : Type 0} (a b rest x y : List A) → x ≡ a → y ≡ b → take (length a + length b) (put_mid (length a) (length a + length b - length a) (x ++ rest) y) ≡ a ++ b
two_parts {A} a b rest x y is also =
    take-put_mid (length a) (length a + length b - length a) (x ++ rest) y (length a + length b) (omega (arith, ap length also)) (omega (arith, ap length is, length-append x rest))
    ∙ ap (λ (n : ℕ). take n (x ++ rest) ++ y) (sym (ap length is))
    ∙ ap (λ (xs : List A). xs ++ y) (take-append_seam x rest)
    ∙ ap (λ (xs : List A). xs ++ y) is
    ∙ ap (λ (ys : List A). a ++ ys) also

pub one_more : (j w p q r : ℕ) → p ≡ j * w → q ≡ w → r ≡ p + q → r ≡ (j + 1) * w
one_more j w p q r e f g = omega (arith, e, f, g)
