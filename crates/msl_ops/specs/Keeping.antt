-- Each row of the table keeps the laws. These are proofs, which the impl of the trait cites; no contract does.
use Rattle.std.specs.Prelude.{ℕ, zero, suc, ◌≡◌, ◌+◌, ◌*◌, ◌%◌, ◌^◌, ◌<◌, ◌≤◌, ◌-◌, ℤ, pos, negsuc, ◌+ℤ◌, ◌*ℤ◌, ◌≤ℤ◌, ◌<ℤ◌, unsigned_abs, List, [], ◌∷◌, length, All, FitsSigned, bit_and, bit_or, bit_xor}
use Rattle.std.specs.Int.{w64, w128, cast_signed, cast_unsigned, int_min, int_max, int_rem_euclid, int_bit_and, int_bit_or, int_bit_xor, IsGcd}
use Rattle.std.specs.Int.Bits.{and_lt, xor_assoc, or_zero_l, or_zero_r, xor_zero_l, xor_zero_r}
use Rattle.std.proofs.Common.{refl, sym, subst, ap, ◌∙◌, arith, mod-lt, mod-eq_of_lt, mul_assoc, le_trans, one-mul, mul-one, add_assoc}
use Rattle.std.proofs.Math.Facts.{sfits_to_z, Fits-of_z, Fits-of_lt, sfits_widen}
use Rattle.std.proofs.Math.Nat.{add-mod-mod, mod-add-mod, mod-le}
use Rattle.std.proofs.lemmas.Int.{ints, clamps, to_z-of_z, of_z-to_z}
use Rattle.std.proofs.lemmas.Nat.{and_assoc, and_comm, and_mask, or_lt, xor_lt, mul-mod_first, mul-mod_second}
use Rattle.std.proofs.lemmas.Nat.Bits.{bit_at_or, same_from_bits}
use Rattle.std.proofs.lemmas.List.Elements.{All-head, All-tail}
use Rattle.std.proofs.lemmas.Nat.Gcd.{dvd_trans, same_from_IsGcd, IsGcd-from_zero, IsGcd-swap}
use Rattle.msl_ops.specs.declared.op.OpKind.{OpKind}
use Rattle.msl_ops.specs.declared.op.OpKind.TheVariants.{Sum, Min, Max, And, Or, Xor, Gcd, AddMod, MulMod}
use Rattle.msl_ops.specs.Table.{greatest_modulus}
use Rattle.msl_ops.specs.Gcd.{gcd_in, gcd, gcd_is}
use Rattle.msl_ops.specs.Meaning.{unit_of, lift_of, combine_of, IsInDomainOf}
use Rattle.msl_ops.specs.Lawful.{IsLawful, folded}

-- ---- folds

pub fold_stays_in : (IsInDomain : ℤ → Type 0) (lift : ℤ → ℤ) (combine : ℤ → ℤ → ℤ) → ((x : ℤ) → FitsSigned w64 x → IsInDomain (lift x)) → ((a b : ℤ) → IsInDomain a → IsInDomain b → IsInDomain (combine a b)) → (a : ℤ) (xs : List ℤ) → IsInDomain a → All (FitsSigned w64) xs → IsInDomain (folded a lift combine xs)
fold_stays_in IsInDomain lift combine lifts closed a [] h all = h
fold_stays_in IsInDomain lift combine lifts closed a (x ∷ xs) h all =
    fold_stays_in IsInDomain lift combine lifts closed (combine a (lift x)) xs
    (closed a (lift x) h (lifts x (All-head (FitsSigned w64) x xs all)))
    (All-tail (FitsSigned w64) x xs all)

record IsWithin (k : ℕ) (a : ℤ) : Type 0 where
  low : pos 0 ≤ℤ (a +ℤ pos k)
  high : a ≤ℤ pos k

sum_within : (k : ℕ) (a : ℤ) (xs : List ℤ) → IsWithin k a → All (FitsSigned w64) xs → IsWithin (k + length xs * 2 ^ 63) (folded a (λ x. x) ◌+ℤ◌ xs)
sum_within k a [] h all = record { low = omega (arith, ints, h.low); high = omega (arith, ints, h.high) }
sum_within k a (x ∷ xs) h all =
    let f = All-head (FitsSigned w64) x xs all in
    let more : IsWithin (k + 2 ^ 63) (a +ℤ x) = record { low = omega (arith, ints, h.low, f); high = omega (arith, ints, h.high, f) } in
    let rest = sum_within (k + 2 ^ 63) (a +ℤ x) xs more (All-tail (FitsSigned w64) x xs all) in
    record { low = omega (arith, ints, rest.low); high = omega (arith, ints, rest.high) }

pub sum_fits : (xs : List ℤ) → length xs ≤ 2 ^ 60 → All (FitsSigned w64) xs → FitsSigned w128 (folded (pos 0) (λ x. x) ◌+ℤ◌ xs)
sum_fits xs few all =
    let h = sum_within 0 (pos 0) xs (record { low = omega (arith, ints); high = omega (arith, ints) }) all in
    omega (arith, ints, h.low, h.high)

-- ---- rows whose domain is within 128 bits

lawful_within : (IsInDomain : ℤ → Type 0) (unit : ℤ) (lift : ℤ → ℤ) (combine : ℤ → ℤ → ℤ)
    → ((x : ℤ) → FitsSigned w64 x → IsInDomain (lift x))
    → ((a b : ℤ) → IsInDomain a → IsInDomain b → IsInDomain (combine a b))
    → IsInDomain unit
    → ((a : ℤ) → IsInDomain a → combine unit a ≡ a)
    → ((a : ℤ) → IsInDomain a → combine a unit ≡ a)
    → ((a b c : ℤ) → IsInDomain a → IsInDomain b → IsInDomain c → combine (combine a b) c ≡ combine a (combine b c))
    → ((a : ℤ) → IsInDomain a → FitsSigned w128 a)
    → IsLawful IsInDomain unit lift combine
lawful_within IsInDomain unit lift combine lifts closed has_unit left_unit right_unit associative fits = record {
  lifts = lifts;
  closed = closed;
  has_unit = has_unit;
  left_unit = left_unit;
  right_unit = right_unit;
  associative = associative;
  fits = λ xs few all. fits (folded unit lift combine xs) (fold_stays_in IsInDomain lift combine lifts closed unit xs has_unit all);
}

wider : (a : ℤ) → FitsSigned w64 a → FitsSigned w128 a
wider a f = sfits_widen tt f

-- ---- least and greatest

least_lawful : IsLawful (FitsSigned w64) (pos 9223372036854775807) (λ x. x) int_min
least_lawful = lawful_within (FitsSigned w64) (pos 9223372036854775807) (λ x. x) int_min
    (λ x f. f)
    (λ a b f g. omega (arith, ints, clamps))
    (omega (arith, ints))
    (λ a f. omega (arith, ints, clamps))
    (λ a f. omega (arith, ints, clamps))
    (λ a b c f g h. omega (arith, ints, clamps))
    wider

greatest_lawful : IsLawful (FitsSigned w64) (negsuc 9223372036854775807) (λ x. x) int_max
greatest_lawful = lawful_within (FitsSigned w64) (negsuc 9223372036854775807) (λ x. x) int_max
    (λ x f. f)
    (λ a b f g. omega (arith, ints, clamps))
    (omega (arith, ints))
    (λ a f. omega (arith, ints, clamps))
    (λ a f. omega (arith, ints, clamps))
    (λ a b c f g h. omega (arith, ints, clamps))
    wider

-- ---- bits

or_assoc : (a b c : ℕ) → bit_or (bit_or a b) c ≡ bit_or a (bit_or b c)
or_assoc a b c = same_from_bits (bit_or (bit_or a b) c) (bit_or a (bit_or b c)) (λ i.
    omega (arith, bit_at_or (bit_or a b) c i, bit_at_or a b i, bit_at_or a (bit_or b c) i, bit_at_or b c i))

-- an operation on 64 bits, on signed numbers
on_bits : (ℕ → ℕ → ℕ) → ℤ → ℤ → ℤ
on_bits f a b = cast_signed w64 (f (cast_unsigned w64 a) (cast_unsigned w64 b))

pub bits_below : (a : ℤ) → FitsSigned w64 a → cast_unsigned w64 a < 2 ^ 64
bits_below a f = (Fits-of_z {w = w64} {z = a} f).fits

bits_lawful : (f : ℕ → ℕ → ℕ) (unit : ℤ)
    → FitsSigned w64 unit
    → ((x y : ℕ) → x < 2 ^ 64 → y < 2 ^ 64 → f x y < 2 ^ 64)
    → ((x y z : ℕ) → f (f x y) z ≡ f x (f y z))
    → ((x : ℕ) → x < 2 ^ 64 → f (cast_unsigned w64 unit) x ≡ x)
    → ((x : ℕ) → x < 2 ^ 64 → f x (cast_unsigned w64 unit) ≡ x)
    → IsLawful (FitsSigned w64) unit (λ x. x) (λ a b. cast_signed w64 (f (cast_unsigned w64 a) (cast_unsigned w64 b)))
bits_lawful f unit has_unit below assoc left right = lawful_within (FitsSigned w64) unit (λ x. x) (λ a b. cast_signed w64 (f (cast_unsigned w64 a) (cast_unsigned w64 b)))
    (λ x h. h)
    (λ a b p q. sfits_to_z (Fits-of_lt (below (cast_unsigned w64 a) (cast_unsigned w64 b) (bits_below a p) (bits_below b q))))
    has_unit
    (λ a p. ap (cast_signed w64) (left (cast_unsigned w64 a) (bits_below a p)) ∙ to_z-of_z w64 a p)
    (λ a p. ap (cast_signed w64) (right (cast_unsigned w64 a) (bits_below a p)) ∙ to_z-of_z w64 a p)
    (λ a b c p q r. let x = cast_unsigned w64 a in let y = cast_unsigned w64 b in let z = cast_unsigned w64 c in
    ap (λ n. cast_signed w64 (f n z)) (of_z-to_z w64 (f x y) (below x y (bits_below a p) (bits_below b q)))
    ∙ ap (cast_signed w64) (assoc x y z)
    ∙ sym (ap (λ n. cast_signed w64 (f x n)) (of_z-to_z w64 (f y z) (below y z (bits_below b q) (bits_below c r)))))
    wider

and_ones : (x : ℕ) → x < 2 ^ 64 → bit_and x (2 ^ 64 - 1) ≡ x
and_ones x h = and_mask x 64 ∙ mod-eq_of_lt h

and_lawful : IsLawful (FitsSigned w64) (negsuc 0) (λ x. x) (int_bit_and w64)
and_lawful = bits_lawful bit_and (negsuc 0) (omega (arith, ints)) (and_lt 64) (λ x y z. and_assoc z x y)
    (λ x h. and_comm (2 ^ 64 - 1) x ∙ and_ones x h) and_ones

or_lawful : IsLawful (FitsSigned w64) (pos 0) (λ x. x) (int_bit_or w64)
or_lawful = bits_lawful bit_or (pos 0) (omega (arith, ints)) (or_lt 64) or_assoc (λ x h. or_zero_l x) (λ x h. or_zero_r x)

xor_lawful : IsLawful (FitsSigned w64) (pos 0) (λ x. x) (int_bit_xor w64)
xor_lawful = bits_lawful bit_xor (pos 0) (omega (arith, ints)) (xor_lt 64) xor_assoc (λ x h. xor_zero_l x) (λ x h. xor_zero_r x)

-- ---- greatest common divisors

gcd_in_le : (k n a b : ℕ) → a ≤ k → b ≤ k → gcd_in n a b ≤ k
gcd_in_le k zero a b p q = p
gcd_in_le k (suc n) a zero p q = p
gcd_in_le k (suc n) a (suc b) p q = gcd_in_le k n (suc b) (a % suc b) q (le_trans (mod-le a (suc b)) p)

pub gcd_zero : (a : ℕ) → gcd 0 a ≡ a
gcd_zero a = same_from_IsGcd 0 a (gcd 0 a) a (gcd_is 0 a) (IsGcd-swap a 0 a (IsGcd-from_zero a 0 refl))

gcd_assoc : (a b c : ℕ) → gcd (gcd a b) c ≡ gcd a (gcd b c)
gcd_assoc a b c =
    let g = gcd (gcd a b) c in
    let ab = gcd_is a b in
    let bc = gcd_is b c in
    let abc = gcd_is (gcd a b) c in
    let is : IsGcd a (gcd b c) g = (dvd_trans g abc.0 ab.0, bc.2 g (dvd_trans g abc.0 ab.1) abc.1, λ d p q. abc.2 d (ab.2 d p (dvd_trans d q bc.0)) (dvd_trans d q bc.1)) in
    same_from_IsGcd a (gcd b c) g (gcd a (gcd b c)) is (gcd_is a (gcd b c))

gcd_lawful : (m : ℤ) → IsLawful (IsInDomainOf Gcd m) (pos 0) (λ x. pos (unsigned_abs x)) (λ a b. pos (gcd (unsigned_abs a) (unsigned_abs b)))
gcd_lawful m = lawful_within (IsInDomainOf Gcd m) (pos 0) (λ x. pos (unsigned_abs x)) (λ a b. pos (gcd (unsigned_abs a) (unsigned_abs b)))
    lifts closed (omega (arith, ints), omega (arith, ints)) left right (λ a b c p q r. ap pos (gcd_assoc (unsigned_abs a) (unsigned_abs b) (unsigned_abs c))) fits
  where
    lifts : (x : ℤ) → FitsSigned w64 x → IsInDomainOf Gcd m (pos (unsigned_abs x))
    lifts (pos n) f = (omega (arith, ints), omega (arith, ints))
    lifts (negsuc n) f = (omega (arith, ints), omega (arith, ints))

    size : (a : ℤ) → IsInDomainOf Gcd m a → unsigned_abs a ≤ 2 ^ 63
    size (pos n) h = omega (arith, ints, h.1)
    size (negsuc n) h = absurd (omega (arith, ints, h.0))

    closed : (a b : ℤ) → IsInDomainOf Gcd m a → IsInDomainOf Gcd m b → IsInDomainOf Gcd m (pos (gcd (unsigned_abs a) (unsigned_abs b)))
    closed a b p q =
        let h = gcd_in_le (2 ^ 63) (suc (unsigned_abs b)) (unsigned_abs a) (unsigned_abs b) (size a p) (size b q) in
        (omega (arith, ints), omega (arith, ints, h))

    left : (a : ℤ) → IsInDomainOf Gcd m a → pos (gcd 0 (unsigned_abs a)) ≡ a
    left (pos n) h = ap pos (gcd_zero n)
    left (negsuc n) h = absurd (omega (arith, ints, h.0))

    right : (a : ℤ) → IsInDomainOf Gcd m a → pos (gcd (unsigned_abs a) 0) ≡ a
    right (pos n) h = refl
    right (negsuc n) h = absurd (omega (arith, ints, h.0))

    fits : (a : ℤ) → IsInDomainOf Gcd m a → FitsSigned w128 a
    fits a h = omega (arith, ints, h.0, h.1)

-- ---- remainders

-- an operation on naturals, and then the remainder
residues_lawful : (n : ℕ) (f : ℕ → ℕ → ℕ) (g : ℤ → ℤ → ℤ) (unit : ℕ)
    → 0 < n
    → n ≤ 2 ^ 63
    → unit < n
    → ((a b : ℕ) → g (pos a) (pos b) ≡ pos (f a b))
    → ((a b c : ℕ) → f (f a b % n) c % n ≡ f a (f b c % n) % n)
    → ((a : ℕ) → f unit a % n ≡ a % n)
    → ((a : ℕ) → f a unit % n ≡ a % n)
    → IsLawful (λ z. (pos 0 ≤ℤ z) × (z <ℤ pos n)) (pos unit) (λ x. int_rem_euclid x (pos n)) (λ a b. int_rem_euclid (g a b) (pos n))
residues_lawful n f g unit some most below_n is assoc left_n right_n =
    lawful_within IsResidue (pos unit) (λ x. int_rem_euclid x (pos n)) (λ a b. int_rem_euclid (g a b) (pos n))
    lifts closed (omega (arith, ints), omega (arith, ints)) left right associative fits
  where
    IsResidue : ℤ → Type 0
    IsResidue z = (pos 0 ≤ℤ z) × (z <ℤ pos n)

    residue : (a : ℕ) → a < n → IsResidue (pos a)
    residue a h = (omega (arith, ints), omega (arith, ints))

    lifts : (x : ℤ) → FitsSigned w64 x → IsResidue (int_rem_euclid x (pos n))
    lifts (pos a) h = residue (a % n) (mod-lt a some)
    lifts (negsuc a) h = residue (n - 1 - a % n) (omega arith)

    closed : (a b : ℤ) → IsResidue a → IsResidue b → IsResidue (int_rem_euclid (g a b) (pos n))
    closed (pos a) (pos b) p q = let P : ℤ → Type 0 = λ z. IsResidue (int_rem_euclid z (pos n)) in subst P (sym (is a b)) (residue (f a b % n) (mod-lt (f a b) some))
    closed (pos a) (negsuc b) p q = absurd (omega (arith, ints, q.0))
    closed (negsuc a) b p q = absurd (omega (arith, ints, p.0))

    same : (a : ℕ) → IsResidue (pos a) → pos (a % n) ≡ pos a
    same a h = let below : a < n = omega (arith, ints, h.1) in ap pos (mod-eq_of_lt below)

    left : (a : ℤ) → IsResidue a → int_rem_euclid (g (pos unit) a) (pos n) ≡ a
    left (pos a) h = ap (λ z. int_rem_euclid z (pos n)) (is unit a) ∙ ap pos (left_n a) ∙ same a h
    left (negsuc a) h = absurd (omega (arith, ints, h.0))

    right : (a : ℤ) → IsResidue a → int_rem_euclid (g a (pos unit)) (pos n) ≡ a
    right (pos a) h = ap (λ z. int_rem_euclid z (pos n)) (is a unit) ∙ ap pos (right_n a) ∙ same a h
    right (negsuc a) h = absurd (omega (arith, ints, h.0))

    associative : (a b c : ℤ) → IsResidue a → IsResidue b → IsResidue c → int_rem_euclid (g (int_rem_euclid (g a b) (pos n)) c) (pos n) ≡ int_rem_euclid (g a (int_rem_euclid (g b c) (pos n))) (pos n)
    associative (pos a) (pos b) (pos c) p q r =
        ap (λ z. int_rem_euclid (g (int_rem_euclid z (pos n)) (pos c)) (pos n)) (is a b)
        ∙ ap (λ z. int_rem_euclid z (pos n)) (is (f a b % n) c)
        ∙ ap pos (assoc a b c)
        ∙ sym (ap (λ z. int_rem_euclid (g (pos a) (int_rem_euclid z (pos n))) (pos n)) (is b c)
        ∙ ap (λ z. int_rem_euclid z (pos n)) (is a (f b c % n)))
    associative (negsuc a) b c p q r = absurd (omega (arith, ints, p.0))
    associative (pos a) (negsuc b) c p q r = absurd (omega (arith, ints, q.0))
    associative (pos a) (pos b) (negsuc c) p q r = absurd (omega (arith, ints, r.0))

    fits : (a : ℤ) → IsResidue a → FitsSigned w128 a
    fits a h = omega (arith, ints, h.0, h.1)

pub lawful_of : (kind : OpKind) (m : ℤ) → pos 1 ≤ℤ m → m ≤ℤ greatest_modulus kind → IsLawful (IsInDomainOf kind m) (unit_of kind m) (lift_of kind m) (combine_of kind m)
lawful_of Sum m least most = record {
  lifts = λ x f. tt;
  closed = λ a b p q. tt;
  has_unit = tt;
  left_unit = λ a p. omega (arith, ints);
  right_unit = λ a p. omega (arith, ints);
  associative = λ a b c p q r. omega (arith, ints);
  fits = sum_fits;
}
lawful_of Min m least most = least_lawful
lawful_of Max m least most = greatest_lawful
lawful_of And m least most = and_lawful
lawful_of Or m least most = or_lawful
lawful_of Xor m least most = xor_lawful
lawful_of Gcd m least most = gcd_lawful m
lawful_of AddMod (pos n) least most = residues_lawful n ◌+◌ ◌+ℤ◌ 0 (omega (arith, ints)) (omega (arith, ints)) (omega (arith, ints)) (λ a b. refl)
    (λ a b c. mod-add-mod (a + b) n c ∙ ap (λ x. x % n) (add_assoc a b c) ∙ sym (add-mod-mod a (b + c) n))
    (λ a. ap (λ x. x % n) (omega arith)) (λ a. ap (λ x. x % n) (omega arith))
lawful_of AddMod (negsuc n) least most = absurd (omega (arith, ints))
lawful_of MulMod (pos n) least most = residues_lawful n ◌*◌ ◌*ℤ◌ (1 % n) (omega (arith, ints)) (omega (arith, ints)) (mod-lt 1 (omega (arith, ints))) (λ a b. refl)
    (λ a b c. mul-mod_first (a * b) c n ∙ ap (λ x. x % n) (mul_assoc a b c) ∙ sym (mul-mod_second a (b * c) n))
    (λ a. mul-mod_first 1 a n ∙ ap (λ x. x % n) (one-mul a)) (λ a. mul-mod_second a 1 n ∙ ap (λ x. x % n) (mul-one a))
lawful_of MulMod (negsuc n) least most = absurd (omega (arith, ints))
