use Rattle.std.proofs.Common.{ap, ◌∙◌, w64}
use Rattle.std.specs.Int.{bit_at, cast_unsigned}
use Rattle.std.specs.Int.Bits.{bit_and, bit_or, bit_xor, and_lt}
use Rattle.std.proofs.lemmas.Int.{of_z-to_z}
use Rattle.std.proofs.lemmas.Nat.{or_lt, xor_lt}
use Rattle.std.proofs.lemmas.Nat.Bits.{bit_at_and, bit_at_or, bit_at_xor}
use Rattle.msl_ops.specs.Keeping.{bits_below}
use Rattle.msl_ops.proofs.laws.bits.Goals as goal

pub returns-clause-and : goal.returns-clause-and
returns-clause-and c = λ m a b i f g. let x = cast_unsigned w64 a in let y = cast_unsigned w64 b in
    ap (λ n. bit_at n i) (of_z-to_z w64 (bit_and x y) (and_lt 64 x y (bits_below a f) (bits_below b g))) ∙ bit_at_and x y i

pub returns-clause-or : goal.returns-clause-or
returns-clause-or c = λ m a b i f g. let x = cast_unsigned w64 a in let y = cast_unsigned w64 b in
    ap (λ n. bit_at n i) (of_z-to_z w64 (bit_or x y) (or_lt 64 x y (bits_below a f) (bits_below b g))) ∙ bit_at_or x y i

pub returns-clause-xor : goal.returns-clause-xor
returns-clause-xor c = λ m a b i f g. let x = cast_unsigned w64 a in let y = cast_unsigned w64 b in
    ap (λ n. bit_at n i) (of_z-to_z w64 (bit_xor x y) (xor_lt 64 x y (bits_below a f) (bits_below b g))) ∙ bit_at_xor x y i
