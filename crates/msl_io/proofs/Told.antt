-- What follows of what objects tell, from call to call.
use Rattle.std.proofs.Common.{◌≡◌, List, ℕ, ◌++◌, Option, Some, None}
use Rattle.std.specs.Io.KnownBytes.{Appends, Keeps}
use Rattle.msl_outside.specs.Known.{Told}
use Rattle.msl_io.specs.Text.{AppendsPart, AppendsFront}

-- one call after another
pub told_chain : {T : Type 0} {P Q R : T → T → Type 0} (a b c : Option T) → Told a b P → Told b c Q → ((x y z : T) → P x y → Q y z → R x z) → Told a c R
told_chain None b c p q f = tt
told_chain (Some x) None c p q f = absurd p
told_chain (Some x) (Some y) None p q f = absurd q
told_chain (Some x) (Some y) (Some z) p q f = f x y z p q

pub told_map : {T : Type 0} {P Q : T → T → Type 0} (a b : Option T) → Told a b P → ((x y : T) → P x y → Q x y) → Told a b Q
told_map None b p f = tt
told_map (Some x) None p f = absurd p
told_map (Some x) (Some y) p f = f x y p

-- no call
pub told_same : {T : Type 0} (P : T → T → Type 0) (a : Option T) → ((x : T) → P x x) → Told a a P
told_same P None f = tt
told_same P (Some x) f = f x

pub told_appends : (a b : Option (List ℕ)) (x : List ℕ) → Appends a b x → Told a b (λ o n. n ≡ o ++ x)
told_appends None b x p = tt
told_appends (Some o) None x p = absurd p
told_appends (Some o) (Some n) x p = p

pub told_keeps : (a b : Option (List ℕ)) → Keeps a b → Told a b (λ o n. n ≡ o)
told_keeps None b p = tt
told_keeps (Some o) None p = absurd p
told_keeps (Some o) (Some n) p = p

-- in part
pub told_part : (a b : Option (List ℕ)) (x : List ℕ) → AppendsPart a b x → Told a b (λ o n. AppendsFront (Some o) (Some n) x)
told_part None b x p = tt
told_part (Some o) None x (front, back, split, some, p) = absurd p
told_part (Some o) (Some n) x (front, back, split, some, p) = (front, back, split, p)

-- two objects go on side by side
pub told_both : {S T : Type 0} {G H : S → S → T → T → Type 0} {Q : S → S → Type 0} {R : T → T → Type 0} (a b c : Option S) (h k l : Option T) → Told a b (λ x y. Told h k (G x y)) → Told b c Q → Told k l R
    → ((x y z : S) (o n m : T) → G x y o n → Q y z → R n m → H x z o m) → Told a c (λ x z. Told h l (H x z))
told_both a b c h k l p q r f = told_chain a b c p q (λ x y z g u. told_chain h k l g r (λ o n m v w. f x y z o n m v u w))
