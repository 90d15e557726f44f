-- The texts of messages.
use Rattle.std.proofs.Common.{arith, ◌≡◌, ℕ, ◌-◌, ◌≤◌, List, [], ◌∷◌, ◌++◌, length, take, drop, get_or, ap, sym, subst, inl, inr, ◌∙◌, append_assoc, append-nil, decimal}
use Rattle.std.proofs.Math.Seq.{take-length}
use Rattle.std.proofs.KnownBytes.{Appends-kept}
use Rattle.std.specs.Io.KnownBytes.{Appends, Keeps}
use Rattle.std.specs.Prelude.{Option, Result, Ok, Err, OnOk}
use Rattle.msl_io.specs.Causes.{HasCause, Rose}
use Rattle.msl_run.specs.Causes.{count}
use Rattle.msl_run.specs.Messages.{dotted, message_of, path_text, Tells}
use Rattle.msl_run.specs.declared.status.Status.{Status}

path_text-cons : (child : ℕ) (steps : List ℕ) → path_text (child ∷ steps) ≡ decimal child ++ dotted steps
path_text-cons child [] = sym (append-nil (decimal child))
path_text-cons child (next ∷ steps) = ap (λ (t : List ℕ). decimal child ++ 46 ∷ t) (path_text-cons next steps)

pub path_text-split : (steps : List ℕ) → 1 ≤ length steps → path_text steps ≡ decimal (get_or steps 0 0) ++ dotted (take (length steps - 1) (drop 1 steps))
path_text-split [] some = absurd (omega arith)
path_text-split (child ∷ steps) some =
    let size : length steps ≡ length (child ∷ steps) - 1 = omega arith in
    path_text-cons child steps ∙ ap (λ (t : List ℕ). decimal child ++ dotted t) (sym (take-length steps) ∙ ap (λ (k : ℕ). take k steps) size)

-- what a message says of a record's shape, piece by piece
pub pieces : (m p d c a g b w e n : List ℕ) → ((((((((m ++ p) ++ d) ++ c) ++ a) ++ g) ++ b) ++ w) ++ e) ++ n ≡ m ++ ((p ++ (d ++ (c ++ (a ++ (g ++ (b ++ (w ++ e))))))) ++ n)
pieces m p d c a g b w e n = simp append_assoc

-- what a message says of the processes, piece by piece
pub need_pieces : (m n d h p e : List ℕ) → ((((m ++ n) ++ d) ++ h) ++ p) ++ e ≡ m ++ ((n ++ (d ++ (h ++ p))) ++ e)
need_pieces m n d h p e = simp append_assoc

-- a message that was written, and then flushed or not
pub told : {T E : Type 0} (status : Status) (h k l flushed : Option (List ℕ)) (m : List ℕ) (n0 n1 n2 : ℕ) (r : Result T E) → m ≡ message_of status → Appends h k m → n1 ≡ n0 → Keeps k l → OnOk r (flushed ≡ l) → HasCause n1 n2 r
    → Tells status h l flushed (count n0 n2)
told status h k l flushed m n0 n1 n2 (Ok x) is wrote same kept done cause = inl (subst (Appends h l) is (Appends-kept h k l m wrote kept), done, cause ∙ same)
told status h k l flushed m n0 n1 n2 (Err e) is wrote same kept done cause =
    inr ((message_of status, [], sym (append-nil (message_of status)), subst (Appends h l) is (Appends-kept h k l m wrote kept)), subst (λ (n : ℕ). Rose n n2) same cause)
