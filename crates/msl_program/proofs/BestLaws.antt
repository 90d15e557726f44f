-- The first best of the visits is a best one.
use Rattle.std.proofs.Common.{◌≡◌, ℕ, Bool, true, false, ℤ, List, [], ◌∷◌, Option, Some, None, Result, Ok, Err, ◌⊎◌, inl, inr, refl, ap, subst, arith}
use Rattle.std.specs.Prelude.{◌≤ℤ◌, int_lt}
use Rattle.std.proofs.lemmas.Int.{ints}
use Rattle.msl_base.specs.declared.fault.Fault.{Fault}
use Rattle.msl_base.specs.Streams.{Record, Outcome}
use Rattle.msl_fun.specs.declared.funs.Fun.{Fun}
use Rattle.msl_program.specs.declared.script.BnbSpec.{BnbSpec}
use Rattle.msl_program.specs.Searches.{Kind, solution, inner, Visit, if_less, first_best}
use Rattle.msl_program.proofs.TreeLaws.{Has, some_one}

abbrev Best : Type 0
Best = Option (ℤ × Record)

-- what is said of an answer, where there was a best one before the visits
abbrev pub Said : Best → List Visit → Outcome → Type 0
Said best vs (Err f) = (y : Record) × Has vs (y, Err f)
Said best vs (Ok []) = (best ≡ None) × ((z : Record) (w : ℤ) → Has vs (z, Ok (solution w)) → ⊥) × ((z : Record) (f : Fault) → Has vs (z, Err f) → ⊥)
Said best vs (Ok (v ∷ y)) =
    ((best ≡ Some (v, y)) ⊎ Has vs (y, Ok (solution v))) × ((b : ℤ × Record) → best ≡ Some b → v ≤ℤ b.0) × ((z : Record) (w : ℤ) → Has vs (z, Ok (solution w)) → v ≤ℤ w)
    × ((z : Record) (f : Fault) → Has vs (z, Err f) → ⊥)

lower : (a b : ℤ) → int_lt a b ≡ true → a ≤ℤ b
lower a b h = grind (arith, ints)

not_lower : (a b : ℤ) → int_lt a b ≡ false → b ≤ℤ a
not_lower a b h = grind (arith, ints)

step : (a b c : ℤ) → a ≤ℤ b → b ≤ℤ c → a ≤ℤ c
step a b c p q = grind (arith, ints)

same : (a : ℤ) → a ≤ℤ a
same a = grind (arith, ints)

module _ (more : List Visit) where
  -- a visit that changes nothing
  keep : (best : Best) (y : Record) (k : Kind) (R : Outcome) → ((v : ℤ) → k ≡ solution v → ⊥) → Said best more R → Said best ((y, Ok k) ∷ more) R
  keep best y k (Err f) isnt s = (s.0, inr s.1)
  keep best y k (Ok []) isnt s = (s.0, (λ z w h. elim h [ inl e ↦ isnt w (let p : ◌≡◌ {A = Result Kind Fault} (Ok k) (Ok (solution w)) = ap (λ x. x.1) e in cc) | inr t ↦ s.1 z w t ]), (λ z f h. elim h [ inl e ↦ (let p : Ok k ≡ Err f = ap (λ x. x.1) e in cc) | inr t ↦ s.2 z f t ]))
  keep best y k (Ok (v ∷ x)) isnt s = (
    (elim s.0 [ inl e ↦ inl e | inr t ↦ inr (inr t) ]),
    s.1,
    (λ z w h. elim h [ inl e ↦ absurd (isnt w (let p : ◌≡◌ {A = Result Kind Fault} (Ok k) (Ok (solution w)) = ap (λ x. x.1) e in cc)) | inr t ↦ s.2 z w t ]),
    (λ z f h. elim h [ inl e ↦ (let p : Ok k ≡ Err f = ap (λ x. x.1) e in cc) | inr t ↦ s.3 z f t ]),
  )

  -- a solution that is the first, or better than the best
  take_it : (best : Best) (y : Record) (u : ℤ) (R : Outcome) → ((b : ℤ × Record) → best ≡ Some b → u ≤ℤ b.0) → Said (Some (u, y)) more R → Said best ((y, Ok (solution u)) ∷ more) R
  take_it best y u (Err f) low s = (s.0, inr s.1)
  take_it best y u (Ok []) low s = cc
  take_it best y u (Ok (v ∷ x)) low s = (
    (elim s.0 [ inl e ↦ inr (inl (let q : (u, y) ≡ (v, x) = some_one e in λ i. ((q i).1, Ok (solution (q i).0)))) | inr t ↦ inr (inr t) ]),
    (λ b e. step v u b.0 (s.1 (u, y) refl) (low b e)),
    (λ z w h. elim h [ inl e ↦ (let p : ◌≡◌ {A = Result Kind Fault} (Ok (solution u)) (Ok (solution w)) = ap (λ x. x.1) e in let r : u ≡ w = cc in subst (λ m. v ≤ℤ m) r (s.1 (u, y) refl)) | inr t ↦ s.2 z w t ]),
    (λ z f h. elim h [ inl e ↦ (let p : Ok (solution u) ≡ Err f = ap (λ x. x.1) e in cc) | inr t ↦ s.3 z f t ]),
  )

  -- a solution that is no better
  leave_it : (b : ℤ × Record) (y : Record) (u : ℤ) (R : Outcome) → b.0 ≤ℤ u → Said (Some b) more R → Said (Some b) ((y, Ok (solution u)) ∷ more) R
  leave_it b y u (Err f) low s = (s.0, inr s.1)
  leave_it b y u (Ok []) low s = cc
  leave_it b y u (Ok (v ∷ x)) low s = (
    (elim s.0 [ inl e ↦ inl e | inr t ↦ inr (inr t) ]),
    s.1,
    (λ z w h. elim h [ inl e ↦ (let p : ◌≡◌ {A = Result Kind Fault} (Ok (solution u)) (Ok (solution w)) = ap (λ x. x.1) e in let r : u ≡ w = cc in subst (λ m. v ≤ℤ m) r (step v b.0 u (s.1 b refl) low)) | inr t ↦ s.2 z w t ]),
    (λ z f h. elim h [ inl e ↦ (let p : Ok (solution u) ≡ Err f = ap (λ x. x.1) e in cc) | inr t ↦ s.3 z f t ]),
  )

module _ (funs : List Fun) (b : BnbSpec) (stage : ℕ) where
  choose : (more : List Visit) (a : ℤ × Record) (y : Record) (u : ℤ) (R : Outcome) (t : Bool) → int_lt u a.0 ≡ t → Said (if_less funs b stage t u y a) more R
      → Said (Some a) ((y, Ok (solution u)) ∷ more) R
  choose more a y u R true e s = take_it more (Some a) y u R (λ d f. let p : a ≡ d = some_one f in subst (λ x. u ≤ℤ x.0) p (lower u a.0 e)) s
  choose more a y u R false e s = leave_it more a y u R (not_lower u a.0 e) s

  pub said : (best : Best) (vs : List Visit) → Said best vs (first_best funs b stage best vs)
  said None [] = (refl, (λ z w h. h), (λ z f h. h))
  said (Some a) [] = (inl refl, (λ d e. let p : a ≡ d = some_one e in subst (λ x. a.0 ≤ℤ x.0) p (same a.0)), (λ z w h. absurd h), (λ z f h. h))
  said None ((y, Err f) ∷ more) = (y, inl refl)
  said (Some a) ((y, Err f) ∷ more) = (y, inl refl)
  said None ((y, Ok (solution u)) ∷ more) = take_it more None y u (first_best funs b stage (Some (u, y)) more) (λ d e. cc) (said (Some (u, y)) more)
  said None ((y, Ok (inner low xs)) ∷ more) = keep more None y (inner low xs) (first_best funs b stage None more) (λ v e. cc) (said None more)
  said (Some a) ((y, Ok (solution u)) ∷ more) =
      let best = if_less funs b stage (int_lt u a.0) u y a in choose more a y u (first_best funs b stage best more) (int_lt u a.0) refl (said best more)
  said (Some a) ((y, Ok (inner low xs)) ∷ more) = keep more (Some a) y (inner low xs) (first_best funs b stage (Some a) more) (λ v e. cc) (said (Some a) more)
