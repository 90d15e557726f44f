use Rattle.std.proofs.Common.{◌≡◌, ◌<◌, ◌≤◌, ◌+◌, ◌-◌, ◌*◌, ◌%◌, ℕ, length, refl, ap, ◌∙◌, arith, inl, inr, ◌⊎◌}
use Rattle.std.proofs.lemmas.Bool.{cases_lt}
use Rattle.std.proofs.lemmas.Nat.{mod_below, mod-mul-add}
use Rattle.msl_fabric.proofs.moves.rotate_blocks.Goals as goal

-- what is less than twice a number goes round it once at most
round_once : (n x : ℕ) → x < n + n → ((x < n) × (x % n ≡ x)) ⊎ ((n ≤ x) × (x % n + n ≡ x))
round_once n x lt = go (cases_lt x n)
  where
    go : (x < n) ⊎ (n ≤ x) → ((x < n) × (x % n ≡ x)) ⊎ ((n ≤ x) × (x % n + n ≡ x))
    go (inl h) = inl (h, ap (λ y. y % n) (omega arith) ∙ mod-mul-add 0 n x h)
    go (inr h) =
        let once : x ≡ 1 * n + (x - n) = omega (arith, h) in
        let e : x % n ≡ x - n = ap (λ y. y % n) once ∙ mod-mul-add 1 n (x - n) (omega (arith, lt, h)) in
        inr (h, omega (arith, e, h))

apart : (n by i j : ℕ) → by < n → i < n → j < n → (i + by) % n ≡ (j + by) % n → i ≡ j
apart n by i j lt p q same = go (round_once n (i + by) (omega (arith, lt, p))) (round_once n (j + by) (omega (arith, lt, q)))
  where
    go : ((i + by < n) × ((i + by) % n ≡ i + by)) ⊎ ((n ≤ i + by) × ((i + by) % n + n ≡ i + by)) → ((j + by < n) × ((j + by) % n ≡ j + by)) ⊎ ((n ≤ j + by) × ((j + by) % n + n ≡ j + by)) → i ≡ j
    go (inl a) (inl b) = omega (arith, a, b, same)
    go (inl a) (inr b) = omega (arith, a, b, same, p, q)
    go (inr a) (inl b) = omega (arith, a, b, same, p, q)
    go (inr a) (inr b) = omega (arith, a, b, same)

pub by_members-requires : goal.by_members-requires
by_members-requires g c =
    let n = length c.args.blocks.items in
    record {
      long = refl;
      within = λ i lt. mod_below (i + c.args.by) n (omega (arith, lt));
      apart = λ i j p q same. apart n c.args.by i j c.requires p q same;
    }
