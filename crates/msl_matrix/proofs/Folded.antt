-- A fold goes from row to row.
use Rattle.std.proofs.Common.{◌≡◌, ◌<◌, ◌≤◌, ◌+◌, ◌*◌, ◌^◌, ℕ, ℤ, pos, List, ◌++◌, length, take, drop, All, FitsSigned, w64, refl, sym, ap, subst, ◌∙◌, arith}
use Rattle.std.specs.Global.{Vec}
use Rattle.std.proofs.Math.Seq.{take-add}
use Rattle.std.proofs.lemmas.List.{length-take, take_all}
use Rattle.std.proofs.lemmas.List.Elements.{All-take, All-drop, All-get_or, All-from_get_or}
use Rattle.msl_lists.specs.Whole.{Extent}
use Rattle.msl_ops.specs.declared.op.Op.{Op}
use Rattle.msl_ops.specs.Meaning.{fold_of}
use Rattle.msl_local.specs.Parts.{flat}
use Rattle.msl_local.proofs.FoldParts.{IsStep, fold_step}
use Rattle.msl_matrix.specs.Matrices.{AreBlocks, seen}
use Rattle.msl_matrix.proofs.Placed.{place}
use Rattle.msl_matrix.proofs.Seen.{long_seen}

module _ (m : Extent) (blocks : List (Vec ℤ)) (h : AreBlocks m blocks) (op : Op) (fit : All (FitsSigned w64) (flat blocks)) where
  fit_seen : All (FitsSigned w64) (seen m blocks)
  fit_seen = All-from_get_or (FitsSigned w64) (seen m blocks) (pos 0) (λ i lt.
      let p = place m blocks h i (subst (λ n. i < n) (long_seen m h.limits blocks) lt) in
      subst (FitsSigned w64) (sym (p.1.same blocks refl)) (All-get_or (FitsSigned w64) (flat blocks) p.0 (pos 0) p.1.within fit))

  pub row_step : (n w : ℕ) (xs : List ℤ) (total mine : ℤ) → xs ≡ take w (drop n (seen m blocks)) → total ≡ fold_of op.kind op.modulus (take n (seen m blocks)) → mine ≡ fold_of op.kind op.modulus xs
      → IsStep op (take n (seen m blocks)) (take w (drop n (seen m blocks))) total mine
  row_step n w xs total mine is before own =
      let all = seen m blocks in
      let few : length (take n all ++ take w (drop n all)) ≤ 2 ^ 60 =
      subst (λ (ys : List ℤ). length ys ≤ 2 ^ 60) (take-add n w all) (omega (arith, length-take (n + w) all, long_seen m h.limits blocks, h.limits.numbers)) in
      fold_step op (take n all) (take w (drop n all)) total mine few
      (All-take (FitsSigned w64) n all fit_seen) (All-take (FitsSigned w64) w (drop n all) (All-drop (FitsSigned w64) n all fit_seen))
      before (own ∙ ap (fold_of op.kind op.modulus) is)

  pub row_next : (n w : ℕ) → fold_of op.kind op.modulus (take n (seen m blocks) ++ take w (drop n (seen m blocks))) ≡ fold_of op.kind op.modulus (take (n + w) (seen m blocks))
  row_next n w = ap (fold_of op.kind op.modulus) (sym (take-add n w (seen m blocks)))

  pub all_rows : fold_of op.kind op.modulus (take (m.rows * m.cols) (seen m blocks)) ≡ fold_of op.kind op.modulus (seen m blocks)
  all_rows = ap (fold_of op.kind op.modulus) (take_all (m.rows * m.cols) (seen m blocks) (omega (arith, long_seen m h.limits blocks)))
