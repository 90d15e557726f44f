-- A fold goes from part to part.
use Rattle.std.proofs.Common.{◌≡◌, ◌<◌, ◌≤◌, ◌+◌, ◌^◌, ℕ, ℤ, List, ◌++◌, length, take, All, FitsSigned, w64, sym, ap, subst, ◌∙◌, arith, take_all, length-take, pos, slice_index_or, to_z, of_z}
use Rattle.std.specs.Int.{w128}
use Rattle.std.specs.Global.{Vec}
use Rattle.std.proofs.lemmas.List.Elements.{All-append, All-take, All-drop, All-get_or}
use Rattle.msl_base.specs.Blocks.{begin}
use Rattle.msl_ops.specs.declared.op.Op.{Op}
use Rattle.msl_ops.specs.Meaning.{unit_of, lift_of, combine_of, IsInDomainOf, fold_of}
use Rattle.msl_ops.specs.Lawful.{IsLawful}
use Rattle.msl_ops.specs.Keeping.{lawful_of}
use Rattle.msl_ops.proofs.Parts.{IsTurn, fold_turn, folded_within, folded_parts}
use Rattle.msl_local.specs.Parts.{flat, between, start}
use Rattle.msl_local.specs.Folds.{held_by, before}
use Rattle.msl_local.proofs.Lists.{flat_front, flat_between, flat_more, flat_next, one_part, start_between, start_next, start_within, at_part, size}
use Rattle.msl_local.proofs.Blocks.{begin_next, begin_last}

-- the fold of a list, and that of the next one, combine to the fold of both
pub record IsStep (op : Op) (xs ys : List ℤ) (total mine : ℤ) : Type 0 where
  pub total_in : IsInDomainOf op.kind op.modulus total
  pub mine_in : IsInDomainOf op.kind op.modulus mine
  pub fits : FitsSigned w128 (combine_of op.kind op.modulus total mine)
  pub next : combine_of op.kind op.modulus total mine ≡ fold_of op.kind op.modulus (xs ++ ys)

pub fold_step : (op : Op) (xs ys : List ℤ) (total mine : ℤ) → length (xs ++ ys) ≤ 2 ^ 60 → All (FitsSigned w64) xs → All (FitsSigned w64) ys
    → total ≡ fold_of op.kind op.modulus xs → mine ≡ fold_of op.kind op.modulus ys → IsStep op xs ys total mine
fold_step op xs ys total mine few all_xs all_ys is_total is_mine =
    let laws : IsLawful (IsInDomainOf op.kind op.modulus) (unit_of op.kind op.modulus) (lift_of op.kind op.modulus) (combine_of op.kind op.modulus) = lawful_of op.kind op.modulus op.least op.most in
    let next : combine_of op.kind op.modulus total mine ≡ fold_of op.kind op.modulus (xs ++ ys) =
    ap (λ z. combine_of op.kind op.modulus z mine) is_total ∙ (ap (combine_of op.kind op.modulus (fold_of op.kind op.modulus xs)) is_mine
    ∙ sym (folded_parts (IsInDomainOf op.kind op.modulus) (unit_of op.kind op.modulus) (lift_of op.kind op.modulus) (combine_of op.kind op.modulus) laws xs ys all_xs all_ys)) in
    record {
      total_in = subst (IsInDomainOf op.kind op.modulus) (sym is_total) (folded_within (IsInDomainOf op.kind op.modulus) (unit_of op.kind op.modulus) (lift_of op.kind op.modulus) (combine_of op.kind op.modulus) laws xs all_xs);
      mine_in = subst (IsInDomainOf op.kind op.modulus) (sym is_mine) (folded_within (IsInDomainOf op.kind op.modulus) (unit_of op.kind op.modulus) (lift_of op.kind op.modulus) (combine_of op.kind op.modulus) laws ys all_ys);
      fits = subst (FitsSigned w128) (sym next) (laws.fits (xs ++ ys) few (All-append (FitsSigned w64) xs ys all_xs all_ys));
      next = next;
    }

module _ (op : Op) (a : List (Vec ℤ)) (few : length (flat a) ≤ 2 ^ 60) (fit : All (FitsSigned w64) (flat a)) where
  pub fit_before : (m : ℕ) → All (FitsSigned w64) (flat (take m a))
  fit_before m = subst (All (FitsSigned w64)) (flat_front a m) (All-take (FitsSigned w64) (start a m) (flat a) fit)

  pub fit_between : (from to : ℕ) → from ≤ to → All (FitsSigned w64) (flat (between a from to))
  fit_between from to order = subst (All (FitsSigned w64)) (flat_between a from to order) (All-drop (FitsSigned w64) (start a from) (flat (take to a)) (fit_before to))

  pub fit_part : (m : ℕ) (d : Vec ℤ) → m < length a → All (FitsSigned w64) ((slice_index_or a m d).items)
  fit_part m d lt = subst (All (FitsSigned w64)) (one_part a m d lt) (fit_between m (m + 1) (omega arith))

  few_between : (from to : ℕ) → from ≤ to → length (flat (between a from to)) ≤ 2 ^ 60
  few_between from to order = omega (arith, start_between a from to order, start_within a to, few)

  -- with one part more
  pub part_step : (from m : ℕ) (d : Vec ℤ) (total mine : ℤ) → from ≤ m → m < length a
      → total ≡ fold_of op.kind op.modulus (flat (between a from m)) → mine ≡ fold_of op.kind op.modulus ((slice_index_or a m d).items)
      → IsStep op (flat (between a from m)) ((slice_index_or a m d).items) total mine
  part_step from m d total mine order lt is_total is_mine =
      fold_step op (flat (between a from m)) ((slice_index_or a m d).items) total mine
      (subst (λ xs. length xs ≤ 2 ^ 60) (flat_more a from m d order lt) (few_between from (m + 1) (omega (arith, order))))
      (fit_between from m order) (fit_part m d lt) is_total is_mine

  -- with the parts of one hand more
  pub hand_step : (hands h : ℕ) (total mine : ℤ)
      → total ≡ fold_of op.kind op.modulus (flat (before a hands h)) → mine ≡ fold_of op.kind op.modulus (flat (held_by a hands h))
      → IsStep op (flat (before a hands h)) (flat (held_by a hands h)) total mine
  hand_step hands h total mine is_total is_mine =
      let from = begin (length a) hands h in
      let to = begin (length a) hands (h + 1) in
      let order : from ≤ to = begin_next (length a) hands h in
      fold_step op (flat (before a hands h)) (flat (held_by a hands h)) total mine
      (subst (λ xs. length xs ≤ 2 ^ 60) (flat_next a from to order) (omega (arith, start_within a to, few)))
      (fit_before from) (fit_between from to order) is_total is_mine

pub before_next : (a : List (Vec ℤ)) (hands h : ℕ) → flat (before a hands h) ++ flat (held_by a hands h) ≡ flat (before a hands (h + 1))
before_next a hands h = sym (flat_next a (begin (length a) hands h) (begin (length a) hands (h + 1)) (begin_next (length a) hands h))

pub before_all : (a : List (Vec ℤ)) (hands : ℕ) → 1 ≤ hands → flat (before a hands hands) ≡ flat a
before_all a hands some = ap flat (take_all (begin (length a) hands hands) a (omega (arith, begin_last (length a) hands some)))

-- ---- element by element

-- what the elements before a place combine to has 128 bits
pub prefix_fits : (op : Op) (xs : List ℤ) (n : ℕ) → length xs ≤ 2 ^ 60 → All (FitsSigned w64) xs → FitsSigned w128 (fold_of op.kind op.modulus (take n xs))
prefix_fits op xs n few fit =
    let laws : IsLawful (IsInDomainOf op.kind op.modulus) (unit_of op.kind op.modulus) (lift_of op.kind op.modulus) (combine_of op.kind op.modulus) = lawful_of op.kind op.modulus op.least op.most in
    laws.fits (take n xs) (omega (arith, length-take n xs, few)) (All-take (FitsSigned w64) n xs fit)

abbrev pub IsTurnAt : Op → List ℤ → ℕ → ℤ → ℤ → Type 0
IsTurnAt op = IsTurn (IsInDomainOf op.kind op.modulus) (unit_of op.kind op.modulus) (lift_of op.kind op.modulus) (combine_of op.kind op.modulus)

-- a turn at element k of part m, which is xs
pub scan_turn : (op : Op) (a : List (Vec ℤ)) (m k : ℕ) (v : Vec ℤ) (xs : List ℤ) (total lifted : ℤ) → length (flat a) ≤ 2 ^ 60 → All (FitsSigned w64) (flat a)
    → m < length a → xs ≡ (slice_index_or a m v).items → k < length xs
    → total ≡ fold_of op.kind op.modulus (take (start a m + k) (flat a))
    → FitsSigned w128 lifted → lifted ≡ lift_of op.kind op.modulus (to_z w64 (of_z w64 (slice_index_or xs k (pos 0))))
    → IsTurnAt op (flat a) (start a m + k) total (to_z w128 (of_z w128 lifted))
scan_turn op a m k v xs total lifted few fit lt is inside is_total lifted_fits is_lifted =
    let laws : IsLawful (IsInDomainOf op.kind op.modulus) (unit_of op.kind op.modulus) (lift_of op.kind op.modulus) (combine_of op.kind op.modulus) = lawful_of op.kind op.modulus op.least op.most in
    let i = start a m + k in
    let inside' : k < size (slice_index_or a m v) = omega (arith, ap length is, inside) in
    let below : i < length (flat a) = omega (arith, start_next a m v lt, start_within a (m + 1), inside') in
    let here : slice_index_or xs k (pos 0) ≡ slice_index_or (flat a) i (pos 0) = ap (λ ys. slice_index_or ys k (pos 0)) is ∙ sym (at_part a m k v lt inside') in
    fold_turn (IsInDomainOf op.kind op.modulus) (unit_of op.kind op.modulus) (lift_of op.kind op.modulus) (combine_of op.kind op.modulus) laws (flat a) i total lifted
    below few is_total (All-take (FitsSigned w64) i (flat a) fit) (All-get_or (FitsSigned w64) (flat a) i (pos 0) below fit) lifted_fits
    (is_lifted ∙ ap (λ z. lift_of op.kind op.modulus (to_z w64 (of_z w64 z))) here)
