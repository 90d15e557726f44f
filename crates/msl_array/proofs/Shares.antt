-- How a list lies in the parts of an array.
use Rattle.std.proofs.Common.{◌≡◌, ◌<◌, ◌≤◌, ◌+◌, ◌-◌, ◌^◌, ◌/◌, ℕ, ℤ, List, [], ◌∷◌, ◌++◌, length, map, take, drop, refl, sym, ap, ap₂, ◌∙◌, arith, get_or}
use Rattle.std.specs.Global.{Vec}
use Rattle.std.proofs.Math.Seq.{take-add}
use Rattle.std.proofs.lemmas.Nat.{mul-le}
use Rattle.std.proofs.lemmas.List.{take_all, length-append, length-take, length-drop, length_push, map_push, drop_more}
use Rattle.std.proofs.lemmas.List.FromFn.{map-range_with_len_more}
use Rattle.msl_base.specs.Blocks.{begin}
use Rattle.msl_base.specs.declared.limits.TheConstants.{MOST_BLOCKS, MOST_MEMBERS}
use Rattle.msl_lists.specs.Whole.{below}
use Rattle.msl_local.specs.Parts.{flat, lengths}
use Rattle.msl_local.proofs.Blocks.{begin_last}
use Rattle.msl_local.proofs.Lists.{flat_alike, flat_append, flat_next, flat_one, many_alike, one_part}
use Rattle.msl_array.specs.Arrays.{share, AreParts}

-- ---- where parts begin

pub begin_up : (n b i j : ℕ) → i ≤ j → begin n b i ≤ begin n b j
begin_up n b i j h = let scaled = mul-le i (n / b) j (n / b) h (omega arith) in omega arith

pub share_first : (n b p : ℕ) → share n b p 0 ≡ 0
share_first n b p = let first : begin b p 0 ≡ 0 = omega arith in ap (begin n b) first ∙ (omega arith)

pub share_up : (n b p i j : ℕ) → i ≤ j → share n b p i ≤ share n b p j
share_up n b p i j h = begin_up n b (begin b p i) (begin b p j) (begin_up b p i j h)

pub share_last : (n b p : ℕ) → 1 ≤ b → 1 ≤ p → share n b p p ≡ n
share_last n b p some members = ap (begin n b) (begin_last b p members) ∙ begin_last n b some

pub share_within : (n b p m : ℕ) → 1 ≤ b → 1 ≤ p → m ≤ p → share n b p m ≤ n
share_within n b p m some members h = omega (arith, share_up n b p m p h, share_last n b p some members)

pub flat_push : (parts : List (Vec ℤ)) (v : Vec ℤ) → flat (parts ++ v ∷ []) ≡ flat parts ++ v.items
flat_push parts v = flat_append parts (v ∷ []) ∙ ap (λ xs. flat parts ++ xs) (flat_one v)

pub flat_all : (parts : List (Vec ℤ)) (i : ℕ) → length parts ≤ i → flat (take i parts) ≡ flat parts
flat_all parts i h = ap flat (take_all i parts h)

-- ---- one more part, which is read from the list

flat_before : (parts : List (Vec ℤ)) (i : ℕ) (v : Vec ℤ) → i < length parts → flat (take (i + 1) parts) ≡ flat (take i parts) ++ (get_or parts i v).items
flat_before parts i v lt = flat_next parts i (i + 1) (omega arith) ∙ ap (λ xs. flat (take i parts) ++ xs) (one_part parts i v lt)

module _ (parts : List (Vec ℤ)) (i : ℕ) (v : Vec ℤ) (lt : i < length parts) (is : v ≡ get_or parts i v) where
  pub flat_read : flat (take (i + 1) parts) ≡ flat (take i parts) ++ v.items
  flat_read = flat_before parts i v lt ∙ ap (λ (w : Vec ℤ). flat (take i parts) ++ w.items) (sym is)

  pub long_read : length (flat (take (i + 1) parts)) ≡ length (flat (take i parts)) + length v.items
  long_read = ap length flat_read ∙ length-append (flat (take i parts)) v.items

  pub flat_left : flat (drop i parts) ≡ v.items ++ flat (drop (i + 1) parts)
  flat_left = ap flat (drop_more parts i v lt) ∙ ap (λ (w : Vec ℤ). w.items ++ flat (drop (i + 1) parts)) (sym is)

-- ---- parts of the same lengths

pub parts_like : (b : ℕ) (like parts : List (Vec ℤ)) → AreParts b like → lengths parts ≡ lengths like → AreParts b parts
parts_like b like parts h e =
    let long = flat_alike like parts e in
    let many = many_alike like parts e in
    record {
      some = h.some;
      blocks = h.blocks;
      members = omega (arith, many, h.members);
      within = omega (arith, many, h.within);
      few = omega (arith, long, h.few);
      laid = e ∙ h.laid ∙ ap₂ (λ (n q : ℕ). map (λ k. share n b q (k + 1) - share n b q k) (below q)) (sym long) (sym many);
    }

-- as many elements in as many parts lie alike
pub lie_alike : (b : ℕ) (a c : List (Vec ℤ)) → AreParts b a → AreParts b c → length (flat c) ≡ length (flat a) → length c ≡ length a → lengths c ≡ lengths a
lie_alike b a c h k long many = k.laid ∙ ap₂ (λ (n q : ℕ). map (λ k. share n b q (k + 1) - share n b q k) (below q)) long many ∙ sym h.laid

-- ---- a list that is shared out

-- the first m parts
pub record AreFirst (xs : List ℤ) (b p m : ℕ) (parts : List (Vec ℤ)) : Type 0 where
  pub list : flat parts ≡ take (share (length xs) b p m) xs
  pub long : length parts ≡ m
  pub each : lengths parts ≡ map (λ k. share (length xs) b p (k + 1) - share (length xs) b p k) (below m)

module _ (xs : List ℤ) (b p : ℕ) (some : 1 ≤ b) (members : 1 ≤ p) where
  pub first_none : AreFirst xs b p 0 []
  first_none = record { list = ap (λ k. take k xs) (sym (share_first (length xs) b p)); long = refl; each = refl }

  pub first_more : (m : ℕ) (parts : List (Vec ℤ)) (v : Vec ℤ) → m < p → AreFirst xs b p m parts
      → v.items ≡ take (share (length xs) b p (m + 1) - share (length xs) b p m) (drop (share (length xs) b p m) xs) → AreFirst xs b p (m + 1) (parts ++ v ∷ [])
  first_more m parts v lt h is =
      let n = length xs in
      let from = share n b p m in
      let to = share n b p (m + 1) in
      let up : from ≤ to = share_up n b p m (m + 1) (omega arith) in
      let within : to ≤ n = share_within n b p (m + 1) some members (omega arith) in
      let next : from + (to - from) ≡ to = omega (arith, up) in
      let long : length v.items ≡ to - from = omega (arith, ap length is, length-take (to - from) (drop from xs), length-drop from xs, within, up) in
      record {
        list = flat_push parts v ∙ ap₂ (λ (x y : List ℤ). x ++ y) h.list is ∙ sym (take-add from (to - from) xs) ∙ ap (λ k. take k xs) next;
        long = length_push parts v ∙ ap (λ k. k + 1) h.long;
        each = map_push (λ (w : Vec ℤ). length w.items) parts v ∙ ap₂ (λ (x : List ℕ) (y : ℕ). x ++ y ∷ []) h.each long
            ∙ sym (map-range_with_len_more (λ k. share n b p (k + 1) - share n b p k) 0 m m (omega arith));
      }

  pub first_all : (parts : List (Vec ℤ)) → AreFirst xs b p p parts → flat parts ≡ xs
  first_all parts h = h.list ∙ ap (λ k. take k xs) (share_last (length xs) b p some members) ∙ take_all (length xs) xs (omega arith)

  pub first_parts : (parts : List (Vec ℤ)) → b ≤ MOST_BLOCKS → p ≤ MOST_MEMBERS → length xs ≤ 2 ^ 60 → AreFirst xs b p p parts → AreParts b parts
  first_parts parts blocks within few h =
      let list = first_all parts h in
      let many : length xs ≡ length (flat parts) = ap length (sym list) in
      record {
        some = some;
        blocks = blocks;
        members = omega (arith, h.long, members);
        within = omega (arith, h.long, within);
        few = omega (arith, many, few);
        laid = h.each ∙ ap₂ (λ (n q : ℕ). map (λ k. share n b q (k + 1) - share n b q k) (below q)) many (sym h.long);
      }
