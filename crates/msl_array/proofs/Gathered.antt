-- Blocks of one size: where they begin, and what is put together of them.
use Rattle.std.proofs.Common.{◌≡◌, ◌<◌, ◌≤◌, ◌+◌, ◌-◌, ◌*◌, ◌/◌, ◌%◌, ℕ, zero, suc, ℤ, pos, List, [], ◌∷◌, ◌++◌, length, map, take, drop, slice_index_or, refl, sym, subst, ap, ap₂, ◌∙◌, arith, inl, inr, ◌⊎◌}
use Rattle.std.specs.Prelude.{min}
use Rattle.std.specs.Global.{Vec}
use Rattle.std.proofs.Math.Seq.{take-add}
use Rattle.std.proofs.lemmas.Bool.{cases_lt}
use Rattle.std.proofs.lemmas.Nat.{mul-le, mul-add-lt, div-mul-add, mod-mul-add}
use Rattle.std.proofs.lemmas.List.{get_or_append_left, get_or-append-add, get_or-drop, get_or-take, length-append, length-take, length-drop, take_more, take_all, length_push, map_push}
use Rattle.std.proofs.lemmas.List.FromFn.{get_or-map-range_with_len, map-range_with_len_more}
use Rattle.msl_base.specs.Blocks.{begin}
use Rattle.msl_lists.specs.Whole.{at, below}
use Rattle.msl_local.specs.Parts.{flat, lengths, start}
use Rattle.msl_local.proofs.Lists.{size, size_at, start_next, start_last, at_part}
use Rattle.msl_array.specs.Arrays.{share, AreParts}
use Rattle.msl_array.specs.Moves.{AreBlocks, BeginWhole, IsGathered}
use Rattle.msl_local.proofs.Blocks.{begin_last}
use Rattle.msl_array.proofs.Shares.{begin_up, flat_push}

-- ---- where parts begin

module _ (b : ℕ) (parts : List (Vec ℤ)) (h : AreParts b parts) where
  long_part : (m : ℕ) (d : Vec ℤ) → m < length parts
      → size (slice_index_or parts m d) ≡ share (length (flat parts)) b (length parts) (m + 1) - share (length (flat parts)) b (length parts) m
  long_part m d lt =
      let n = length (flat parts) in
      let p = length parts in
      sym (size_at parts m d lt) ∙ ap (λ xs. slice_index_or xs m 0) h.laid ∙ get_or-map-range_with_len (λ k. share n b p (k + 1) - share n b p k) 0 p m m 0 lt (omega arith)

share_whole : (size n b p m : ℕ) → 1 ≤ b → n ≡ b * size → share n b p m ≡ begin b p m * size
share_whole size n b p m some e =
    let j = begin b p m in
    let turned : n ≡ size * b + 0 = omega (arith, e) in
    let quotient : n / b ≡ size = ap (λ x. x / b) turned ∙ div-mul-add size b 0 some in
    let rest : n % b ≡ 0 = ap (λ x. x % b) turned ∙ mod-mul-add size b 0 some in
    ap₂ (λ x y. j * x + min j y) quotient rest ∙ omega arith

up : (b p m : ℕ) → begin b p m ≤ begin b p (m + 1)
up b p m = let scaled = mul-le m (b / p) (m + 1) (b / p) (omega arith) (omega arith) in omega arith

start_whole : (width b : ℕ) (parts : List (Vec ℤ)) (d : Vec ℤ) → AreParts b parts → length (flat parts) ≡ b * width → (m : ℕ) → m ≤ length parts → start parts m ≡ begin b (length parts) m * width
start_whole width b parts d h e zero few = let first : begin b (length parts) 0 ≡ 0 = omega arith in let none : 0 ≡ 0 * width = omega arith in none ∙ sym (ap (λ q. q * width) first)
start_whole width b parts d h e (suc m) few =
    let n = length (flat parts) in
    let p = length parts in
    let before = start_whole width b parts d h e m (omega (arith, few)) in
    let lt : m < p = omega (arith, few) in
    let next = start_next parts m d lt in
    let long = long_part b parts h m d lt in
    let here = share_whole width n b p m h.some e in
    let there = share_whole width n b p (m + 1) h.some e in
    let rises = mul-le (begin b p m) width (begin b p (m + 1)) width (up b p m) (omega arith) in
    let one : suc m ≡ m + 1 = omega arith in
    ap (start parts) one ∙ (omega (arith, next, long, here, there, before, rises)) ∙ ap (λ k. begin b p k * width) (sym one)

pub begin_whole : (size b : ℕ) (parts : List (Vec ℤ)) → AreParts b parts → length (flat parts) ≡ b * size → BeginWhole size parts
begin_whole size b [] h e = let some = h.members in absurd (omega (arith, some))
begin_whole size b (v ∷ parts) h e = λ m few. (begin b (length (v ∷ parts)) m, start_whole size b (v ∷ parts) v h e m few)

pub long_mine : (size b : ℕ) (parts : List (Vec ℤ)) → AreParts b parts → length (flat parts) ≡ b * size → (m : ℕ)
    → share (length (flat parts)) b (length parts) (m + 1) - share (length (flat parts)) b (length parts) m ≡ (begin b (length parts) (m + 1) - begin b (length parts) m) * size
long_mine size b parts h e m =
    let n = length (flat parts) in
    let p = length parts in
    let here = share_whole size n b p m h.some e in
    let there = share_whole size n b p (m + 1) h.some e in
    let more : begin b p (m + 1) ≡ begin b p m + (begin b p (m + 1) - begin b p m) = omega (arith, up b p m) in
    let split : begin b p (m + 1) * size ≡ begin b p m * size + (begin b p (m + 1) - begin b p m) * size = ap (λ q. q * size) more ∙ omega arith in
    omega (arith, here, there, split)

-- ---- a block lies within a part

module _ (size_of : ℕ) (parts : List (Vec ℤ)) (whole : BeginWhole size_of parts) (m : ℕ) (v : Vec ℤ) (lt : m < length parts) (is : v ≡ slice_index_or parts m v) (j from : ℕ) (at_start : from + start parts m ≡ j * size_of) where
  next_start : start parts (m + 1) ≡ start parts m + length v.items
  next_start = start_next parts m v lt ∙ ap (λ (w : Vec ℤ). start parts m + length w.items) (sym is)

  pub within_part : from < length v.items → from + size_of ≤ length v.items
  within_part inside = go (whole (m + 1) (omega (arith, lt)))
    where
      go : (q : ℕ) × (start parts (m + 1) ≡ q * size_of) → from + size_of ≤ length v.items
      go w = before (cases_lt j w.0)
        where
          before : (j < w.0) ⊎ (w.0 ≤ j) → from + size_of ≤ length v.items
          before (inl less) = let scaled = mul-le (j + 1) size_of w.0 size_of (omega (arith, less)) (omega arith) in omega (arith, scaled, w.1, next_start, at_start)
          before (inr more) = let scaled = mul-le w.0 size_of j size_of more (omega arith) in absurd (omega (arith, scaled, w.1, next_start, at_start, inside))

  pub at_block : (t : ℕ) → t < size_of → from + size_of ≤ length v.items → at (take (from + size_of - from) (drop from v.items)) t ≡ at (flat parts) (j * size_of + t)
  at_block t small fits =
      let many : from + size_of - from ≡ size_of = omega arith in
      let inside : from + t < size (slice_index_or parts m v) = omega (arith, small, fits, ap size is) in
      let place : start parts m + (from + t) ≡ j * size_of + t = omega (arith, at_start) in
      ap (λ k. at (take k (drop from v.items)) t) many
      ∙ get_or-take size_of (drop from v.items) t (pos 0) small
      ∙ get_or-drop from v.items t (pos 0)
      ∙ ap (λ (w : Vec ℤ). at w.items (from + t)) is
      ∙ sym (at_part parts m (from + t) v lt inside)
      ∙ ap (at (flat parts)) place

  pub next_from : length v.items ≤ from → from - length v.items + start parts (m + 1) ≡ j * size_of
  next_from past = omega (arith, past, next_start, at_start)

-- behind all parts there is no block but an empty one
pub past_all : (size_of : ℕ) (parts : List (Vec ℤ)) (m j from : ℕ) → length parts ≤ m → from + start parts m ≡ j * size_of → j * size_of + size_of ≤ length (flat parts) → size_of ≡ 0
past_all size_of parts m j from end e within = omega (arith, start_last parts m end, e, within)

-- ---- blocks one after the other

module _ (k : ℕ) (a : List ℤ) where
  pub gathered_none : IsGathered k [] a []
  gathered_none = record { long = omega arith; lands = λ i t j lt small e. absurd (omega (arith, lt)) }

  gathered_one : (x : ℤ) (j : ℕ) (block : List ℤ) → x ≡ pos j → length block ≡ k → ((t : ℕ) → t < k → at block t ≡ at a (j * k + t)) → IsGathered k (x ∷ []) a block
  gathered_one x j block is long each = record {
    long = long ∙ omega arith;
    lands = λ i t q lt small e.
        let first : i ≡ 0 = omega (arith, lt) in
        let named : pos j ≡ pos q = sym is ∙ ap (at (x ∷ [])) (sym first) ∙ e in
        let number : j ≡ q = cc in
        let place : i * k + t ≡ t = ap (λ n. n * k + t) first ∙ omega arith in
        ap (at block) place ∙ each t small ∙ ap (λ n. at a (n * k + t)) number;
  }

  pub gathered_both : (xs ys p q : List ℤ) → IsGathered k xs a p → IsGathered k ys a q → IsGathered k (xs ++ ys) a (p ++ q)
  gathered_both xs ys p q h g = record {
    long = length-append p q ∙ ap₂ (λ x y. x + y) h.long g.long ∙ (omega arith) ∙ ap (λ n. n * k) (sym (length-append xs ys));
    lands = λ i t j lt small e. go i t j lt small e (cases_lt i (length xs));
  }
    where
      go : (i t j : ℕ) → i < length (xs ++ ys) → t < k → at (xs ++ ys) i ≡ pos j → (i < length xs) ⊎ (length xs ≤ i) → at (p ++ q) (i * k + t) ≡ at a (j * k + t)
      go i t j lt small e (inl less) =
          let inside : i * k + t < length p = omega (arith, mul-add-lt i k t (length xs) less small, h.long) in
          get_or_append_left p q (pos 0) (i * k + t) inside ∙ h.lands i t j less small (sym (get_or_append_left xs ys (pos 0) i less) ∙ e)
      go i t j lt small e (inr more) =
          let r = i - length xs in
          let split : i ≡ length xs + r = omega (arith, more) in
          let within : r < length ys = omega (arith, lt, more, length-append xs ys) in
          let there : at ys r ≡ pos j = sym (get_or-append-add xs ys r (pos 0)) ∙ ap (at (xs ++ ys)) (sym split) ∙ e in
          let scaled : i * k ≡ length xs * k + r * k = ap (λ n. n * k) split ∙ omega arith in
          let place : i * k + t ≡ length p + (r * k + t) = omega (arith, scaled, h.long) in
          ap (at (p ++ q)) place ∙ get_or-append-add p q (r * k + t) (pos 0) ∙ g.lands r t j within small there

  -- one block more
  pub gathered_more : (numbers p block : List ℤ) (i j : ℕ) → i < length numbers → at numbers i ≡ pos j → length block ≡ k → ((t : ℕ) → t < k → at block t ≡ at a (j * k + t))
      → IsGathered k (take i numbers) a p → IsGathered k (take (i + 1) numbers) a (p ++ block)
  gathered_more numbers p block i j lt is long each h =
      subst (λ xs. IsGathered k xs a (p ++ block)) (sym (take_more numbers i (pos 0) lt)) (gathered_both (take i numbers) (at numbers i ∷ []) p block h (gathered_one (at numbers i) j block is long each))

-- numbers of blocks that are cut out are such numbers
pub blocks_cut : (k n : ℕ) (numbers : List ℤ) (from to : ℕ) → to ≤ length numbers → AreBlocks k n numbers → AreBlocks k n (take (to - from) (drop from numbers))
blocks_cut k n numbers from to few h = λ i lt.
    let short : i < to - from = omega (arith, lt, length-take (to - from) (drop from numbers)) in
    let w = h (from + i) (omega (arith, short, few)) in
    (w.0, w.1, get_or-take (to - from) (drop from numbers) i (pos 0) short ∙ get_or-drop from numbers i (pos 0) ∙ w.2)

-- ---- part after part

-- the first m parts of what is put together
pub record AreGathered (k b : ℕ) (parts : List (Vec ℤ)) (numbers : List ℤ) (m : ℕ) (all : List (Vec ℤ)) : Type 0 where
  pub gathered : IsGathered k (take (begin b (length parts) m) numbers) (flat parts) (flat all)
  pub long : length all ≡ m
  pub each : lengths all ≡ map (λ q. share (length (flat parts)) b (length parts) (q + 1) - share (length (flat parts)) b (length parts) q) (below m)

module _ (k b : ℕ) (parts : List (Vec ℤ)) (numbers : List ℤ) (h : AreParts b parts) (whole : length (flat parts) ≡ b * k) (each : length numbers ≡ b) where
  pub mine_within : (m : ℕ) → m ≤ length parts → begin b (length parts) m ≤ b
  mine_within m few = let members = h.members in omega (arith, begin_up b (length parts) m (length parts) few, begin_last b (length parts) members)

  pub gathered_first : AreGathered k b parts numbers 0 []
  gathered_first =
      let first : begin b (length parts) 0 ≡ 0 = omega arith in
      record { gathered = subst (λ j. IsGathered k (take j numbers) (flat parts) []) (sym first) (gathered_none k (flat parts)); long = refl; each = refl }

  long_cut : (m : ℕ) → m < length parts → length (take (begin b (length parts) (m + 1) - begin b (length parts) m) (drop (begin b (length parts) m) numbers)) ≡ begin b (length parts) (m + 1) - begin b (length parts) m
  long_cut m lt =
      let from = begin b (length parts) m in
      let to = begin b (length parts) (m + 1) in
      omega (arith, length-take (to - from) (drop from numbers), length-drop from numbers, mine_within (m + 1) (omega (arith, lt)), each, up b (length parts) m)

  pub fits_mine : (m : ℕ) → m < length parts → length (take (begin b (length parts) (m + 1) - begin b (length parts) m) (drop (begin b (length parts) m) numbers)) * k ≤ length (flat parts)
  fits_mine m lt =
      let from = begin b (length parts) m in
      let to = begin b (length parts) (m + 1) in
      let scaled = mul-le (length (take (to - from) (drop from numbers))) k b k (omega (arith, long_cut m lt, mine_within (m + 1) (omega (arith, lt)))) (omega arith) in
      omega (arith, scaled, whole)

  pub gathered_next : (m : ℕ) (all : List (Vec ℤ)) (v : Vec ℤ) → m < length parts → AreGathered k b parts numbers m all
      → IsGathered k (take (begin b (length parts) (m + 1) - begin b (length parts) m) (drop (begin b (length parts) m) numbers)) (flat parts) v.items
      → AreGathered k b parts numbers (m + 1) (all ++ v ∷ [])
  gathered_next m all v lt g is =
      let n = length (flat parts) in
      let p = length parts in
      let from = begin b p m in
      let to = begin b p (m + 1) in
      let cut : take to numbers ≡ take from numbers ++ take (to - from) (drop from numbers) = ap (λ j. take j numbers) (omega (arith, up b p m)) ∙ take-add from (to - from) numbers in
      let long : length v.items ≡ share n b p (m + 1) - share n b p m = is.long ∙ ap (λ j. j * k) (long_cut m lt) ∙ sym (long_mine k b parts h whole m) in
      record {
        gathered = subst (λ (xs : List ℤ). IsGathered k (take to numbers) (flat parts) xs) (sym (flat_push all v))
            (subst (λ (xs : List ℤ). IsGathered k xs (flat parts) (flat all ++ v.items)) (sym cut) (gathered_both k (flat parts) (take from numbers) (take (to - from) (drop from numbers)) (flat all) v.items g.gathered is));
        long = length_push all v ∙ ap (λ j. j + 1) g.long;
        each = map_push (λ (w : Vec ℤ). length w.items) all v ∙ ap₂ (λ (x : List ℕ) (y : ℕ). x ++ y ∷ []) g.each long
            ∙ sym (map-range_with_len_more (λ q. share n b p (q + 1) - share n b p q) 0 m m (omega arith));
      }

  pub gathered_all : (all : List (Vec ℤ)) → AreGathered k b parts numbers (length parts) all → IsGathered k numbers (flat parts) (flat all)
  gathered_all all g =
      let members = h.members in
      let every : take (begin b (length parts) (length parts)) numbers ≡ numbers = take_all (begin b (length parts) (length parts)) numbers (omega (arith, begin_last b (length parts) members, each)) in
      subst (λ (xs : List ℤ). IsGathered k xs (flat parts) (flat all)) every g.gathered

  pub gathered_parts : (all : List (Vec ℤ)) → AreGathered k b parts numbers (length parts) all → AreParts b all
  gathered_parts all g =
      let same : length (flat all) ≡ length (flat parts) = (gathered_all all g).long ∙ ap (λ j. j * k) each ∙ sym whole in
      record {
        some = h.some;
        blocks = h.blocks;
        members = omega (arith, g.long, h.members);
        within = omega (arith, g.long, h.within);
        few = omega (arith, same, h.few);
        laid = g.each ∙ ap₂ (λ (n p : ℕ). map (λ q. share n b p (q + 1) - share n b p q) (below p)) (sym same) (sym g.long);
      }
