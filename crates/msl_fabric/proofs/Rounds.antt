-- Blocks that move round by round.
use Rattle.std.proofs.Common.{◌≡◌, ◌≢◌, ◌<◌, ◌≤◌, ◌+◌, ℕ, List, [], length, set, refl, sym, ap, ap₂, subst, ◌∙◌, arith, inl, inr, ◌⊎◌}
use Rattle.std.proofs.lemmas.Bool.{cases_lt}
use Rattle.std.proofs.lemmas.List.{get_or-set_same, get_or-set_other, length-map, map-set}
use Rattle.msl_base.specs.Blocks.{begin, block_of, IsInBlock}
use Rattle.msl_base.specs.Records.{Kept}
use Rattle.msl_base.specs.Streams.{Record}
use Rattle.msl_base.proofs.Tiles.{tiles, block_is}
use Rattle.msl_fabric.specs.declared.routes.Route.{Route}
use Rattle.msl_fabric.specs.declared.routes.Way.{Way}
use Rattle.msl_fabric.specs.Grids.{Grid, IsExchange, IsWhole, box_at, with_box, records}
use Rattle.msl_fabric.specs.Moves.{block}
use Rattle.msl_fabric.specs.Routes.{IsNone, IsWay, goes, many, owner, round}
use Rattle.msl_fabric.proofs.Grids.{numbers, box-same, box-other}

-- a place lies in the block of which it is
pub in_own : (n p i : ℕ) → 1 ≤ p → i < n → (block_of n p i < p) × IsInBlock n p (block_of n p i) i
in_own n p i some lt =
    let e = (tiles n p some).each i lt in
    subst (λ j. (j < p) × IsInBlock n p j i) (sym (block_is n p e.0 i e.1 e.2)) (e.1, e.2)

-- the first block has as many places as any
pub longest : (n p j : ℕ) → begin n p (j + 1) ≤ begin n p j + begin n p 1
longest n p j = omega arith

module _ (r : Route) where
  pub owner_within : (i : ℕ) → i < many r → owner r i < r.members
  owner_within i lt = (in_own (many r) r.members i r.some lt).0

  pub own_place : (i : ℕ) → i < many r → IsInBlock (many r) r.members (owner r i) i
  own_place i lt = (in_own (many r) r.members i r.some lt).1

  place_is : (i : ℕ) → i < many r → i ≡ begin (many r) r.members (owner r i) + round r i
  place_is i lt = omega (arith, (own_place i lt).0)

  pub round_within : (i : ℕ) → i < many r → round r i < begin (many r) r.members 1
  round_within i lt = omega (arith, own_place i lt, longest (many r) r.members (owner r i))

  -- a member moves one block in a round
  pub only : (m k : ℕ) (w : Way) → IsWay r m k w → (i : ℕ) → i < many r → owner r i ≡ m → round r i ≡ k → i ≡ w.from
  only m k w h i lt mine turn =
      place_is i lt ∙ ap₂ (λ j n. begin (many r) r.members j + n) (mine ∙ sym h.mine) (turn ∙ sym h.turn) ∙ sym (place_is w.from h.here)

  pub one_target : (m k : ℕ) (w : Way) → IsWay r m k w → (i : ℕ) → i < many r → goes r i ≡ w.to → i ≡ w.from
  one_target m k w h i lt same = r.permutes.apart i w.from lt h.here (same ∙ h.goes_to)

  -- who has the target of the block
  theirs : (m k : ℕ) (w : Way) → IsWay r m k w → w.owner ≡ owner r (goes r w.from)
  theirs m k w h = h.theirs ∙ ap (owner r) h.goes_to

-- one block of a list is replaced
module _ (xs ys : List Kept) (j : ℕ) (x : Kept) (e : ys ≡ set xs j x) where
  pub replaced : j < length xs → block (records ys) j ≡ x.numbers
  replaced lt =
      ap (λ zs. block (records zs) j) e ∙ ap (λ (l : List Record). block l j) (map-set numbers xs j x)
      ∙ get_or-set_same (records xs) j x.numbers [] (omega (arith, lt, length-map xs numbers))

  pub unmoved : (i : ℕ) → i ≢ j → block (records ys) i ≡ block (records xs) i
  unmoved i other =
      ap (λ zs. block (records zs) i) e ∙ ap (λ (l : List Record). block l i) (map-set numbers xs j x) ∙ get_or-set_other (records xs) j i x.numbers [] other

-- ---- what members sent in round k, those before m, of blocks that were there

pub record Sent (r : Route) (k m : ℕ) (there : List Record) (left : List Kept) (b : Grid) : Type 0 where
  pub sent : (i : ℕ) → i < many r → round r i ≡ k → owner r i < m → box_at b (owner r i) (owner r (goes r i)) ≡ block there i
  pub rest : (i : ℕ) → i < many r → (round r i ≡ k → m ≤ owner r i) → block (records left) i ≡ block there i

pub none_sent : (r : Route) (k : ℕ) (left : List Kept) (b : Grid) → Sent r k 0 (records left) left b
none_sent r k left b = record { sent = λ i lt turn below. absurd (omega (arith, below)); rest = λ i lt later. refl }

module _ (r : Route) (k m : ℕ) (there : List Record) (left : List Kept) (b : Grid) (s : Sent r k m there left b) where
  -- a member that has nothing to send
  pub not_sent : IsNone r m k → Sent r k (m + 1) there left b
  not_sent none = record {
    sent = λ i lt turn below. go i lt turn below (cases_lt (owner r i) m);
    rest = λ i lt later. s.rest i lt (λ turn. omega (arith, later turn));
  }
    where
      go : (i : ℕ) → i < many r → round r i ≡ k → owner r i < m + 1 → (owner r i < m) ⊎ (m ≤ owner r i) → box_at b (owner r i) (owner r (goes r i)) ≡ block there i
      go i lt turn below (inl before) = s.sent i lt turn before
      go i lt turn below (inr here) = absurd (none i lt (omega (arith, below, here)) turn)

  module _ (w : Way) (h : IsWay r m k w) (whole : IsWhole b) (side : b.n ≡ r.members) (p : m < b.n) (left' : List Kept) (b' : Grid) (x y : Kept) where
    target_within : w.owner < b.n
    target_within = omega (arith, h.member, side)

    -- a member that sends its block
    pub sends : left' ≡ set left w.from y → b' ≡ with_box b m w.owner x.numbers → x.numbers ≡ block (records left) w.from → Sent r k (m + 1) there left' b'
    sends e f is = record {
      sent = λ i lt turn below. go i lt turn below (cases_lt (owner r i) m);
      rest = λ i lt later.
          unmoved left left' w.from y e i (λ same. omega (arith, later (ap (round r) same ∙ h.turn), ap (owner r) same, h.mine))
          ∙ s.rest i lt (λ turn. omega (arith, later turn));
    }
      where
        mine : box_at b' (owner r w.from) (owner r (goes r w.from)) ≡ block there w.from
        mine =
            ap₂ (box_at b') h.mine (sym (theirs r m k w h))
            ∙ ap (λ (g : Grid). box_at g m w.owner) f
            ∙ box-same b whole m w.owner x.numbers p target_within
            ∙ is ∙ s.rest w.from h.here (λ turn. omega (arith, h.mine))

        go : (i : ℕ) → i < many r → round r i ≡ k → owner r i < m + 1 → (owner r i < m) ⊎ (m ≤ owner r i) → box_at b' (owner r i) (owner r (goes r i)) ≡ block there i
        go i lt turn below (inl before) =
            ap (λ (g : Grid). box_at g (owner r i) (owner r (goes r i))) f
            ∙ box-other b whole m w.owner x.numbers p target_within (owner r i) (owner r (goes r i)) (omega (arith, owner_within r (goes r i) (r.permutes.within i lt), side)) (λ same _. omega (arith, same, before))
            ∙ s.sent i lt turn before
        go i lt turn below (inr here) =
            let same = only r m k w h i lt (omega (arith, below, here)) turn in
            subst (λ j. box_at b' (owner r j) (owner r (goes r j)) ≡ block there j) (sym same) mine

-- ---- what members received in round k, those before m, of boxes that came

pub record Received (r : Route) (k m : ℕ) (there : List Record) (came : Grid) (moved : List Kept) (b : Grid) : Type 0 where
  pub got : (i : ℕ) → i < many r → round r i ≡ k → owner r i < m → block (records moved) (goes r i) ≡ box_at came (owner r (goes r i)) (owner r i)
  pub still : (i : ℕ) → i < many r → round r i ≡ k → m ≤ owner r i → box_at b (owner r (goes r i)) (owner r i) ≡ box_at came (owner r (goes r i)) (owner r i)
  pub rest : (i : ℕ) → i < many r → (round r i ≡ k → m ≤ owner r i) → block (records moved) (goes r i) ≡ block there (goes r i)

pub none_received : (r : Route) (k : ℕ) (moved : List Kept) (b : Grid) → Received r k 0 (records moved) b moved b
none_received r k moved b = record { got = λ i lt turn below. absurd (omega (arith, below)); still = λ i lt turn later. refl; rest = λ i lt later. refl }

module _ (r : Route) (k m : ℕ) (there : List Record) (came : Grid) (moved : List Kept) (b : Grid) (s : Received r k m there came moved b) where
  -- a member that has sent nothing
  pub not_received : IsNone r m k → Received r k (m + 1) there came moved b
  not_received none = record {
    got = λ i lt turn below. go i lt turn below (cases_lt (owner r i) m);
    still = λ i lt turn later. s.still i lt turn (omega (arith, later));
    rest = λ i lt later. s.rest i lt (λ turn. omega (arith, later turn));
  }
    where
      go : (i : ℕ) → i < many r → round r i ≡ k → owner r i < m + 1 → (owner r i < m) ⊎ (m ≤ owner r i) → block (records moved) (goes r i) ≡ box_at came (owner r (goes r i)) (owner r i)
      go i lt turn below (inl before) = s.got i lt turn before
      go i lt turn below (inr here) = absurd (none i lt (omega (arith, below, here)) turn)

  module _ (w : Way) (h : IsWay r m k w) (whole : IsWhole b) (side : b.n ≡ r.members) (p : m < b.n) (long : length moved ≡ many r) (moved' : List Kept) (b' : Grid) (x : Kept) where
    row_within : w.owner < b.n
    row_within = omega (arith, h.member, side)

    -- a member whose block is taken
    pub receives : moved' ≡ set moved w.to x → b' ≡ with_box b w.owner m [] → x.numbers ≡ box_at b w.owner m → Received r k (m + 1) there came moved' b'
    receives e f is = record {
      got = λ i lt turn below. go i lt turn below (cases_lt (owner r i) m);
      still = λ i lt turn later.
          ap (λ (g : Grid). box_at g (owner r (goes r i)) (owner r i)) f
          ∙ box-other b whole w.owner m [] row_within p (owner r (goes r i)) (owner r i) (omega (arith, owner_within r i lt, side)) (λ _ same. omega (arith, same, later))
          ∙ s.still i lt turn (omega (arith, later));
      rest = λ i lt later.
          unmoved moved moved' w.to x e (goes r i) (λ same. let one = one_target r m k w h i lt same in omega (arith, later (ap (round r) one ∙ h.turn), ap (owner r) one, h.mine))
          ∙ s.rest i lt (λ turn. omega (arith, later turn));
    }
      where
        mine : block (records moved') (goes r w.from) ≡ box_at came (owner r (goes r w.from)) (owner r w.from)
        mine =
            ap (block (records moved')) (sym h.goes_to)
            ∙ replaced moved moved' w.to x e (omega (arith, h.there, long))
            ∙ is
            ∙ ap₂ (box_at b) (theirs r m k w h) (sym h.mine)
            ∙ s.still w.from h.here h.turn (omega (arith, h.mine))

        go : (i : ℕ) → i < many r → round r i ≡ k → owner r i < m + 1 → (owner r i < m) ⊎ (m ≤ owner r i) → block (records moved') (goes r i) ≡ box_at came (owner r (goes r i)) (owner r i)
        go i lt turn below (inl before) =
            unmoved moved moved' w.to x e (goes r i) (λ same. let one = one_target r m k w h i lt same in omega (arith, ap (owner r) one, h.mine, before))
            ∙ s.got i lt turn before
        go i lt turn below (inr here) =
            let same = only r m k w h i lt (omega (arith, below, here)) turn in
            subst (λ j. block (records moved') (goes r j) ≡ box_at came (owner r (goes r j)) (owner r j)) (sym same) mine

-- ---- one round more

module _ (r : Route) (k : ℕ) (there had moved : List Record) (out came : Grid) (swap : IsExchange out came) (side : out.n ≡ r.members)
    (sent : (i : ℕ) → i < many r → round r i ≡ k → box_at out (owner r i) (owner r (goes r i)) ≡ block there i)
    (got : (i : ℕ) → i < many r → round r i ≡ k → block moved (goes r i) ≡ box_at came (owner r (goes r i)) (owner r i))
    (rest : (i : ℕ) → i < many r → round r i ≢ k → block moved (goes r i) ≡ block had (goes r i))
    (done : (i : ℕ) → i < many r → round r i < k → block had (goes r i) ≡ block there i) where
  pub after_round : (i : ℕ) → i < many r → round r i < k + 1 → block moved (goes r i) ≡ block there i
  after_round i lt before = go (cases_lt (round r i) k)
    where
      go : (round r i < k) ⊎ (k ≤ round r i) → block moved (goes r i) ≡ block there i
      go (inl earlier) = rest i lt (λ turn. omega (arith, turn, earlier)) ∙ done i lt earlier
      go (inr now) =
          let turn : round r i ≡ k = omega (arith, now, before) in
          got i lt turn
          ∙ swap.turned (owner r (goes r i)) (owner r i) (omega (arith, owner_within r (goes r i) (r.permutes.within i lt), side)) (omega (arith, owner_within r i lt, side))
          ∙ sent i lt turn
