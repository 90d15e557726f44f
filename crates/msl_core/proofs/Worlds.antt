-- Each event keeps the facts of a world, and what they say of a group that is over.
use Rattle.std.proofs.Common.{◌≡◌, ℕ, zero, suc, ◌<◌, ◌≤◌, ◌≢◌, true, false, List, [], ◌∷◌, ◌++◌, length, get_or, set, Option, Some, None, ◌⊎◌, inl, inr, ⊎_elim, sym, refl, ap, ◌∙◌, subst, arith, length-set, length-append, get_or-set_same, get_or-set_other}
use mathlib.Core.Logic.{dite}
use native.Mathlib.Decide.{ℕ_discrete}
use Rattle.msl_core.specs.declared.event.Event.{Event}
use Rattle.msl_core.specs.declared.event.Event.TheVariants as event
use Rattle.msl_core.specs.declared.event.Move.{Move}
use Rattle.msl_core.specs.declared.event.Move.TheVariants as move
use Rattle.msl_core.specs.declared.place.Loan.{Loan}
use Rattle.msl_core.specs.declared.place.Place.{Place}
use Rattle.msl_core.specs.Groups.{Path, Node, Group, Holds, after, took, Kept, new_group, node_at, mail_at, idle, newest, full, total, slot_at, lends, lend_node, came_back, with_node, split_node, shut_node, post_node, take_node, white}
use Rattle.msl_core.specs.Worlds.{Places, nowhere, place_at, group_at, loan_at, lent_at, new_world, InGroup, CanHappen, with_group, with_loan, in_group, loan_of, closed, returned, happened, HasLender, SameLoan, Sound, Below, direct, further, IsOver, OverIsQuiet, StayOver, Runs, IsLentTo}
use Rattle.msl_core.proofs.Counts.{by_test}
use Rattle.msl_core.proofs.Tokens.{not_both}
use Rattle.msl_core.proofs.Moves.{keeps_each, keeps_lend, keeps_back, begins}

-- ---- a group in a world changes

-- what the loans of others rest on: as many nodes, each with at least these slots, and over as before
pub record Follows (g h : Group) : Type 0 where
  pub nodes : length h.nodes ≡ length g.nodes
  pub slots : (i : ℕ) → i < length g.nodes → length (node_at g i).lent ≤ length (node_at h i).lent
  pub over : g.over ≡ true → h.over ≡ true

follows_itself : (g : Group) → Follows g g
follows_itself g = record { nodes = refl; slots = λ i l. omega arith; over = λ o. o }

group_here : (w : Places) (g : ℕ) (h : Group) → g < length w → group_at (with_group w g h) g ≡ h
group_here w g h inside = ap (λ (x : Place). x.group) (get_or-set_same w g (record (place_at w g) { group = h }) nowhere inside)

group_there : (w : Places) (g : ℕ) (h : Group) (j : ℕ) → j ≢ g → group_at (with_group w g h) j ≡ group_at w j
group_there w g h j n = ap (λ (x : Place). x.group) (get_or-set_other w g j (record (place_at w g) { group = h }) nowhere n)

loan_same : (w : Places) (g : ℕ) (h : Group) (j : ℕ) → g < length w → loan_at (with_group w g h) j ≡ loan_at w j
loan_same w g h j inside = dite (ℕ_discrete j g)
    (λ e. subst (λ (z : ℕ). loan_at (with_group w g h) z ≡ loan_at w z) (sym e) (ap (λ (x : Place). x.loan) (get_or-set_same w g (record (place_at w g) { group = h }) nowhere inside)))
    (λ n. ap (λ (x : Place). x.loan) (get_or-set_other w g j (record (place_at w g) { group = h }) nowhere n))

follows_at : (w : Places) (g : ℕ) (h : Group) (j : ℕ) → g < length w → Follows (group_at w g) h → Follows (group_at w j) (group_at (with_group w g h) j)
follows_at w g h j inside f = dite (ℕ_discrete j g)
    (λ e. subst (λ (z : ℕ). Follows (group_at w z) (group_at (with_group w g h) z)) (sym e) (subst (Follows (group_at w g)) (sym (group_here w g h inside)) f))
    (λ n. subst (Follows (group_at w j)) (sym (group_there w g h j n)) (follows_itself (group_at w j)))

-- the paths that this group has lent, to groups that are still lent to, stay lent
abbrev pub StayLent : Places → ℕ → Group → Type 0
StayLent w g h = (j : ℕ) (l : Loan) → j < length w → loan_at w j ≡ Some l → l.lent ≡ true → l.group ≡ g → ¬ (slot_at h l.node l.slot ≡ None)

sound_group : (w : Places) (g : ℕ) (h : Group) → Sound w → g < length w → Kept h → Follows (group_at w g) h → StayLent w g h → Sound (with_group w g h)
sound_group w g h s inside kept f stay = let same_length = length-set w g (record (place_at w g) { group = h }) in record {
  kept = λ j b. dite (ℕ_discrete j g)
      (λ e. subst (λ (z : ℕ). Kept (group_at (with_group w g h) z)) (sym e) (subst Kept (sym (group_here w g h inside)) kept))
      (λ n. subst Kept (sym (group_there w g h j n)) (s.kept j (omega arith)));
  lender = λ j l b e. let o = s.lender j l (omega arith) (sym (loan_same w g h j inside) ∙ e) in let a = follows_at w g h l.group inside f in
      record { earlier = o.earlier; node = (let n = a.nodes in let m = o.node in omega arith); slot = (let n = a.slots l.node o.node in let m = o.slot in omega arith) };
  own = λ i j l k b c e d same. s.own i j l k (omega arith) (omega arith) (sym (loan_same w g h i inside) ∙ e) (sym (loan_same w g h j inside) ∙ d) same;
  lent = λ j l b e out. let is = sym (loan_same w g h j inside) ∙ e in dite (ℕ_discrete l.group g)
      (λ here. subst (λ (z : ℕ). ¬ (slot_at (group_at (with_group w g h) z) l.node l.slot ≡ None)) (sym here) (subst (λ (x : Group). ¬ (slot_at x l.node l.slot ≡ None)) (sym (group_here w g h inside)) (stay j l (omega arith) is out here)))
      (λ n. subst (λ (x : Group). ¬ (slot_at x l.node l.slot ≡ None)) (sym (group_there w g h l.group n)) (s.lent j l (omega arith) is out));
  returned_over = λ j l b e back. (follows_at w g h j inside f).over (s.returned_over j l (omega arith) (sym (loan_same w g h j inside) ∙ e) back);
}

-- ---- a loan is over

group_stays : (w : Places) (g : ℕ) (l : Loan) (j : ℕ) → g < length w → group_at (with_loan w g l) j ≡ group_at w j
group_stays w g l j inside = dite (ℕ_discrete j g)
    (λ e. subst (λ (z : ℕ). group_at (with_loan w g l) z ≡ group_at w z) (sym e) (ap (λ (x : Place). x.group) (get_or-set_same w g (record (place_at w g) { loan = Some l }) nowhere inside)))
    (λ n. ap (λ (x : Place). x.group) (get_or-set_other w g j (record (place_at w g) { loan = Some l }) nowhere n))

abbrev loan_of_some : Loan → Option Loan → Loan
loan_of_some d None = d
loan_of_some d (Some l) = l

-- what a loan was before the loan of g was closed
record Was (w : Places) (g : ℕ) (j : ℕ) (k : Loan) : Type 0 where
  loan : Loan
  is : loan_at w j ≡ Some loan
  same : SameLoan k loan
  still : k.lent ≡ true → (loan ≡ k) × (j ≢ g)
  back : k.lent ≡ false → (loan.lent ≡ false) ⊎ (j ≡ g)

was : (w : Places) (g : ℕ) (l : Loan) (j : ℕ) (k : Loan) → g < length w → loan_at w g ≡ Some l → loan_at (closed w g l) j ≡ Some k → Was w g j k
was w g l j k inside e d = let c : Loan = record l { lent = false } in dite (ℕ_discrete j g)
    (λ here. let is : Some c ≡ Some k = sym (ap (λ (x : Place). x.loan) (get_or-set_same w g (record (place_at w g) { loan = Some c }) nowhere inside)) ∙ subst (λ (z : ℕ). loan_at (closed w g l) z ≡ Some k) here d in
    let q : c ≡ k = ap (loan_of_some c) is in
    record {
      loan = l;
      is = subst (λ (z : ℕ). loan_at w z ≡ Some l) (sym here) e;
      same = subst (λ (x : Loan). SameLoan x l) q (refl, refl, refl);
      still = λ out. not_both k.lent out (sym (ap (λ (x : Loan). x.lent) q));
      back = λ _. inr here;
    })
    (λ n. record { loan = k; is = sym (ap (λ (x : Place). x.loan) (get_or-set_other w g j (record (place_at w g) { loan = Some c }) nowhere n)) ∙ d; same = (refl, refl, refl); still = λ _. (refl, n); back = λ b. inl b })

sound_closed : (w : Places) (g : ℕ) (l : Loan) → Sound w → g < length w → loan_at w g ≡ Some l → (group_at w g).over ≡ true → Sound (closed w g l)
sound_closed w g l s inside e over = let c : Loan = record l { lent = false } in let same_length = length-set w g (record (place_at w g) { loan = Some c }) in record {
  kept = λ j b. subst Kept (sym (group_stays w g c j inside)) (s.kept j (omega arith));
  lender = λ j k b d. let p = was w g l j k inside e d in let o = s.lender j p.loan (omega arith) p.is in
      record {
        earlier = (let x = o.earlier in let y = p.same.0 in omega arith);
        node = subst (λ (x : Group). k.node < length x.nodes) (sym (group_stays w g c k.group inside)) (subst (λ (z : ℕ). k.node < length (group_at w z).nodes) (sym p.same.0) (let x = o.node in let y = p.same.1 in omega arith));
        slot = subst (λ (x : Group). k.slot < length (node_at x k.node).lent) (sym (group_stays w g c k.group inside))
            (subst (λ (z : ℕ). k.slot < length (node_at (group_at w z) k.node).lent) (sym p.same.0) (subst (λ (z : ℕ). k.slot < length (node_at (group_at w p.loan.group) z).lent) (sym p.same.1) (let x = o.slot in let y = p.same.2 in omega arith)));
      };
  own = λ i j k m b d e' d' same. let p = was w g l i k inside e e' in let q = was w g l j m inside e d' in
      s.own i j p.loan q.loan (omega arith) (omega arith) p.is q.is (sym p.same.0 ∙ same.0 ∙ q.same.0, sym p.same.1 ∙ same.1 ∙ q.same.1, sym p.same.2 ∙ same.2 ∙ q.same.2);
  lent = λ j k b d out. let p = was w g l j k inside e d in let t = (p.still out).0 in
      subst (λ (x : Group). ¬ (slot_at x k.node k.slot ≡ None)) (sym (group_stays w g c k.group inside))
      (subst (λ (x : Loan). ¬ (lent_at w x ≡ None)) t (s.lent j p.loan (omega arith) p.is (subst (λ (x : Loan). x.lent ≡ true) (sym t) out)));
  returned_over = λ j k b d back. let p = was w g l j k inside e d in subst (λ (x : Group). x.over ≡ true) (sym (group_stays w g c j inside))
      (⊎_elim (λ z. s.returned_over j p.loan (omega arith) p.is z) (λ here. subst (λ (z : ℕ). (group_at w z).over ≡ true) (sym here) over) (p.back back));
}

-- ---- a group more

place_before : (w : Places) (x : Place) (j : ℕ) → j < length w → place_at (w ++ x ∷ []) j ≡ place_at w j
place_before [] x j h = absurd (omega arith)
place_before (y ∷ w) x zero h = refl
place_before (y ∷ w) x (suc j) h = place_before w x j (omega arith)

place_last : (w : Places) (x : Place) → place_at (w ++ x ∷ []) (length w) ≡ x
place_last [] x = refl
place_last (y ∷ w) x = place_last w x

abbrev pub Fresh : Places → Loan → Type 0
Fresh w l = (j : ℕ) (k : Loan) → j < length w → loan_at w j ≡ Some k → ¬ (SameLoan k l)

-- each place of the longer world is one of before, or the last
data Sort (w : Places) (x : Place) (j : ℕ) : Type 0 where
  before : j < length w → place_at (w ++ x ∷ []) j ≡ place_at w j → Sort w x j
  last : j ≡ length w → place_at (w ++ x ∷ []) j ≡ x → Sort w x j

sort : (w : Places) (x : Place) (j : ℕ) → j < length (w ++ x ∷ []) → Sort w x j
sort w x j h = let same_length = length-append w (x ∷ []) in dite (ℕ_discrete j (length w))
    (λ e. last e (subst (λ (z : ℕ). place_at (w ++ x ∷ []) z ≡ x) (sym e) (place_last w x)))
    (λ n. let b : j < length w = omega arith in before b (place_before w x j b))

module _ (w : Places) (h : Group) (l : Loan) where
  abbrev new : Place
  new = record { group = h; loan = Some l }

  group_before : (j : ℕ) → j < length w → group_at (w ++ new ∷ []) j ≡ group_at w j
  group_before j b = ap (λ (x : Place). x.group) (place_before w new j b)

  has_before : (j : ℕ) (k : Loan) → j ≤ length w → HasLender w j k → HasLender (w ++ new ∷ []) j k
  has_before j k b o = let e : group_at (w ++ new ∷ []) k.group ≡ group_at w k.group = group_before k.group (let a = o.earlier in omega arith) in
      record { earlier = o.earlier; node = subst (λ (x : Group). k.node < length x.nodes) (sym e) o.node; slot = subst (λ (x : Group). k.slot < length (node_at x k.node).lent) (sym e) o.slot }

  is_new : (k : Loan) (j : ℕ) → place_at (w ++ new ∷ []) j ≡ new → loan_at (w ++ new ∷ []) j ≡ Some k → l ≡ k
  is_new k j e d = ap (loan_of_some l) (sym (ap (λ (x : Place). x.loan) e) ∙ d)

  was_there : (k : Loan) (j : ℕ) → place_at (w ++ new ∷ []) j ≡ place_at w j → loan_at (w ++ new ∷ []) j ≡ Some k → loan_at w j ≡ Some k
  was_there k j e d = sym (ap (λ (x : Place). x.loan) e) ∙ d

  sound_more : Sound w → Kept h → HasLender w (length w) l → l.lent ≡ true → ¬ (lent_at w l ≡ None) → Fresh w l → Sound (w ++ new ∷ [])
  sound_more s kept has out full fresh = record {
    kept = λ j b. kept_at j (sort w new j b);
    lender = λ j k b d. lender_at j k d (sort w new j b);
    own = λ i j k m b c e d same. own_at i j k m e d same (sort w new i b) (sort w new j c);
    lent = λ j k b d o. lent_at' j k d o (sort w new j b);
    returned_over = λ j k b d back. over_at j k d back (sort w new j b);
  }
    where
      kept_at : (j : ℕ) → Sort w new j → Kept (group_at (w ++ new ∷ []) j)
      kept_at j (before b e) = subst (λ (x : Place). Kept x.group) (sym e) (s.kept j b)
      kept_at j (last b e) = subst (λ (x : Place). Kept x.group) (sym e) kept

      lender_at : (j : ℕ) (k : Loan) → loan_at (w ++ new ∷ []) j ≡ Some k → Sort w new j → HasLender (w ++ new ∷ []) j k
      lender_at j k d (before b e) = has_before j k (omega arith) (s.lender j k b (was_there k j e d))
      lender_at j k d (last b e) = subst (λ (x : Loan). HasLender (w ++ new ∷ []) j x) (is_new k j e d) (subst (λ (z : ℕ). HasLender (w ++ new ∷ []) z l) (sym b) (has_before (length w) l (omega arith) has))

      own_at : (i j : ℕ) (k m : Loan) → loan_at (w ++ new ∷ []) i ≡ Some k → loan_at (w ++ new ∷ []) j ≡ Some m → SameLoan k m → Sort w new i → Sort w new j → i ≡ j
      own_at i j k m p q same (before b e) (before c f) = s.own i j k m b c (was_there k i e p) (was_there m j f q) same
      own_at i j k m p q same (before b e) (last c f) = absurd (fresh i k b (was_there k i e p) (subst (SameLoan k) (sym (is_new m j f q)) same))
      own_at i j k m p q same (last b e) (before c f) = absurd (fresh j m c (was_there m j f q) (subst (SameLoan m) (sym (is_new k i e p)) (sym same.0, sym same.1, sym same.2)))
      own_at i j k m p q same (last b e) (last c f) = omega arith

      lent_at' : (j : ℕ) (k : Loan) → loan_at (w ++ new ∷ []) j ≡ Some k → k.lent ≡ true → Sort w new j → ¬ (lent_at (w ++ new ∷ []) k ≡ None)
      lent_at' j k d o (before b e) = let is = was_there k j e d in let p = s.lender j k b is in
          subst (λ (x : Group). ¬ (slot_at x k.node k.slot ≡ None)) (sym (group_before k.group (let a = p.earlier in omega arith))) (s.lent j k b is o)
      lent_at' j k d o (last b e) = subst (λ (x : Loan). ¬ (lent_at (w ++ new ∷ []) x ≡ None)) (is_new k j e d)
          (subst (λ (x : Group). ¬ (slot_at x l.node l.slot ≡ None)) (sym (group_before l.group (let a = has.earlier in omega arith))) full)

      over_at : (j : ℕ) (k : Loan) → loan_at (w ++ new ∷ []) j ≡ Some k → k.lent ≡ false → Sort w new j → (group_at (w ++ new ∷ []) j).over ≡ true
      over_at j k d back (before b e) = subst (λ (x : Place). x.group.over ≡ true) (sym e) (s.returned_over j k b (was_there k j e d) back)
      over_at j k d back (last b e) = not_both k.lent (subst (λ (x : Loan). x.lent ≡ true) (is_new k j e d) out) back

-- ---- moves in a group

set_lent : (l : List Node) (i : ℕ) (w : Node) → w.lent ≡ (get_or l i idle).lent → (j : ℕ) → (get_or (set l i w) j idle).lent ≡ (get_or l j idle).lent
set_lent [] i w e j = refl
set_lent (x ∷ xs) zero w e zero = e
set_lent (x ∷ xs) zero w e (suc j) = refl
set_lent (x ∷ xs) (suc i) w e zero = refl
set_lent (x ∷ xs) (suc i) w e (suc j) = set_lent xs i w e j

record SameLoans (g h : Group) : Type 0 where
  nodes : length h.nodes ≡ length g.nodes
  lents : (i : ℕ) → (node_at h i).lent ≡ (node_at g i).lent
  over : g.over ≡ true → h.over ≡ true

same_took : (g : Group) (i : ℕ) (o : Option Path) → SameLoans g (took g i o)
same_took g i None = record { nodes = refl; lents = λ j. refl; over = λ o. o }
same_took g i (Some p) = record { nodes = length-set g.nodes i (take_node (node_at g i) p); lents = set_lent g.nodes i (take_node (node_at g i) p) refl; over = λ o. o }

same_after : (g : Group) (m : Move) → SameLoans g (after g m)
same_after g (move.Split i k) = record { nodes = length-set g.nodes i (split_node (node_at g i) k); lents = set_lent g.nodes i (split_node (node_at g i) k) refl; over = λ o. o }
same_after g (move.Shut i) = record { nodes = length-set g.nodes i (shut_node (node_at g i)); lents = set_lent g.nodes i (shut_node (node_at g i)) refl; over = λ o. o }
same_after g (move.Post i to) = record { nodes = length-set g.nodes i (post_node (node_at g i)); lents = set_lent g.nodes i (post_node (node_at g i)) refl; over = λ o. o }
same_after g (move.Take i) = same_took g i (mail_at g i)
same_after g (move.Pass i) = record { nodes = length-set g.nodes i (white (node_at g i)); lents = set_lent g.nodes i (white (node_at g i)) refl; over = λ o. o }
same_after g move.Probe = record { nodes = length-set g.nodes 0 (white (node_at g 0)); lents = set_lent g.nodes 0 (white (node_at g 0)) refl; over = λ o. o }
same_after g move.Over = record { nodes = refl; lents = λ j. refl; over = λ _. refl }

follows_same : (g h : Group) → SameLoans g h → Follows g h
follows_same g h a = record { nodes = a.nodes; slots = λ i l. (let e = ap length (a.lents i) in omega arith); over = a.over }

pub sound_move : (w : Places) (g : ℕ) (m : Move) → Sound w → InGroup w g m → Sound (in_group w g m)
sound_move w g m s can = let a = same_after (group_at w g) m in sound_group w g (after (group_at w g) m) s can.0 (keeps_each (group_at w g) m (s.kept g can.0) can.1) (follows_same (group_at w g) (after (group_at w g) m) a)
    (λ j l b is out here. let full : ¬ (slot_at (group_at w g) l.node l.slot ≡ None) = subst (λ (z : ℕ). ¬ (slot_at (group_at w z) l.node l.slot ≡ None)) here (s.lent j l b is out) in
    λ e. full (sym (ap (λ x. get_or x l.slot None) (a.lents l.node)) ∙ e))

-- nothing changes
pub sound_still : (w : Places) (g : ℕ) → Sound w → g < length w → Sound (with_group w g (group_at w g))
sound_still w g s inside = sound_group w g (group_at w g) s inside (s.kept g inside) (follows_itself (group_at w g))
    (λ j l b is out here. subst (λ (z : ℕ). ¬ (slot_at (group_at w z) l.node l.slot ≡ None)) here (s.lent j l b is out))

-- ---- a loan

longer_slots : (l : List Node) (i : ℕ) (w : Node) → length (get_or l i idle).lent ≤ length w.lent → (j : ℕ) → length (get_or l j idle).lent ≤ length (get_or (set l i w) j idle).lent
longer_slots [] i w h j = omega arith
longer_slots (x ∷ xs) zero w h zero = h
longer_slots (x ∷ xs) zero w h (suc j) = omega arith
longer_slots (x ∷ xs) (suc i) w h zero = omega arith
longer_slots (x ∷ xs) (suc i) w h (suc j) = longer_slots xs i w h j

kept_slot : (xs : List (Option Path)) (o : Option Path) (j : ℕ) → ¬ (get_or xs j None ≡ None) → ¬ (get_or (xs ++ o ∷ []) j None ≡ None)
kept_slot [] o j n = λ e. n refl
kept_slot (x ∷ xs) o zero n = n
kept_slot (x ∷ xs) o (suc j) n = kept_slot xs o j n

new_slot : (xs : List (Option Path)) (p : Path) → ¬ (get_or (xs ++ Some p ∷ []) (length xs) None ≡ None)
new_slot [] p = λ e. absurd (cc)
new_slot (x ∷ xs) p = new_slot xs p

kept_slots : (l : List Node) (i : ℕ) (o : Option Path) (w : Node) → w.lent ≡ (get_or l i idle).lent ++ o ∷ [] → (n j : ℕ) → ¬ (get_or (get_or l n idle).lent j None ≡ None) → ¬ (get_or (get_or (set l i w) n idle).lent j None ≡ None)
kept_slots [] i o w e n j h = h
kept_slots (x ∷ xs) zero o w e zero j h = λ is. kept_slot x.lent o j h (sym (ap (λ y. get_or y j None) e) ∙ is)
kept_slots (x ∷ xs) zero o w e (suc n) j h = h
kept_slots (x ∷ xs) (suc i) o w e zero j h = h
kept_slots (x ∷ xs) (suc i) o w e (suc n) j h = kept_slots xs i o w e n j h

sound_lends : (w : Places) (g i : ℕ) → Sound w → g < length w → Holds (group_at w g) i → Sound (with_group w g (lends (group_at w g) i))
sound_lends w g i s inside holds = let h : Group = group_at w g in let x : Node = lend_node (node_at h i) in
    let longer : length (node_at h i).lent ≤ length x.lent = (let n = length-append (node_at h i).lent (Some (newest (node_at h i).held) ∷ []) in omega arith) in
    sound_group w g (lends h i) s inside (keeps_lend h i (s.kept g inside) holds.0 holds.1 holds.2)
    (record { nodes = length-set h.nodes i x; slots = λ j l. longer_slots h.nodes i x longer j; over = λ o. o })
    (λ j l b is out here. kept_slots h.nodes i (Some (newest (node_at h i).held)) x refl l.node l.slot (subst (λ (z : ℕ). ¬ (slot_at (group_at w z) l.node l.slot ≡ None)) here (s.lent j l b is out)))

pub sound_lend : (w : Places) (g i size : ℕ) → Sound w → CanHappen w (event.Lend g i size) → Sound (happened w (event.Lend g i size))
sound_lend w g i size s can = let h : Group = group_at w g in let u : Places = with_group w g (lends h i) in let l : Loan = loan_of w g i in let inside : g < length w = can.0 in let holds : Holds h i = can.1 in
    let same_length = length-set w g (record (place_at w g) { group = lends h i }) in let more = length-append (node_at h i).lent (Some (newest (node_at h i).held) ∷ []) in
    let x : Node = lend_node (node_at h i) in
    let there : node_at (lends h i) i ≡ x = get_or-set_same h.nodes i x idle holds.1 in
    let here : group_at u g ≡ lends h i = group_here w g (lends h i) inside in
    sound_more u (new_group size 0) l (sound_lends w g i s inside holds) (begins size 0 can.2)
    (record {
      earlier = omega arith;
      node = subst (λ (y : Group). i < length y.nodes) (sym here) (let n = length-set h.nodes i x in let m = holds.1 in omega arith);
      slot = subst (λ (y : Group). l.slot < length (node_at y i).lent) (sym here) (subst (λ (y : Node). l.slot < length y.lent) (sym there) (omega arith));
    })
    refl
    (subst (λ (y : Group). ¬ (slot_at y i l.slot ≡ None)) (sym here) (subst (λ (y : Node). ¬ (get_or y.lent l.slot None ≡ None)) (sym there) (new_slot (node_at h i).lent (newest (node_at h i).held))))
    (λ j k b is same. let o = s.lender j k (omega arith) (sym (loan_same w g (lends h i) j inside) ∙ is) in
    let a : k.slot < length (node_at (group_at w g) k.node).lent = subst (λ (z : ℕ). k.slot < length (node_at (group_at w z) k.node).lent) same.0 o.slot in
    let c : k.slot < length (node_at (group_at w g) i).lent = subst (λ (z : ℕ). k.slot < length (node_at (group_at w g) z).lent) same.1 a in let e = same.2 in absurd (omega arith))

-- ---- and its end

none_at : (l : List (Option Path)) (j : ℕ) → total full l ≡ 0 → get_or l j None ≡ None
none_at [] j z = refl
none_at (None ∷ xs) zero z = refl
none_at (Some p ∷ xs) zero z = absurd (omega arith)
none_at (x ∷ xs) (suc j) z = none_at xs j (omega arith)

other_slots : (l : List Node) (i k : ℕ) (w : Node) → w.lent ≡ set (get_or l i idle).lent k None → (n j : ℕ) → ¬ ((n ≡ i) × (j ≡ k)) → ¬ (get_or (get_or l n idle).lent j None ≡ None) → ¬ (get_or (get_or (set l i w) n idle).lent j None ≡ None)
other_slots [] i k w e n j d h = h
other_slots (x ∷ xs) zero k w e zero j d h = λ is. h (sym (get_or-set_other x.lent k j None None (λ q. d (refl, q))) ∙ sym (ap (λ y. get_or y j None) e) ∙ is)
other_slots (x ∷ xs) zero k w e (suc n) j d h = h
other_slots (x ∷ xs) (suc i) k w e zero j d h = h
other_slots (x ∷ xs) (suc i) k w e (suc n) j d h = other_slots xs i k w e n j (λ q. d (ap suc q.0, q.1)) h

longer_after : (x : Node) (j : ℕ) (o : Option Path) → length x.lent ≤ length (came_back x j o).lent
longer_after x j None = omega arith
longer_after x j (Some p) = let n = length-set x.lent j None in omega arith

kept_back : (h : Group) (i j : ℕ) (o : Option Path) → slot_at h i j ≡ o → Kept h → i < length h.nodes → j < length (node_at h i).lent → ¬ (o ≡ None) → Kept (with_node h i (came_back (node_at h i) j o)) × ((came_back (node_at h i) j o).lent ≡ set (node_at h i).lent j None)
kept_back h i j None is r inside there n = absurd (n refl)
kept_back h i j (Some p) is r inside there n = (keeps_back h i j p r inside there is, refl)

pub sound_back : (w : Places) (g : ℕ) (l : Loan) → Sound w → g < length w → (group_at w g).over ≡ true → loan_at w g ≡ Some l → l.lent ≡ true → Sound (returned w g (Some l))
sound_back w g l s inside over is out = let c : Loan = record l { lent = false } in let u : Places = closed w g l in let t = sound_closed w g l s inside is over in let same_length = length-set w g (record (place_at w g) { loan = Some c }) in
    let o = s.lender g l inside is in let h : Group = group_at u l.group in let e : h ≡ group_at w l.group = group_stays w g c l.group inside in
    let x : Node = came_back (node_at h l.node) l.slot (slot_at h l.node l.slot) in
    let node : l.node < length h.nodes = subst (λ (y : Group). l.node < length y.nodes) (sym e) o.node in
    let slot : l.slot < length (node_at h l.node).lent = subst (λ (y : Group). l.slot < length (node_at y l.node).lent) (sym e) o.slot in
    let full : ¬ (slot_at h l.node l.slot ≡ None) = subst (λ (y : Group). ¬ (slot_at y l.node l.slot ≡ None)) (sym e) (s.lent g l inside is out) in
    let lower : l.group < length u = (let a = o.earlier in omega arith) in
    let k = kept_back h l.node l.slot (slot_at h l.node l.slot) refl (t.kept l.group lower) node slot full in
    sound_group u l.group (with_node h l.node x) t lower k.0
    (record { nodes = length-set h.nodes l.node x; slots = λ j _. longer_slots h.nodes l.node x (longer_after (node_at h l.node) l.slot (slot_at h l.node l.slot)) j; over = λ z. z })
    (λ j m b d still here. let p = was w g l j m inside is d in let q = (p.still still).1 in
    other_slots h.nodes l.node l.slot x k.1 m.node m.slot
    (λ same. q (s.own j g p.loan l (omega arith) inside p.is is (sym p.same.0 ∙ here, sym p.same.1 ∙ same.0, sym p.same.2 ∙ same.1)))
    (subst (λ (z : ℕ). ¬ (slot_at (group_at u z) m.node m.slot ≡ None)) here (t.lent j m b d still)))

sound_returned : (w : Places) (g : ℕ) (o : Option Loan) → loan_at w g ≡ o → Sound w → g < length w → (group_at w g).over ≡ true → IsLentTo o → Sound (returned w g o)
sound_returned w g None is s inside over out = absurd out
sound_returned w g (Some l) is s inside over out = sound_back w g l s inside over is out

-- ---- each event

pub sound_after : (w : Places) (e : Event) → Sound w → CanHappen w e → Sound (happened w e)
sound_after w (event.Split g i k) s can = sound_move w g (move.Split i k) s can
sound_after w (event.Shut g i) s can = sound_move w g (move.Shut i) s can
sound_after w (event.Post g i to) s can = sound_move w g (move.Post i to) s can
sound_after w (event.Take g i) s can = sound_move w g (move.Take i) s can
sound_after w (event.Pass g i) s can = sound_move w g (move.Pass i) s can
sound_after w (event.Probe g) s can = sound_move w g move.Probe s can
sound_after w (event.Over g) s can = sound_move w g move.Over s can
sound_after w (event.Lend g i size) s can = sound_lend w g i size s can
sound_after w (event.Back g) s can = sound_returned w g (loan_at w g) refl s can.0 can.1 can.2

pub sound_new : (n start : ℕ) → start < n → Sound (new_world n start)
sound_new n start h = record {
  kept = λ g b. subst (λ (z : ℕ). Kept (group_at (new_world n start) z)) (let e : 0 ≡ g = omega arith in e) (begins n start h);
  lender = λ g l b e. absurd (none_here g l e);
  own = λ g j l k b c e d same. absurd (none_here g l e);
  lent = λ g l b e out. absurd (none_here g l e);
  returned_over = λ g l b e back. absurd (none_here g l e);
}
  where
    none_here : (g : ℕ) (l : Loan) → loan_at (new_world n start) g ≡ Some l → ⊥
    none_here zero l e = absurd (cc)
    none_here (suc g) l e = absurd (cc)

-- ---- a group that is over is quiet, with all below it

next_over : (w : Places) (g : ℕ) (l : Loan) → Sound w → g < length w → loan_at w g ≡ Some l → (group_at w l.group).over ≡ true → (group_at w g).over ≡ true
next_over w g l s inside e over = by_test l.lent
    (λ out. let o = s.lender g l inside e in let lower : l.group < length w = (let a = o.earlier in omega arith) in
    absurd (s.lent g l inside e out (none_at (node_at (group_at w l.group) l.node).lent l.slot (((s.kept l.group lower).quiet over).0 l.node o.node).1)))
    (λ back. s.returned_over g l inside e back)

below_over : (w : Places) (g h : ℕ) → Sound w → Below w g h → (group_at w h).over ≡ true → IsOver w g
below_over w g h s (direct g' l inside e) over = (inside, next_over w g' l s inside e over)
below_over w g h s (further g' h' l b inside e) over = below_over w g' h' s b (next_over w h' l s inside e over)

pub over_is_quiet : (w : Places) → Sound w → OverIsQuiet w
over_is_quiet w s g o = ((s.kept g o.0).quiet o.1, λ j b. below_over w j g s b o.1)

-- ---- and stays over

stays_in : (w : Places) (g : ℕ) (h : Group) → Follows (group_at w g) h → g < length w → StayOver w (with_group w g h)
stays_in w g h f inside j o = let n = length-set w g (record (place_at w g) { group = h }) in let b = o.0 in (omega arith, (follows_at w g h j inside f).over o.1)

stays_move : (w : Places) (g : ℕ) (m : Move) → InGroup w g m → StayOver w (in_group w g m)
stays_move w g m can = stays_in w g (after (group_at w g) m) (follows_same (group_at w g) (after (group_at w g) m) (same_after (group_at w g) m)) can.0

stays_more : (w : Places) (x : Place) → StayOver w (w ++ x ∷ [])
stays_more w x j o = let n = length-append w (x ∷ []) in let b = o.0 in (omega arith, subst (λ (y : Place). y.group.over ≡ true) (sym (place_before w x j o.0)) o.1)

stays_returned : (w : Places) (g : ℕ) (o : Option Loan) → loan_at w g ≡ o → Sound w → g < length w → StayOver w (returned w g o)
stays_returned w g None is s inside j o = o
stays_returned w g (Some l) is s inside j o = let c : Loan = record l { lent = false } in let u : Places = closed w g l in let n = length-set w g (record (place_at w g) { loan = Some c }) in let p = s.lender g l inside is in
    let h : Group = group_at u l.group in let x : Node = came_back (node_at h l.node) l.slot (slot_at h l.node l.slot) in
    stays_in u l.group (with_node h l.node x)
    (record { nodes = length-set h.nodes l.node x; slots = λ k _. longer_slots h.nodes l.node x (longer_after (node_at h l.node) l.slot (slot_at h l.node l.slot)) k; over = λ z. z })
    (let a = p.earlier in omega arith) j ((let b = o.0 in omega arith), subst (λ (y : Group). y.over ≡ true) (sym (group_stays w g c j inside)) o.1)

stays_lend : (w : Places) (g i size : ℕ) → CanHappen w (event.Lend g i size) → StayOver w (happened w (event.Lend g i size))
stays_lend w g i size can j o = let h : Group = group_at w g in let x : Node = lend_node (node_at h i) in
    let longer : length (node_at h i).lent ≤ length x.lent = (let n = length-append (node_at h i).lent (Some (newest (node_at h i).held) ∷ []) in omega arith) in
    stays_more (with_group w g (lends h i)) (record { group = new_group size 0; loan = Some (loan_of w g i) }) j
    (stays_in w g (lends h i) (record { nodes = length-set h.nodes i x; slots = λ k _. longer_slots h.nodes i x longer k; over = λ z. z }) can.0 j o)

pub stays_after : (w : Places) (e : Event) → Sound w → CanHappen w e → StayOver w (happened w e)
stays_after w (event.Split g i k) s can = stays_move w g (move.Split i k) can
stays_after w (event.Shut g i) s can = stays_move w g (move.Shut i) can
stays_after w (event.Post g i to) s can = stays_move w g (move.Post i to) can
stays_after w (event.Take g i) s can = stays_move w g (move.Take i) can
stays_after w (event.Pass g i) s can = stays_move w g (move.Pass i) can
stays_after w (event.Probe g) s can = stays_move w g move.Probe can
stays_after w (event.Over g) s can = stays_move w g move.Over can
stays_after w (event.Lend g i size) s can = stays_lend w g i size can
stays_after w (event.Back g) s can = stays_returned w g (loan_at w g) refl s can.0

-- ---- lists of events

pub sound_along : (es : List Event) (w v : Places) → Sound w → Runs w es v → Sound v
sound_along [] w v s r = subst Sound r s
sound_along (e ∷ es) w v s r = sound_along es (happened w e) v (sound_after w e s r.0) r.1

pub stays_along : (es : List Event) (w v : Places) → Sound w → Runs w es v → StayOver w v
stays_along [] w v s r = subst (StayOver w) r (λ g o. o)
stays_along (e ∷ es) w v s r = λ g o. stays_along es (happened w e) v (sound_after w e s r.0) r.1 g (stays_after w e s r.0 g o)
