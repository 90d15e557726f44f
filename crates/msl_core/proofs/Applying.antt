-- What the world's functions do to its list of places.
use Rattle.std.proofs.Common.{◌≡◌, ℕ, zero, suc, ◌<◌, ◌≢◌, true, false, List, [], ◌∷◌, ◌++◌, length, get_or, set, Option, Some, None, Result, Ok, Err, sym, refl, ap, ◌∙◌, subst, arith, length-set, get_or-set_other}
use Rattle.std.proofs.lemmas.List.{get_or_default}
use Rattle.msl_core.specs.declared.event.Applied.{Applied}
use Rattle.msl_core.specs.declared.event.Applied.TheVariants as applied
use Rattle.msl_core.specs.declared.event.Event.{Event}
use Rattle.msl_core.specs.declared.event.Event.TheVariants as event
use Rattle.msl_core.specs.declared.event.Move.{Move}
use Rattle.msl_core.specs.declared.event.Refusal.{Refusal}
use Rattle.msl_core.specs.declared.event.Refusal.TheVariants.{NotEnabled, NoMemory}
use Rattle.msl_core.specs.declared.place.Loan.{Loan}
use Rattle.msl_core.specs.declared.place.Place.{Place}
use Rattle.msl_core.specs.Groups.{Group, Enabled, after, full, lends, new_group, node_at, slot_at, gets_back}
use Rattle.msl_core.specs.Outcomes.{Comes}
use Rattle.msl_core.specs.Worlds.{Places, nowhere, place_at, group_at, loan_at, lent_at, CanHappen, IsLentTo, Sound, StayOver, Applies, with_group, closed, returned, happened}
use Rattle.msl_core.proofs.Worlds.{sound_new, sound_move, sound_back, stays_after, sound_still}

-- what a reference to a place shows
pub place_is : (w : Places) (i : ℕ) (x : Place) → x ≡ get_or w i x → i < length w → x ≡ place_at w i
place_is w i x e inside = e ∙ get_or_default w i x nowhere inside

-- ---- a new world

pub sound_alone : (n start : ℕ) (w v : Places) (g : Group) → start < n → v ≡ w ++ record { group = g; loan = None } ∷ [] → w ≡ [] → g ≡ new_group n start → Sound v
sound_alone n start w v g h v_is w_is g_is = subst Sound
    (sym (v_is ∙ ap (λ (l : Places). l ++ record { group = g; loan = None } ∷ []) w_is ∙ ap (λ (x : Group). let y : Place = record { group = x; loan = None } in y ∷ []) g_is))
    (sound_new n start h)

-- ---- a move in a group

sound_came : (w : Places) (g : ℕ) (m : Move) (h : Group) (r : Result (Unit {0}) Refusal) → Sound w → g < length w → Comes (Enabled (group_at w g) m) (group_at w g) (after (group_at w g) m) h r → Sound (with_group w g h)
sound_came w g m h (Ok _) s inside c = subst (λ (x : Group). Sound (with_group w g x)) (sym c.1) (sound_move w g m s (inside, c.0))
sound_came w g m h (Err NotEnabled) s inside c = subst (λ (x : Group). Sound (with_group w g x)) (sym c.1) (sound_still w g s inside)
sound_came w g m h (Err NoMemory) s inside c = subst (λ (x : Group). Sound (with_group w g x)) (sym c.1) (sound_still w g s inside)

pub sound_made : (w : Places) (g : ℕ) (m : Move) (x : Place) (h : Group) (r : Result (Unit {0}) Refusal) → Sound w → g < length w → x ≡ place_at w g → Comes (Enabled x.group m) x.group (after x.group m) h r → Sound (set w g (record x { group = h }))
sound_made w g m x h r s inside e c = subst (λ (y : Place). Sound (set w g (record y { group = h }))) (sym e)
    (sound_came w g m h r s inside (subst (λ (y : Place). Comes (Enabled y.group m) y.group (after y.group m) h r) e c))

-- ---- a loan that comes back

set-commutes : {A : Type 0} (l : List A) (i j : ℕ) (x y : A) → i ≢ j → set (set l i x) j y ≡ set (set l j y) i x
set-commutes [] i j x y n = refl
set-commutes (z ∷ l) zero zero x y n = absurd (n refl)
set-commutes (z ∷ l) zero (suc j) x y n = refl
set-commutes (z ∷ l) (suc i) zero x y n = refl
set-commutes (z ∷ l) (suc i) (suc j) x y n = ap (λ k. z ∷ k) (set-commutes l i j x y (λ e. n (ap suc e)))

pub back_is : (w : Places) (i : ℕ) (l : Loan) (x y : Place) (h : Group) → l.group < i → x ≡ place_at w l.group → h ≡ gets_back x.group l.node l.slot → y ≡ place_at (set w l.group (record x { group = h })) i
    → set (set w l.group (record x { group = h })) i (record y { loan = Some (record l { lent = false }) }) ≡ returned w i (Some l)
back_is w i l x y h below x_is h_is y_is = let n : l.group ≢ i = (λ e. absurd (omega arith)) in
    let c : Loan = record l { lent = false } in let lent_to : Place = record (place_at w i) { loan = Some c } in
    let p : y ≡ place_at w i = y_is ∙ get_or-set_other w l.group i (record x { group = h }) nowhere (λ e. n (sym e)) in
    let q : place_at (closed w i l) l.group ≡ place_at w l.group = get_or-set_other w i l.group lent_to nowhere n in
    ap (λ (z : Place). set (set w l.group (record x { group = h })) i (record z { loan = Some c })) p
    ∙ set-commutes w l.group i (record x { group = h }) lent_to n
    ∙ ap (λ (z : Group). set (closed w i l) l.group (record x { group = z })) h_is
    ∙ ap (λ (z : Place). set (closed w i l) l.group (record z { group = gets_back z.group l.node l.slot })) (x_is ∙ sym q)

full_unless : (o : Option (List ℕ)) → ¬ (o ≡ None) → full o ≡ 1
full_unless None n = absurd (n refl)
full_unless (Some p) n = refl

pub lent_full : (w : Places) (g : ℕ) (l : Loan) → Sound w → g < length w → loan_at w g ≡ Some l → l.lent ≡ true → full (lent_at w l) ≡ 1
lent_full w g l s inside e out = full_unless (lent_at w l) (s.lent g l inside e out)

module _ (w : Places) (i : ℕ) (a b : Place) (l : Loan) (s : Sound w) (inside : i < length w) (a_is : a ≡ get_or w i a) (over : a.group.over ≡ true) (b_is : b ≡ get_or w i b) (loan : b.loan ≡ Some l) (out : l.lent ≡ true) where
  is : loan_at w i ≡ Some l
  is = ap (λ (x : Place). x.loan) (sym (place_is w i b b_is inside)) ∙ loan

  is_over : (group_at w i).over ≡ true
  is_over = ap (λ (x : Place). x.group.over) (sym (place_is w i a a_is inside)) ∙ over

  pub lower : l.group < i
  lower = (s.lender i l inside is).earlier

  below : l.group < length w
  below = let e = lower in omega arith

  pub node_there : (x : Place) → x ≡ get_or w l.group x → l.node < length x.group.nodes
  node_there x e = subst (λ (y : Place). l.node < length y.group.nodes) (sym (place_is w l.group x e below)) (s.lender i l inside is).node

  pub path_there : (x : Place) → x ≡ get_or w l.group x → full (slot_at x.group l.node l.slot) ≡ 1
  path_there x e = subst (λ (y : Place). full (slot_at y.group l.node l.slot) ≡ 1) (sym (place_is w l.group x e below)) (lent_full w i l s inside is out)

  pub back_happens : CanHappen w (event.Back i)
  back_happens = (inside, is_over, subst IsLentTo (sym is) out)

  module _ (x y : Place) (h : Group) (x_is : x ≡ get_or w l.group x) (h_is : h ≡ gets_back x.group l.node l.slot) (y_is : y ≡ get_or (set w l.group (record x { group = h })) i y) where
    then_is : set (set w l.group (record x { group = h })) i (record y { loan = Some (record l { lent = false }) }) ≡ returned w i (Some l)
    then_is = let n = length-set w l.group (record x { group = h }) in back_is w i l x y h lower (place_is w l.group x x_is below) h_is (place_is (set w l.group (record x { group = h })) i y y_is (omega arith))

    pub back_sound : Sound (set (set w l.group (record x { group = h })) i (record y { loan = Some (record l { lent = false }) }))
    back_sound = subst Sound (sym then_is) (sound_back w i l s inside is_over is out)

    pub back_done : set (set w l.group (record x { group = h })) i (record y { loan = Some (record l { lent = false }) }) ≡ returned w i (loan_at w i)
    back_done = then_is ∙ ap (returned w i) (sym is)

-- ---- a loan

pub lend_is : (w : Places) (g i size slot : ℕ) (x : Place) (h inner : Group) → x ≡ place_at w g → h ≡ lends x.group i → inner ≡ new_group size 0 → slot ≡ length (node_at x.group i).lent
    → set w g (record x { group = h }) ++ record { group = inner; loan = Some (record { group = g; node = i; slot = slot; lent = true }) } ∷ [] ≡ happened w (event.Lend g i size)
lend_is w g i size slot x h inner x_is h_is inner_is slot_is =
    ap (λ (y : Group). set w g (record x { group = y }) ++ record { group = inner; loan = Some (record { group = g; node = i; slot = slot; lent = true }) } ∷ []) h_is
    ∙ ap (λ (y : Group). set w g (record x { group = lends x.group i }) ++ record { group = y; loan = Some (record { group = g; node = i; slot = slot; lent = true }) } ∷ []) inner_is
    ∙ ap (λ (n : ℕ). set w g (record x { group = lends x.group i }) ++ record { group = new_group size 0; loan = Some (record { group = g; node = i; slot = n; lent = true }) } ∷ []) slot_is
    ∙ ap (λ (y : Place). set w g (record y { group = lends y.group i }) ++ record { group = new_group size 0; loan = Some (record { group = g; node = i; slot = length (node_at y.group i).lent; lent = true }) } ∷ []) x_is

-- ---- whatever an event comes to

pub stays_applied : (w v : Places) (e : Event) (r : Applied) → Sound w → Applies w e r v → StayOver w v
stays_applied w v e applied.Done s a = subst (StayOver w) (sym a.1) (stays_after w e s a.0)
stays_applied w v e (applied.NotEnabled f) s a = subst (StayOver w) (sym a.2) (λ g o. o)
stays_applied w v e applied.NoMemory s a = subst (StayOver w) (sym a.1) (λ g o. o)
