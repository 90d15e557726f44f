-- Groups of groups: a path that a node lends belongs to one new group, and goes back to that node when the group is over.
use Rattle.std.specs.Prelude.{◌≡◌, ℕ, ◌<◌, ◌≤◌, true, false, List, [], ◌∷◌, ◌++◌, length, slice_index_or, slice_set, Option, Some, None}
use Rattle.msl_base.specs.declared.limits.TheConstants.{MOST_MEMBERS}
use Rattle.msl_core.specs.declared.event.Applied.{Applied}
use Rattle.msl_core.specs.declared.event.Applied.TheVariants.{Done, NotEnabled, NoMemory}
use Rattle.msl_core.specs.declared.event.Event.{Event}
use Rattle.msl_core.specs.declared.event.Event.TheVariants as event
use Rattle.msl_core.specs.declared.event.Move.{Move}
use Rattle.msl_core.specs.declared.event.Move.TheVariants as move
use Rattle.msl_core.specs.declared.place.Loan.{Loan}
use Rattle.msl_core.specs.declared.place.Place.{Place}
use Rattle.msl_core.specs.Groups.{Path, Group, Enabled, Holds, after, Kept, Quiet, new_group, node_at, slot_at, lends, gets_back}

-- a group at each place, and where it was lent to, its loan
abbrev pub Places : Type 0
Places = List Place

abbrev pub nowhere : Place
nowhere = record { group = new_group 1 0; loan = None }

abbrev pub place_at : Places → ℕ → Place
place_at w g = slice_index_or w g nowhere

abbrev pub group_at : Places → ℕ → Group
group_at w g = (place_at w g).group

abbrev pub loan_at : Places → ℕ → Option Loan
loan_at w g = (place_at w g).loan

-- the path of a loan; none where it came back
abbrev pub lent_at : Places → Loan → Option Path
lent_at w l = slot_at (group_at w l.group) l.node l.slot

abbrev pub IsLentTo : Option Loan → Type 0
IsLentTo None = ⊥
IsLentTo (Some l) = l.lent ≡ true

abbrev pub new_world : ℕ → ℕ → Places
new_world n start = record { group = new_group n start; loan = None } ∷ []

-- ---- what may happen

abbrev pub InGroup : Places → ℕ → Move → Type 0
InGroup w g m = (g < length w) × Enabled (group_at w g) m

abbrev pub CanHappen : Places → Event → Type 0
CanHappen w (event.Split g i k) = InGroup w g (move.Split i k)
CanHappen w (event.Shut g i) = InGroup w g (move.Shut i)
CanHappen w (event.Post g i to) = InGroup w g (move.Post i to)
CanHappen w (event.Take g i) = InGroup w g (move.Take i)
CanHappen w (event.Pass g i) = InGroup w g (move.Pass i)
CanHappen w (event.Probe g) = InGroup w g move.Probe
CanHappen w (event.Over g) = InGroup w g move.Over
CanHappen w (event.Lend g i size) = (g < length w) × Holds (group_at w g) i × (1 ≤ size) × (size ≤ MOST_MEMBERS)
CanHappen w (event.Back g) = (g < length w) × ((group_at w g).over ≡ true) × IsLentTo (loan_at w g)

-- ---- what then is

abbrev pub with_group : Places → ℕ → Group → Places
with_group w g h = slice_set w g (record (place_at w g) { group = h })

abbrev pub with_loan : Places → ℕ → Loan → Places
with_loan w g l = slice_set w g (record (place_at w g) { loan = Some l })

abbrev pub in_group : Places → ℕ → Move → Places
in_group w g m = with_group w g (after (group_at w g) m)

abbrev pub loan_of : Places → ℕ → ℕ → Loan
loan_of w g i = record { group = g; node = i; slot = length (node_at (group_at w g) i).lent; lent = true }

abbrev pub closed : Places → ℕ → Loan → Places
closed w g l = with_loan w g (record l { lent = false })

abbrev pub returned : Places → ℕ → Option Loan → Places
returned w g None = w
returned w g (Some l) = with_group (closed w g l) l.group (gets_back (group_at (closed w g l) l.group) l.node l.slot)

abbrev pub happened : Places → Event → Places
happened w (event.Split g i k) = in_group w g (move.Split i k)
happened w (event.Shut g i) = in_group w g (move.Shut i)
happened w (event.Post g i to) = in_group w g (move.Post i to)
happened w (event.Take g i) = in_group w g (move.Take i)
happened w (event.Pass g i) = in_group w g (move.Pass i)
happened w (event.Probe g) = in_group w g move.Probe
happened w (event.Over g) = in_group w g move.Over
happened w (event.Lend g i size) = with_group w g (lends (group_at w g) i) ++ record { group = new_group size 0; loan = Some (loan_of w g i) } ∷ []
happened w (event.Back g) = returned w g (loan_at w g)

-- it happened where it could; it is refused exactly where it can't; where memory runs out, all stays
abbrev pub Applies : Places → Event → Applied → Places → Type 0
Applies w e Done v = CanHappen w e × (v ≡ happened w e)
Applies w e (NotEnabled refused) v = (refused ≡ e) × ¬ (CanHappen w e) × (v ≡ w)
Applies w e NoMemory v = CanHappen w e × (v ≡ w)

-- ---- the facts

-- the lender comes before the group, and has a slot for the path
pub record HasLender (w : Places) (g : ℕ) (l : Loan) : Type 0 where
  pub earlier : l.group < g
  pub node : l.node < length (group_at w l.group).nodes
  pub slot : l.slot < length (node_at (group_at w l.group) l.node).lent

abbrev pub SameLoan : Loan → Loan → Type 0
SameLoan l k = (l.group ≡ k.group) × (l.node ≡ k.node) × (l.slot ≡ k.slot)

pub record Sound (w : Places) : Type 0 where
  pub kept : (g : ℕ) → g < length w → Kept (group_at w g)
  pub lender : (g : ℕ) (l : Loan) → g < length w → loan_at w g ≡ Some l → HasLender w g l
  -- a loan is of one group
  pub own : (g h : ℕ) (l k : Loan) → g < length w → h < length w → loan_at w g ≡ Some l → loan_at w h ≡ Some k → SameLoan l k → g ≡ h
  -- while a group is lent to, its path is with the lender's loans
  pub lent : (g : ℕ) (l : Loan) → g < length w → loan_at w g ≡ Some l → l.lent ≡ true → ¬ (lent_at w l ≡ None)
  -- a group that was lent to and is lent to no more is over
  pub returned_over : (g : ℕ) (l : Loan) → g < length w → loan_at w g ≡ Some l → l.lent ≡ false → (group_at w g).over ≡ true

-- g lies below h by a chain of loans
pub data Below (w : Places) : ℕ → ℕ → Type 0 where
  direct : (g : ℕ) (l : Loan) → g < length w → loan_at w g ≡ Some l → Below w g l.group
  further : (g h : ℕ) (l : Loan) → Below w g h → h < length w → loan_at w h ≡ Some l → Below w g l.group

abbrev pub IsOver : Places → ℕ → Type 0
IsOver w g = (g < length w) × ((group_at w g).over ≡ true)

-- no path is held, in a mail or lent, and every group below is over
abbrev pub QuietAll : Places → ℕ → Type 0
QuietAll w h = Quiet (group_at w h) × ((g : ℕ) → Below w g h → IsOver w g)

abbrev pub OverIsQuiet : Places → Type 0
OverIsQuiet w = (g : ℕ) → IsOver w g → QuietAll w g

abbrev pub StayOver : Places → Places → Type 0
StayOver w v = (g : ℕ) → IsOver w g → IsOver v g

-- a list of events, each of which may happen where it stands
abbrev pub Runs : Places → List Event → Places → Type 0
Runs w [] v = w ≡ v
Runs w (e ∷ es) v = CanHappen w e × Runs (happened w e) es v
