-- One group of nodes that divide a tree among them, what may happen in it, and the facts that this keeps.
--
-- A node holds paths, shuts them, splits them and posts them to other nodes. A token goes round, from the last node to
-- node 0, and adds up what the nodes have sent less what they got; a node that got a path since the token was there is
-- black. Where the token comes home white to a white node and the sum is 0, no path is left anywhere, and the group is over.
use Rattle.std.specs.Prelude.{◌≡◌, ℕ, zero, suc, ◌+◌, ◌-◌, ◌<◌, ◌≤◌, Bool, true, false, ◌==◌, cond, ◌||◌, List, [], ◌∷◌, ◌++◌, length, slice_index_or, slice_set, take, drop, replicate, flat_map, ℤ, pos, ◌+ℤ◌, ◌-ℤ◌, ◌<ℤ◌, ◌⊎◌, Option, Some, None}
use Rattle.std.specs.Str.{bytes_eq}
use Rattle.msl_base.specs.Covers as covers
use Rattle.msl_base.specs.Covers.{children, all_children, split_paths, split}
use Rattle.msl_base.specs.declared.limits.TheConstants.{MOST_CHILDREN, MOST_LEVELS}
use Rattle.msl_core.specs.declared.event.Move.{Move}
use Rattle.msl_core.specs.declared.event.Move.TheVariants.{Split, Shut, Post, Take, Pass, Probe, Over}

abbrev pub Path : Type 0
Path = List ℕ

pub record Node : Type 0 where
  -- from oldest to newest
  pub held : List Path
  -- the paths that were lent, by the number of the loan; none where it came back
  pub lent : List (Option Path)
  pub shut : List Path
  pub splits : List covers.Split
  -- how many paths the node has sent, less how many it got
  pub surplus : ℤ
  pub black : Bool

-- the token is at a node, and has a tally of surpluses and a colour; the root began at a node
pub record Group : Type 0 where
  pub nodes : List Node
  pub mails : List (Option Path)
  pub at : ℕ
  pub tally : ℤ
  pub black : Bool
  pub over : Bool
  pub start : ℕ

-- ---- counts

-- 1 where these are the same path, else 0
abbrev pub once : Path → Path → ℕ
once p q = cond (bytes_eq p q) 1 0

-- how often p is in a list
abbrev pub often : Path → List Path → ℕ
often p [] = 0
often p (q ∷ qs) = once p q + often p qs

abbrev pub total : {A : Type 0} → (A → ℕ) → List A → ℕ
total f [] = 0
total f (x ∷ xs) = f x + total f xs

abbrev pub surpluses : List Node → ℤ
surpluses [] = pos 0
surpluses (x ∷ xs) = x.surplus +ℤ surpluses xs

abbrev pub once_in : Path → Option Path → ℕ
once_in p None = 0
once_in p (Some q) = once p q

abbrev pub full : Option Path → ℕ
full None = 0
full (Some q) = 1

-- ---- nodes, and the ends of lists

abbrev pub idle : Node
idle = record { held = []; lent = []; shut = []; splits = []; surplus = pos 0; black = false }

abbrev pub node_at : Group → ℕ → Node
node_at g i = slice_index_or g.nodes i idle

abbrev pub mail_at : Group → ℕ → Option Path
mail_at g i = slice_index_or g.mails i None

-- all but the newest, and the newest
abbrev pub older : {A : Type 0} → List A → List A
older [] = []
older (x ∷ []) = []
older (x ∷ (y ∷ ys)) = x ∷ older (y ∷ ys)

abbrev pub newest : List Path → Path
newest [] = []
newest (x ∷ []) = x
newest (x ∷ (y ∷ ys)) = newest (y ∷ ys)

-- the oldest, and all but the oldest
abbrev pub oldest : List Path → Path
oldest [] = []
oldest (p ∷ ps) = p

abbrev pub newer : List Path → List Path
newer [] = []
newer (p ∷ ps) = ps

-- how many paths are lent
abbrev pub lent_out : Node → ℕ
lent_out x = total full x.lent

abbrev pub Passive : Node → Type 0
Passive x = (x.held ≡ []) × (lent_out x ≡ 0)

-- ---- what may happen

-- node 0 is passive and white, the token is white, and all surpluses are 0 in sum
abbrev pub Ends : Group → Type 0
Ends g = Passive (node_at g 0) × ((node_at g 0).black ≡ false) × (g.black ≡ false) × (g.tally +ℤ (node_at g 0).surplus ≡ pos 0)

abbrev pub Holds : Group → ℕ → Type 0
Holds g i = (g.over ≡ false) × (i < length g.nodes) × (0 < length (node_at g i).held)

abbrev pub Enabled : Group → Move → Type 0
Enabled g (Split i k) = Holds g i × (length (newest (node_at g i).held) < MOST_LEVELS) × (k ≤ MOST_CHILDREN)
Enabled g (Shut i) = Holds g i
Enabled g (Post i to) = Holds g i × (1 < length (node_at g i).held) × (to < length g.nodes) × (mail_at g to ≡ None)
Enabled g (Take i) = (g.over ≡ false) × (i < length g.nodes) × (full (mail_at g i) ≡ 1)
Enabled g (Pass i) = (g.over ≡ false) × (i ≡ g.at) × (0 < i) × Passive (node_at g i)
Enabled g Probe = (g.over ≡ false) × (g.at ≡ 0) × Passive (node_at g 0) × ¬ (Ends g)
Enabled g Over = (g.over ≡ false) × (g.at ≡ 0) × Ends g

-- ---- what then is

abbrev pub split_node : Node → ℕ → Node
split_node x k = record x { held = older x.held ++ children (newest x.held) k; splits = x.splits ++ split (newest x.held) k ∷ [] }

abbrev pub shut_node : Node → Node
shut_node x = record x { held = older x.held; shut = x.shut ++ newest x.held ∷ [] }

abbrev pub post_node : Node → Node
post_node x = record x { held = newer x.held; surplus = x.surplus +ℤ pos 1 }

abbrev pub take_node : Node → Path → Node
take_node x p = record x { held = x.held ++ p ∷ []; surplus = x.surplus -ℤ pos 1; black = true }

abbrev pub white : Node → Node
white x = record x { black = false }

abbrev pub lend_node : Node → Node
lend_node x = record x { held = older x.held; lent = x.lent ++ Some (newest x.held) ∷ [] }

abbrev pub back_node : Node → ℕ → Path → Node
back_node x j p = record x { lent = slice_set x.lent j None; shut = x.shut ++ p ∷ [] }

abbrev pub came_back : Node → ℕ → Option Path → Node
came_back x j None = x
came_back x j (Some p) = back_node x j p

abbrev pub with_node : Group → ℕ → Node → Group
with_node g i x = record g { nodes = slice_set g.nodes i x }

abbrev pub lends : Group → ℕ → Group
lends g i = with_node g i (lend_node (node_at g i))

-- the path of a loan; none where it came back
abbrev pub slot_at : Group → ℕ → ℕ → Option Path
slot_at g i j = slice_index_or (node_at g i).lent j None

abbrev pub gets_back : Group → ℕ → ℕ → Group
gets_back g i j = with_node g i (came_back (node_at g i) j (slot_at g i j))

abbrev pub took : Group → ℕ → Option Path → Group
took g i None = g
took g i (Some p) = record g { nodes = slice_set g.nodes i (take_node (node_at g i) p); mails = slice_set g.mails i None }

abbrev pub after : Group → Move → Group
after g (Split i k) = with_node g i (split_node (node_at g i) k)
after g (Shut i) = with_node g i (shut_node (node_at g i))
after g (Post i to) = record g { nodes = slice_set g.nodes i (post_node (node_at g i)); mails = slice_set g.mails to (Some (oldest (node_at g i).held)) }
after g (Take i) = took g i (mail_at g i)
after g (Pass i) = record g { nodes = slice_set g.nodes i (white (node_at g i)); at = i - 1; tally = g.tally +ℤ (node_at g i).surplus; black = g.black || (node_at g i).black }
after g Probe = record g { nodes = slice_set g.nodes 0 (white (node_at g 0)); at = length g.nodes - 1; tally = pos 0; black = false }
after g Over = record g { over = true }

-- ---- the facts

abbrev pub leaves_of : Path → Node → ℕ
leaves_of p x = often p x.held + total (once_in p) x.lent + often p x.shut

abbrev pub children_of : Path → Node → ℕ
children_of p x = often p (all_children x.splits)

abbrev pub parents_of : Path → Node → ℕ
parents_of p x = often p (split_paths x.splits)

-- the four cases of the token: all behind it is passive and in the tally; a path is under way to a node before it, or was
-- sent there; a node before it is black; it is black itself
pub data Safe (g : Group) : Type 0 where
  behind : ((i : ℕ) → g.at < i → i < length g.nodes → Passive (node_at g i)) → g.tally ≡ surpluses (drop (suc g.at) g.nodes) → Safe g
  under_way : pos 0 <ℤ (surpluses (take (suc g.at) g.nodes) +ℤ g.tally) → Safe g
  node_black : (i : ℕ) → i ≤ g.at → (node_at g i).black ≡ true → Safe g
  token_black : g.black ≡ true → Safe g

-- no path is held, in a mail or lent
abbrev pub Quiet : Group → Type 0
Quiet g = ((i : ℕ) → i < length g.nodes → Passive (node_at g i)) × ((i : ℕ) → i < length g.mails → mail_at g i ≡ None)

abbrev pub first_of : Group → ℕ → ℕ
first_of g i = cond (i == g.start) 1 0

-- what a node has had is what it began with, got and made
abbrev pub Counted : ℕ → Node → Type 0
Counted first x = x.surplus +ℤ pos (length x.splits + length x.held + lent_out x + length x.shut) ≡ pos (first + length (all_children x.splits))

-- so of each node of a group, whichever held the root at first
abbrev pub IsCounted : Node → Type 0
IsCounted x = Counted 0 x ⊎ Counted 1 x

pub record Kept (g : Group) : Type 0 where
  pub some_node : g.start < length g.nodes
  pub one_mail_each : length g.mails ≡ length g.nodes
  pub token_there : g.at < length g.nodes
  -- the mails with a path are as many as the paths sent less those got
  pub flow : pos (total full g.mails) ≡ surpluses g.nodes
  pub safe : g.over ≡ false → Safe g
  -- splits and leaves are balanced
  pub balance : (p : Path) → once p [] + total (children_of p) g.nodes ≡ total (leaves_of p) g.nodes + total (once_in p) g.mails + total (parents_of p) g.nodes
  pub distinct : (p : Path) → total (parents_of p) g.nodes ≤ 1
  pub counts : (i : ℕ) → i < length g.nodes → Counted (first_of g i) (node_at g i)
  pub quiet : g.over ≡ true → Quiet g

-- ---- a new group

abbrev pub first_node : Bool → Node
first_node is_start = record idle { held = cond is_start ([] ∷ []) [] }

-- n nodes from node i on, where node start holds the root
abbrev pub rooted : ℕ → ℕ → ℕ → List Node
rooted zero start i = []
rooted (suc n) start i = first_node (i == start) ∷ rooted n start (suc i)

abbrev pub new_group : ℕ → ℕ → Group
new_group n start = record { nodes = rooted n start 0; mails = replicate n None; at = 0; tally = pos 0; black = true; over = false; start = start }

-- ---- splits and leaves as lists

abbrev pub mailed : Option Path → List Path
mailed None = []
mailed (Some p) = p ∷ []

abbrev pub splits_of : Group → List covers.Split
splits_of g = flat_map (λ x. x.splits) g.nodes

abbrev pub shut_of : Group → List Path
shut_of g = flat_map (λ x. x.shut) g.nodes

-- held, lent and shut paths, and those in mails
abbrev pub leaves : Group → List Path
leaves g = flat_map (λ x. x.held ++ (flat_map mailed x.lent ++ x.shut)) g.nodes ++ flat_map mailed g.mails
