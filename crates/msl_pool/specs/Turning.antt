-- The paths that are open while a pool works: those that its members hold, and those in their mails. Lists of paths are
-- compared by what they weigh, however each path is weighed, so their order says nothing.
use Rattle.std.specs.Prelude.{◌≡◌, ℕ, ◌+◌, ◌<◌, ◌≤◌, ◌⊎◌, Bool, true, ◌||◌, nat_lt, List, [], ◌∷◌, ◌++◌, length, All, Some, None, is_some, IfSome, sum_by}
use Rattle.std.specs.List.{flat_map}
use Rattle.std.specs.Option.{option_to_list}
use Rattle.msl_base.specs.Covers.{Split, split, children}
use Rattle.msl_base.specs.declared.limits.TheConstants.{MOST_CHILDREN, MOST_LEVELS}
use Rattle.msl_pool.specs.declared.member.Member.{Member}
use Rattle.msl_pool.specs.declared.search.Held.{Held}
use Rattle.msl_pool.specs.Working.{Done, paths_of}

abbrev pub paths_in : {N : Type 0} → Member N → List (List ℕ)
paths_in m = option_to_list m.mail ++ paths_of m.held.items

abbrev pub is_open : {N : Type 0} → Member N → Bool
is_open m = nat_lt 0 (length m.held.items) || is_some m.mail

abbrev pub open_in : {N : Type 0} → List (Member N) → List (List ℕ)
open_in ring = flat_map paths_in ring

-- the first member has a path to work on
pub record StartsOpen {N : Type 0} (ring : List (Member N)) : Type 0 where
  pub first : Member N
  pub others : List (Member N)
  pub is : ring ≡ first ∷ others
  pub open_first : is_open first ≡ true

-- a member that holds the root alone
pub record HoldsRoot {N : Type 0} (root : N) (m : Member N) : Type 0 where
  pub root_held : m.held.items ≡ record { path = []; node = root } ∷ []
  pub no_mail : m.mail ≡ None

-- one member holds the root, and the others nothing
pub record Starts {N : Type 0} (root : N) (ring : List (Member N)) : Type 0 where
  pub first : Member N
  pub others : List (Member N)
  pub is : ring ≡ first ∷ others
  pub at_root : HoldsRoot root first
  pub idle : All (λ m. paths_in m ≡ []) others

-- each node that is kept is the one behind its path, and each path in a mail has a node
pub record IsSound {N : Type 0} (IsNode : List ℕ → N → Type 0) (m : Member N) : Type 0 where
  pub nodes : All (λ h. IsNode h.path h.node) m.held.items
  pub mailed : IfSome m.mail (λ q. (n : N) × IsNode q n)

-- the oldest path of a member goes into the mail of the next one
pub record Mails {N : Type 0} (m next m' next' : Member N) : Type 0 where
  pub oldest : Held N
  pub was : m.held.items ≡ oldest ∷ m'.held.items
  pub same_mail : m'.mail ≡ m.mail
  pub empty : next.mail ≡ None
  pub mailed : next'.mail ≡ Some oldest.path
  pub same_held : next'.held.items ≡ next.held.items

-- or nothing changes
abbrev pub Gives : {N : Type 0} → Member N → Member N → Member N → Member N → Type 0
Gives m next m' next' = ((m' ≡ m) × (next' ≡ next)) ⊎ Mails m next m' next'

-- a member goes behind the others, and the first of them has its oldest path in the mail
pub record MailsFirst {N : Type 0} (ring : List (Member N)) (m : Member N) (ring' : List (Member N)) : Type 0 where
  pub next : Member N
  pub others : List (Member N)
  pub m' : Member N
  pub next' : Member N
  pub was : ring ≡ next ∷ others
  pub is : ring' ≡ next' ∷ others ++ m' ∷ []
  pub mails : Mails m next m' next'

-- or as it is
abbrev pub PutsBack : {N : Type 0} → List (Member N) → Member N → List (Member N) → Type 0
PutsBack ring m ring' = (ring' ≡ ring ++ m ∷ []) ⊎ MailsFirst ring m ring'

-- a path is taken, and shut or split
module _ (old new : Done) (path : List ℕ) where
  pub record ShutsOne (more : List (List ℕ)) : Type 0 where
    pub none : more ≡ []
    pub has : (splits : List Split) (shut : List (List ℕ)) → old splits shut → new splits (path ∷ shut)

  pub record SplitsOne (more : List (List ℕ)) : Type 0 where
    pub count : ℕ
    pub deep : length path < MOST_LEVELS
    pub few : count ≤ MOST_CHILDREN
    pub paths : more ≡ children path count
    pub has : (splits : List Split) (shut : List (List ℕ)) → old splits shut → new (split path count ∷ splits) shut

-- one of the paths is shut, or its children take its place
pub record Worked (old new : Done) (before after : List (List ℕ)) : Type 0 where
  pub path : List ℕ
  pub rest : List (List ℕ)
  pub more : List (List ℕ)
  pub taken : (f : List ℕ → ℕ) → sum_by f before ≡ f path + sum_by f rest
  pub left : (f : List ℕ → ℕ) → sum_by f after ≡ sum_by f rest + sum_by f more
  pub work : ShutsOne old new path more ⊎ SplitsOne old new path more
