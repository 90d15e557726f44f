-- What a turn keeps: the splits, the shut paths and those that are open count as the root and the children, and each turn
-- makes the open paths weigh less.
use Rattle.std.proofs.Common.{◌≡◌, ◌<◌, ◌≤◌, ◌+◌, ◌-◌, ◌*◌, ◌⊎◌, ◌||◌, nat_lt, ℕ, zero, suc, Bool, true, false, true≢false, cond, tests, rules, List, [], ◌∷◌, ◌++◌, length, drop, take, get_or, All, Option, Some, None, is_some, IfSome, position, slice_set, refl, sym, ap, ap₂, ◌∙◌, subst, inl, inr, arith, sum_by, drop-cons}
use Rattle.std.specs.List.{position_or_len}
use Rattle.std.specs.Option.{option_to_list}
use Rattle.std.proofs.Math.Nat.{mul-le-mul_right}
use Rattle.std.proofs.lemmas.Bool.Decides.{nat_tests}
use Rattle.std.proofs.lemmas.Grind.{flat_map-append}
use Rattle.std.proofs.lemmas.List.{map-append, take-append-drop, length_push}
use Rattle.std.proofs.lemmas.List.Elements.{All-append, All-cons, All-drop, All-head, All-nil, All-push, All-tail, All-take}
use Rattle.std.proofs.lemmas.List.Quantifiers.{position-Some}
use Rattle.std.proofs.lemmas.List.Sums.{fails_before_first, sum_by-append, sum_by-cons, sum_by_push}
use Rattle.msl_base.specs.Covers.{Split, split, children, Counts}
use Rattle.msl_base.specs.declared.limits.TheConstants.{MOST_CHILDREN, MOST_LEVELS}
use Rattle.msl_cover.proofs.Covers.{balanced, counts-same, counts-split, counts-start, here, times-cons, times-append}
use Rattle.msl_pool.specs.declared.member.Member.{Member}
use Rattle.msl_pool.specs.declared.search.Held.{Held}
use Rattle.msl_pool.specs.Working.{Done, paths_of, Works, IsWhole}
use Rattle.msl_pool.specs.Turning.{paths_in, open_in, is_open, StartsOpen, HoldsRoot, Starts, IsSound, Mails, Gives, PutsBack, ShutsOne, SplitsOne, Worked}

-- ---- a member

-- a member with no path to work on has no path
pub paths_none : {N : Type 0} (m : Member N) → is_open m ≡ false → paths_in m ≡ []
paths_none {N} m none = go m.mail m.held.items none
  where
    go : (mail : Option (List ℕ)) (held : List (Held N)) → (nat_lt 0 (length held) || is_some mail) ≡ false → option_to_list mail ++ paths_of held ≡ []
    go None [] none = refl
    go (Some q) [] none = absurd (true≢false none)
    go mail (h ∷ held) none =
        let some : nat_lt 0 (length (h ∷ held)) ≡ true = search (tests, rules) in
        absurd (true≢false (ap (λ b. b || is_some mail) (sym some) ∙ none))

-- what isn't there is none
pub none_there : (o : Option (List ℕ)) → is_some o ≡ false → o ≡ None
none_there None none = refl
none_there (Some q) none = absurd (true≢false none)

-- what is mailed weighs the same
pub weigh-mails : {N : Type 0} (m next m' next' : Member N) → Mails m next m' next' → (f : List ℕ → ℕ)
    → sum_by f (paths_in m') + sum_by f (paths_in next') ≡ sum_by f (paths_in m) + sum_by f (paths_in next)
weigh-mails {N} m next m' next' mails f =
    let mine = sum_by-append f (option_to_list m.mail) (paths_of m.held.items) in
    let was : sum_by f (paths_of m.held.items) ≡ f mails.oldest.path + sum_by f (paths_of m'.held.items) =
    ap (λ (hs : List (Held N)). sum_by f (paths_of hs)) mails.was ∙ sum_by-cons f mails.oldest.path (paths_of m'.held.items) in
    let mine' : sum_by f (paths_in m') ≡ sum_by f (option_to_list m.mail) + sum_by f (paths_of m'.held.items) =
    sum_by-append f (option_to_list m'.mail) (paths_of m'.held.items)
    ∙ ap (λ (q : Option (List ℕ)). sum_by f (option_to_list q) + sum_by f (paths_of m'.held.items)) mails.same_mail in
    let next_was : sum_by f (paths_in next) ≡ sum_by f (paths_of next.held.items) =
    ap (λ (q : Option (List ℕ)). sum_by f (option_to_list q ++ paths_of next.held.items)) mails.empty in
    let next_is : sum_by f (paths_in next') ≡ f mails.oldest.path + sum_by f (paths_of next.held.items) =
    ap₂ (λ (q : Option (List ℕ)) (hs : List (Held N)). sum_by f (option_to_list q ++ paths_of hs)) mails.mailed mails.same_held
    ∙ sum_by-cons f mails.oldest.path (paths_of next.held.items) in
    omega (arith, mine, was, mine', next_was, next_is)

module _ {N : Type 0} (IsNode : List ℕ → N → Type 0) where
  abbrev IsHeld : Held N → Type 0
  IsHeld h = IsNode h.path h.node

  abbrev HasNode : List ℕ → Type 0
  HasNode q = (n : N) × IsNode q n

  -- the one that mails and the one that has mail then
  pub sound-mails : (m next m' next' : Member N) → Mails m next m' next' → IsSound IsNode m → IsSound IsNode next → IsSound IsNode m' × IsSound IsNode next'
  sound-mails m next m' next' mails mine others =
      let held : All IsHeld (mails.oldest ∷ m'.held.items) = subst (All IsHeld) mails.was mine.nodes in (
        record {
          nodes = All-tail IsHeld mails.oldest m'.held.items held;
          mailed = subst (λ (q : Option (List ℕ)). IfSome q HasNode) (sym mails.same_mail) mine.mailed;
        },
        record {
          nodes = subst (All IsHeld) (sym mails.same_held) others.nodes;
          mailed = subst (λ (q : Option (List ℕ)). IfSome q HasNode) (sym mails.mailed) (mails.oldest.node, All-head IsHeld mails.oldest m'.held.items held);
        },
      )

  pub sound-put_back : (ring : List (Member N)) (m : Member N) (ring' : List (Member N)) → PutsBack ring m ring' → All (IsSound IsNode) ring → IsSound IsNode m → All (IsSound IsNode) ring'
  sound-put_back ring m ring' (inl is) all mine = subst (All (IsSound IsNode)) (sym is) (All-push (IsSound IsNode) ring m all mine)
  sound-put_back ring m ring' (inr first) all mine =
      let were : All (IsSound IsNode) (first.next ∷ first.others) = subst (All (IsSound IsNode)) first.was all in
      let two = sound-mails m first.next first.m' first.next' first.mails mine (All-head (IsSound IsNode) first.next first.others were) in
      subst (All (IsSound IsNode)) (sym first.is)
      (All-push (IsSound IsNode) (first.next' ∷ first.others) first.m'
      (All-cons (IsSound IsNode) first.next' first.others two.1 (All-tail (IsSound IsNode) first.next first.others were)) two.0)

  -- a member that holds the root, and one that holds nothing
  pub sound-root : (root : N) (m : Member N) → HoldsRoot root m → IsNode [] root → IsSound IsNode m
  sound-root root m holds is = record {
    nodes = subst (All IsHeld) (sym holds.root_held) (All-cons IsHeld (record { path = []; node = root }) [] is (All-nil IsHeld));
    mailed = subst (λ (q : Option (List ℕ)). IfSome q HasNode) (sym holds.no_mail) tt;
  }

  pub sound-idle : (m : Member N) → paths_in m ≡ [] → IsSound IsNode m
  sound-idle m none = let both = go m.mail m.held.items none in record { nodes = both.0; mailed = both.1 }
    where
      go : (mail : Option (List ℕ)) (held : List (Held N)) → option_to_list mail ++ paths_of held ≡ [] → All IsHeld held × IfSome mail HasNode
      go None [] none = (All-nil IsHeld, tt)
      go None (h ∷ held) none = absurd (omega (arith, ap length none))
      go (Some q) held none = absurd (omega (arith, ap length none))

  -- nodes stay nodes
  pub sound-kept : (IsNode' : List ℕ → N → Type 0) → ((q : List ℕ) (n : N) → IsNode q n → IsNode' q n) → (m : Member N) → IsSound IsNode m → IsSound IsNode' m
  sound-kept IsNode' keeps m sound = record {
    nodes = λ k d lt. keeps _ _ (sound.nodes k d lt);
    mailed = go m.mail sound.mailed;
  }
    where
      go : (mail : Option (List ℕ)) → IfSome mail HasNode → IfSome mail (λ q. (n : N) × IsNode' q n)
      go None none = tt
      go (Some q) some = (some.0, keeps q some.0 some.1)

  -- work on a path that was the last
  pub worked : (old new : Done) (path : List ℕ) (before : List (List ℕ)) (mail : Option (List ℕ)) (held held' : List (Held N))
      → before ≡ (option_to_list mail ++ paths_of held) ++ path ∷ [] → Works IsNode old new path held held'
      → Worked old new before (option_to_list mail ++ paths_of held')
  worked old new path before mail held held' is works = go works
    where
      taken : (f : List ℕ → ℕ) → sum_by f before ≡ f path + sum_by f (option_to_list mail ++ paths_of held)
      taken f = omega (arith, ap (sum_by f) is, sum_by_push f (option_to_list mail ++ paths_of held) path)

      go : Works IsNode old new path held held' → Worked old new before (option_to_list mail ++ paths_of held')
      go (inl shuts) = record {
        path = path;
        rest = option_to_list mail ++ paths_of held;
        more = [];
        taken = taken;
        left = λ f.
            let nothing : sum_by f [] ≡ 0 = refl in
            omega (arith, nothing, ap (λ (hs : List (Held N)). sum_by f (option_to_list mail ++ paths_of hs)) shuts.held);
        work = inl (record { none = refl; has = shuts.has });
      }
      go (inr splits) = record {
        path = path;
        rest = option_to_list mail ++ paths_of held;
        more = paths_of splits.more;
        taken = taken;
        left = λ f.
            omega (
              arith,
              ap (λ (hs : List (Held N)). sum_by f (option_to_list mail ++ paths_of hs)) splits.held,
              ap (λ (qs : List (List ℕ)). sum_by f (option_to_list mail ++ qs)) (map-append (λ (h : Held N). h.path) held splits.more),
              sum_by-append f (option_to_list mail) (paths_of held),
              sum_by-append f (paths_of held) (paths_of splits.more),
              sum_by-append f (option_to_list mail) (paths_of held ++ paths_of splits.more),
            );
        work = inr (record { count = splits.count; deep = splits.deep; few = splits.few; paths = splits.paths; has = splits.has });
      }

-- ---- the ring

module _ {N : Type 0} where
  pub weigh-cons : (f : List ℕ → ℕ) (m : Member N) (ring : List (Member N)) → sum_by f (open_in (m ∷ ring)) ≡ sum_by f (paths_in m) + sum_by f (open_in ring)
  weigh-cons f m ring = sum_by-append f (paths_in m) (open_in ring)

  pub weigh-append : (f : List ℕ → ℕ) (ring others : List (Member N)) → sum_by f (open_in (ring ++ others)) ≡ sum_by f (open_in ring) + sum_by f (open_in others)
  weigh-append f ring others = ap (sum_by f) (flat_map-append paths_in ring others) ∙ sum_by-append f (open_in ring) (open_in others)

  pub weigh-push : (f : List ℕ → ℕ) (ring : List (Member N)) (m : Member N) → sum_by f (open_in (ring ++ m ∷ [])) ≡ sum_by f (open_in ring) + sum_by f (paths_in m)
  weigh-push f ring m = omega (arith, weigh-append f ring (m ∷ []), weigh-cons f m [])

  pub weigh-rotated : (f : List ℕ → ℕ) (k : ℕ) (ring : List (Member N)) → sum_by f (open_in (drop k ring ++ take k ring)) ≡ sum_by f (open_in ring)
  weigh-rotated f k ring =
      omega (
        arith,
        weigh-append f (drop k ring) (take k ring),
        weigh-append f (take k ring) (drop k ring),
        ap (λ (ms : List (Member N)). sum_by f (open_in ms)) (take-append-drop k ring),
      )

  pub weigh-put_back : (f : List ℕ → ℕ) (ring : List (Member N)) (m : Member N) (ring' : List (Member N)) → PutsBack ring m ring'
      → sum_by f (open_in ring') ≡ sum_by f (open_in ring) + sum_by f (paths_in m)
  weigh-put_back f ring m ring' (inl is) = ap (λ (ms : List (Member N)). sum_by f (open_in ms)) is ∙ weigh-push f ring m
  weigh-put_back f ring m ring' (inr first) =
      omega (
        arith,
        ap (λ (ms : List (Member N)). sum_by f (open_in ms)) first.is,
        ap (λ (ms : List (Member N)). sum_by f (open_in ms)) first.was,
        weigh-push f (first.next' ∷ first.others) first.m',
        weigh-cons f first.next' first.others,
        weigh-cons f first.next first.others,
        weigh-mails m first.next first.m' first.next' first.mails f,
      )

  pub sound-rotated : (IsNode : List ℕ → N → Type 0) (k : ℕ) (ring : List (Member N)) → All (IsSound IsNode) ring → All (IsSound IsNode) (drop k ring ++ take k ring)
  sound-rotated IsNode k ring all = All-append (IsSound IsNode) (drop k ring) (take k ring) (All-drop (IsSound IsNode) k ring all) (All-take (IsSound IsNode) k ring all)

  -- the first open member is in front after the rotation
  pub starts_open : (ring : List (Member N)) (k : ℕ) → position is_open ring ≡ Some k → StartsOpen (drop k ring ++ take k ring)
  starts_open [] k is = absurd (none≢some is)
    where
      none≢some : None ≡ Some k → ⊥
      none≢some e = cc
  starts_open (m ∷ ring) k is =
      let at = position-Some is_open (m ∷ ring) k m is in
      record {
        first = get_or (m ∷ ring) k m;
        others = drop (suc k) (m ∷ ring) ++ take k (m ∷ ring);
        is = ap (λ (ms : List (Member N)). ms ++ take k (m ∷ ring)) (drop-cons (m ∷ ring) k m at.0);
        open_first = at.1;
      }

  -- nothing is given
  pub put_back-alone : (ring same : List (Member N)) (m m' : Member N) (ring' : List (Member N)) → same ≡ ring → m' ≡ m → ring' ≡ same ++ m' ∷ [] → PutsBack ring m ring'
  put_back-alone ring same m m' ring' is is_m pushed = inl (pushed ∙ ap₂ (λ (ms : List (Member N)) (m : Member N). ms ++ m ∷ []) is is_m)

  -- the first of the others is given a path, or nothing changes
  pub put_back-gives : (ring written : List (Member N)) (m m' next next' : Member N) (ring' : List (Member N)) → 0 < length ring → next ≡ get_or ring 0 next
      → written ≡ slice_set ring 0 next' → Gives m next m' next' → ring' ≡ written ++ m' ∷ [] → PutsBack ring m ring'
  put_back-gives [] written m m' next next' ring' some at is gives pushed = absurd (omega (arith, some))
  put_back-gives (x ∷ others) written m m' next next' ring' some at is (inl same) pushed =
      put_back-alone (x ∷ others) written m m' ring' (is ∙ ap (λ (n : Member N). n ∷ others) (same.1 ∙ at)) same.0 pushed
  put_back-gives (x ∷ others) written m m' next next' ring' some at is (inr mails) pushed = inr (record {
    next = next;
    others = others;
    m' = m';
    next' = next';
    was = ap (λ (n : Member N). n ∷ others) (sym at);
    is = pushed ∙ ap (λ (ms : List (Member N)). ms ++ m' ∷ []) is;
    mails = mails;
  })

  -- one member holds the root
  pub starts-first : (root : N) (m : Member N) (ring ring' : List (Member N)) → ring ≡ [] → ring' ≡ ring ++ m ∷ [] → HoldsRoot root m → Starts root ring'
  starts-first root m ring ring' none is holds = record {
    first = m;
    others = [];
    is = is ∙ ap (λ (ms : List (Member N)). ms ++ m ∷ []) none;
    at_root = holds;
    idle = All-nil (λ (m : Member N). paths_in m ≡ []);
  }

  -- one more member that holds nothing
  pub starts-push : (root : N) (ring ring' : List (Member N)) (m : Member N) → Starts root ring → paths_in m ≡ [] → ring' ≡ ring ++ m ∷ [] → Starts root ring'
  starts-push root ring ring' m starts none is = record {
    first = starts.first;
    others = starts.others ++ m ∷ [];
    is = is ∙ ap (λ (ms : List (Member N)). ms ++ m ∷ []) starts.is;
    at_root = starts.at_root;
    idle = All-push (λ (m : Member N). paths_in m ≡ []) starts.others m starts.idle none;
  }

-- one of the members works
pub worked-among : (old new : Done) (before after others all all' : List (List ℕ)) → Worked old new before after
    → ((f : List ℕ → ℕ) → sum_by f all ≡ sum_by f before + sum_by f others) → ((f : List ℕ → ℕ) → sum_by f all' ≡ sum_by f others + sum_by f after)
    → Worked old new all all'
worked-among old new before after others all all' w were are = record {
  path = w.path;
  rest = w.rest ++ others;
  more = w.more;
  taken = λ f. omega (arith, w.taken f, were f, sum_by-append f w.rest others);
  left = λ f. omega (arith, w.left f, are f, sum_by-append f w.rest others);
  work = w.work;
}

-- ---- what the pool keeps

-- splits and shut paths, with which the open ones count
pub record Keeps {N : Type 0} (IsNode : List ℕ → N → Type 0) (done : Done) (ring : List (Member N)) : Type 0 where
  pub splits : List Split
  pub shut : List (List ℕ)
  pub counts : Counts splits (open_in ring ++ shut)
  pub has : done splits shut
  pub sound : All (IsSound IsNode) ring

module _ {N : Type 0} (IsNode : List ℕ → N → Type 0) (done : Done) where
  no_paths : (ms : List (Member N)) → All (λ (m : Member N). paths_in m ≡ []) ms → open_in ms ≡ []
  no_paths [] none = refl
  no_paths (m ∷ ms) none =
      let P : Member N → Type 0 = λ m. paths_in m ≡ [] in
      ap (λ (qs : List (List ℕ)). qs ++ open_in ms) (All-head P m ms none) ∙ no_paths ms (All-tail P m ms none)

  idle_sound : (ms : List (Member N)) → All (λ (m : Member N). paths_in m ≡ []) ms → All (IsSound IsNode) ms
  idle_sound ms none = λ k d lt. sound-idle IsNode _ (none k d lt)

  pub keeps-start : (root : N) (ring : List (Member N)) → Starts root ring → IsNode [] root → done [] [] → Keeps IsNode done ring
  keeps-start root ring starts is_root new =
      let first : paths_in starts.first ≡ [] ∷ [] =
      ap₂ (λ (q : Option (List ℕ)) (hs : List (Held N)). option_to_list q ++ paths_of hs) starts.at_root.no_mail starts.at_root.root_held in
      let alone : open_in ring ≡ [] ∷ [] =
      ap open_in starts.is ∙ ap₂ (λ (qs rs : List (List ℕ)). qs ++ rs) first (no_paths starts.others starts.idle) in
      record {
        splits = [];
        shut = [];
        counts = subst (λ (qs : List (List ℕ)). Counts [] (qs ++ [])) (sym alone) counts-start;
        has = new;
        sound = subst (All (IsSound IsNode)) (sym starts.is)
            (All-cons (IsSound IsNode) starts.first starts.others (sound-root IsNode root starts.first starts.at_root is_root) (idle_sound starts.others starts.idle));
      }

  -- nothing is open
  pub keeps-end : (ring : List (Member N)) → Keeps IsNode done ring → open_in ring ≡ [] → IsWhole done
  keeps-end ring keeps none = (keeps.splits, keeps.shut, balanced keeps.splits keeps.shut (subst (λ (qs : List (List ℕ)). Counts keeps.splits (qs ++ keeps.shut)) none keeps.counts), keeps.has)

-- a turn
pub keeps-turn : {N : Type 0} (IsNode IsNode' : List ℕ → N → Type 0) (old new : Done) (ring rotated ring' : List (Member N)) → Keeps IsNode old ring
    → ((f : List ℕ → ℕ) → sum_by f (open_in rotated) ≡ sum_by f (open_in ring)) → Worked old new (open_in rotated) (open_in ring') → All (IsSound IsNode') ring'
    → Keeps IsNode' new ring'
keeps-turn {N} IsNode IsNode' old new ring rotated ring' keeps same w sound = go w.work
  where
    go : ShutsOne old new w.path w.more ⊎ SplitsOne old new w.path w.more → Keeps IsNode' new ring'
    go (inl shuts) = record {
      splits = keeps.splits;
      shut = w.path ∷ keeps.shut;
      counts = counts-same keeps.splits (open_in ring ++ keeps.shut) (open_in ring' ++ w.path ∷ keeps.shut) keeps.counts (λ p.
          let nothing : sum_by (here p) [] ≡ 0 = refl in
          omega (
            arith,
            nothing,
            times-append p (open_in ring) keeps.shut,
            times-append p (open_in ring') (w.path ∷ keeps.shut),
            times-cons p w.path keeps.shut,
            same (here p),
            w.taken (here p),
            w.left (here p),
            ap (sum_by (here p)) shuts.none,
          ));
      has = shuts.has keeps.splits keeps.shut keeps.has;
      sound = sound;
    }
    go (inr splits) = record {
      splits = split w.path splits.count ∷ keeps.splits;
      shut = keeps.shut;
      counts = counts-split keeps.splits (open_in ring ++ keeps.shut) (open_in ring' ++ keeps.shut) w.path splits.count keeps.counts (λ p.
          omega (
            arith,
            times-append p (children w.path splits.count) (open_in ring ++ keeps.shut),
            times-append p (open_in ring) keeps.shut,
            times-cons p w.path (open_in ring' ++ keeps.shut),
            times-append p (open_in ring') keeps.shut,
            same (here p),
            w.taken (here p),
            w.left (here p),
            ap (sum_by (here p)) splits.paths,
          ));
      has = splits.has keeps.splits keeps.shut keeps.has;
      sound = sound;
    }

-- no member has a path to work on
pub none_open : {N : Type 0} (ring : List (Member N)) → position is_open ring ≡ None → open_in ring ≡ []
none_open {N} ring none = go ring (λ k d lt.
    let e : nat_lt (position_or_len is_open ring) (length ring) ≡ false = is_false (nat_lt (position_or_len is_open ring) (length ring)) (position_or_len is_open ring) none in
    let before : k < position_or_len is_open ring = grind (arith, nat_tests) in
    fails_before_first is_open ring k d before)
  where
    is_false : (b : Bool) (k : ℕ) → cond b (Some k) None ≡ None → b ≡ false
    is_false false k e = refl
    is_false true k e = absurd (true≢false (ap is_some e))

    go : (ms : List (Member N)) → All (λ (m : Member N). is_open m ≡ false) ms → open_in ms ≡ []
    go [] shut = refl
    go (m ∷ ms) shut =
        let P : Member N → Type 0 = λ m. is_open m ≡ false in
        ap (λ (qs : List (List ℕ)). qs ++ open_in ms) (paths_none m (All-head P m ms shut)) ∙ go ms (All-tail P m ms shut)

-- ---- the end comes

-- how much is below a path that can still grow by so many steps
unfoldable pub size : ℕ → ℕ
size zero = 1
size (suc n) = 1 + MOST_CHILDREN * size n

abbrev pub weight_of : List ℕ → ℕ
weight_of q = size (MOST_LEVELS - length q)

abbrev pub weight : List (List ℕ) → ℕ
weight qs = sum_by weight_of qs

size-some : (n : ℕ) → 1 ≤ size n
unfolding size
size-some zero = omega arith
size-some (suc n) = omega arith

size-suc : (n m : ℕ) → m ≡ suc n → size m ≡ 1 + MOST_CHILDREN * size n
unfolding size
size-suc n m is = ap size is

weight-children : (q : List ℕ) (k n : ℕ) → MOST_LEVELS - length q ≡ suc n → weight (children q k) ≡ k * size n
weight-children q zero n is = omega arith
weight-children q (suc k) n is =
    let one : weight_of (q ++ k ∷ []) ≡ size n = ap size (omega (arith, is, length_push q k)) in
    grind (arith, one, weight-children q k n is, sum_by-cons weight_of (q ++ k ∷ []) (children q k))

-- each turn makes the open paths weigh less
pub weight-worked : (old new : Done) (before after : List (List ℕ)) → Worked old new before after → weight after < weight before
weight-worked old new before after w = go w.work
  where
    go : ShutsOne old new w.path w.more ⊎ SplitsOne old new w.path w.more → weight after < weight before
    go (inl shuts) =
        let nothing : weight [] ≡ 0 = refl in
        omega (arith, nothing, w.taken weight_of, w.left weight_of, ap weight shuts.none, size-some (MOST_LEVELS - length w.path))
    go (inr splits) =
        let n = MOST_LEVELS - suc (length w.path) in
        let is : MOST_LEVELS - length w.path ≡ suc n = omega (arith, splits.deep) in
        let few : splits.count * size n ≤ MOST_CHILDREN * size n = mul-le-mul_right (size n) splits.few in
        omega (arith, few, w.taken weight_of, w.left weight_of, ap weight splits.paths, weight-children w.path splits.count n is, size-suc n (MOST_LEVELS - length w.path) is)
