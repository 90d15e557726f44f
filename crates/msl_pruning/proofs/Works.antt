-- What work on a node comes to, of what became of the node and of its children.
use Rattle.std.proofs.Common.{◌≡◌, ◌<◌, ◌≤◌, ◌⊎◌, ℕ, suc, ℤ, List, [], ◌∷◌, ◌++◌, length, length-take, take, get_or, Option, Some, None, Result, Ok, Err, inl, inr, refl, sym, ap, ◌∙◌, subst, arith}
use Rattle.std.specs.Prelude.{slice_get, option_map}
use Rattle.std.proofs.lemmas.List.{append-nil, append_assoc, map-append}
use Rattle.std.proofs.lemmas.List.Elements.{All-cons, All-push, All-weaker, All-get_or}
use Rattle.std.proofs.lemmas.Option.{slice_get-map}
use Rattle.msl_base.specs.Covers.{split, children}
use Rattle.msl_base.specs.Streams.{Record}
use Rattle.msl_base.specs.declared.answer.Halt.{Halt}
use Rattle.msl_base.specs.declared.answer.Halt.TheVariants as halt
use Rattle.msl_base.specs.declared.limits.TheConstants.{MOST_CHILDREN}
use Rattle.msl_bounding.specs.declared.bounding.Bounding.{Bounding}
use Rattle.msl_fun.specs.declared.funs.Fun.{Fun}
use Rattle.msl_pool.specs.declared.search.Held.{Held}
use Rattle.msl_pool.specs.Working.{paths_of, Shuts, Splits, Works, StopsBy}
use Rattle.msl_program.specs.Along.{Path}
use Rattle.msl_program.specs.Searches.{node, children_in, further, own}
use Rattle.msl_program.specs.declared.script.BnbSpec.{BnbSpec}
use Rattle.msl_program.proofs.BranchLaws.{reaches_children}
use Rattle.msl_pruning.specs.Pruned.{Best, IsSplit, HasPruned}
use Rattle.msl_pruning.specs.Visiting.{IsTaken, IsLeft, IsBranched, IsVisited, live, IsHeldOf, CanHold, HoldsAll, HoldsChildren, IsLive, StopsWith}
use Rattle.msl_pruning.specs.declared.pruning.Branching.{Branching}
use Rattle.msl_pruning.specs.declared.pruning.LiveNode.{LiveNode}
use Rattle.msl_pruning.proofs.Found.{has_taken, has_left}

-- ---- children are held

-- one child more
pub holds_more : (path : List ℕ) (low : ℤ) (xs : List Record) (left left' : ℕ) (before after after' : List (Held LiveNode)) (h : Held LiveNode) → HoldsChildren path low xs left before after
    → left ≡ suc left' → left' < length xs → h.path ≡ path ++ left' ∷ [] → h.node ≡ live (get_or xs left' []) low → after' ≡ after ++ h ∷ [] → HoldsChildren path low xs left' before after'
holds_more path low xs left left' before after after' h holds is within at_path at_node pushed = record {
  more = holds.more ++ h ∷ [];
  held = pushed ∙ ap (λ (hs : List (Held LiveNode)). hs ++ h ∷ []) holds.held ∙ append_assoc before holds.more (h ∷ []);
  paths =
      ap (λ (qs : List (List ℕ)). qs ++ children path left') (map-append (λ (h : Held LiveNode). h.path) holds.more (h ∷ []))
      ∙ append_assoc (paths_of holds.more) (h.path ∷ []) (children path left')
      ∙ ap (λ (q : List ℕ). paths_of holds.more ++ q ∷ children path left') at_path
      ∙ ap (λ (k : ℕ). paths_of holds.more ++ children path k) (sym is) ∙ holds.paths;
  nodes = All-push (IsHeldOf path low xs) holds.more h holds.nodes (left', within, at_path, at_node);
}

slice_get_at : (xs : List Record) (k : ℕ) → k < length xs → slice_get xs k ≡ Some (get_or xs k [])
slice_get_at [] k h = absurd (omega (arith, h))
slice_get_at (x ∷ xs) ℕ.zero h = refl
slice_get_at (x ∷ xs) (suc k) h = slice_get_at xs k (omega (arith, h))

module _ (funs : List Fun) (b : BnbSpec) (stage : ℕ) (root : Record) where
  -- ---- the same search

  visited_by : (nodes : Bounding) (all : List Fun) (first : Record) (q : Path) (n : LiveNode) (old new : Best) (room : List Record) (r : Result (Option Branching) Halt) → IsLive funs b stage root nodes all first q n
      → IsVisited nodes.calls nodes.spec.now nodes.stage q (node n.numbers n.above) old new room r → IsVisited funs b stage q (node n.numbers n.above) old new room r
  visited_by nodes all first q n old new room r live h =
      subst (λ (s : ℕ). IsVisited funs b s q (node n.numbers n.above) old new room r) live.stage_is
      (subst (λ (d : BnbSpec). IsVisited funs d nodes.stage q (node n.numbers n.above) old new room r) live.spec_is
      (subst (λ (fs : List Fun). IsVisited fs nodes.spec.now nodes.stage q (node n.numbers n.above) old new room r) live.calls_are h))

  module _ (nodes nodes' : Bounding) (all all' : List Fun) (first first' : Record) (nodes_same : nodes' ≡ nodes) (all_same : all' ≡ all) (first_same : first' ≡ first) where
    -- what was a node still is
    pub still_live : (q : Path) (n : LiveNode) → IsLive funs b stage root nodes all first q n → IsLive funs b stage root nodes' all' first' q n
    still_live q n h = record {
      calls_are = ap (λ (s : Bounding). s.calls) nodes_same ∙ h.calls_are;
      spec_is = ap (λ (s : Bounding). s.spec.now) nodes_same ∙ h.spec_is;
      stage_is = ap (λ (s : Bounding). s.stage) nodes_same ∙ h.stage_is;
      all_are = all_same ∙ h.all_are;
      first_is = first_same ∙ h.first_is;
      fits = h.fits;
      root_long = h.root_long;
      is_reached = h.is_reached;
      long = h.long;
    }

  module _ (nodes : Bounding) (all : List Fun) (first : Record) (q : Path) (n : LiveNode) (is_live : IsLive funs b stage root nodes all first q n) (old new : Best) where
    -- its path is shut
    shuts : (before : List (Held LiveNode)) (room : List Record) → IsVisited nodes.calls nodes.spec.now nodes.stage q (node n.numbers n.above) old new room (Ok None)
        → Shuts (IsLive funs b stage root nodes all first) (HasPruned funs b stage root old) (HasPruned funs b stage root new) q before before
    shuts before room h = by_why (visited_by nodes all first q n old new room (Ok None) is_live h)
      where
        by_why : IsTaken funs b stage q (node n.numbers n.above) old new ⊎ IsLeft funs b stage q (node n.numbers n.above) old new
            → Shuts (IsLive funs b stage root nodes all first) (HasPruned funs b stage root old) (HasPruned funs b stage root new) q before before
        by_why (inl t) = record { held = refl; has = λ splits shut. has_taken funs b stage root q (node n.numbers n.above) is_live.is_reached splits shut old new t }
        by_why (inr t) = record { held = refl; has = λ splits shut. has_left funs b stage root q (node n.numbers n.above) is_live.is_reached splits shut old new t }

    -- a child is live
    child_live : (low : ℤ) (xs : List Record) → IsBranched funs b stage q (node n.numbers n.above) old new low xs → (j : ℕ) → j < length xs
        → IsLive funs b stage root nodes all first (q ++ j ∷ []) (live (get_or xs j []) low)
    child_live low xs h j within = record {
      calls_are = is_live.calls_are;
      spec_is = is_live.spec_is;
      stage_is = is_live.stage_is;
      all_are = is_live.all_are;
      first_is = is_live.first_is;
      fits = is_live.fits;
      root_long = is_live.root_long;
      is_reached =
          reaches_children funs b stage root q j ∙ ap (λ o. further o (λ p. slice_get (children_in (own funs b stage q p)) j)) is_live.is_reached
          ∙ ap (λ r. slice_get (children_in r) j) h.is_inner ∙ slice_get-map (λ y. node y (Some low)) xs j ∙ ap (option_map (λ y. node y (Some low))) (slice_get_at xs j within);
      long = All-get_or (λ (x : Record). length x ≡ length n.numbers) xs j [] within h.long ∙ is_live.long;
    }

    live_child : (low : ℤ) (xs : List Record) → IsBranched funs b stage q (node n.numbers n.above) old new low xs → (h : Held LiveNode)
        → IsHeldOf q low xs h → IsLive funs b stage root nodes all first h.path h.node
    live_child low xs is h (j, within, at_path, at_node) =
        subst (λ (t : Path). IsLive funs b stage root nodes all first t h.node) (sym at_path)
        (subst (IsLive funs b stage root nodes all first (q ++ j ∷ [])) (sym at_node) (child_live low xs is j within))

    -- it is split into its children
    splits_into : (low : ℤ) (xs : List Record) (count : ℕ) (before after : List (Held LiveNode)) → IsBranched funs b stage q (node n.numbers n.above) old new low xs → length xs ≡ count → HoldsChildren q low xs 0 before after
        → Splits (IsLive funs b stage root nodes all first) (HasPruned funs b stage root old) (HasPruned funs b stage root new) q before after
    splits_into low xs count before after h count_is holds = record {
      count = count;
      more = holds.more;
      deep = h.deep;
      few = subst (λ (k : ℕ). k ≤ MOST_CHILDREN) count_is h.few;
      held = holds.held;
      paths = sym (append-nil (paths_of holds.more)) ∙ holds.paths ∙ ap (children q) count_is;
      nodes = All-weaker (IsHeldOf q low xs) (λ (k : Held LiveNode). IsLive funs b stage root nodes all first k.path k.node) (live_child low xs h) holds.more holds.nodes;
      has = λ splits shut has. subst (λ (best : Best). HasPruned funs b stage root best (split q count ∷ splits) shut) (sym h.best)
          (record { is_found = has.is_found; are_split = All-cons (IsSplit funs b stage root) (split q count) splits (node n.numbers n.above, is_live.is_reached, (low, xs, h.is_inner, count_is)) has.are_split; are_shut = has.are_shut });
    }

    splits : (m : Branching) (room : List Record) (before after : List (Held LiveNode)) → IsVisited nodes.calls nodes.spec.now nodes.stage q (node n.numbers n.above) old new room (Ok (Some m))
        → HoldsChildren q m.low (take m.count room) 0 before after
        → Splits (IsLive funs b stage root nodes all first) (HasPruned funs b stage root old) (HasPruned funs b stage root new) q before after
    splits m room before after h holds =
        let v = visited_by nodes all first q n old new room (Ok (Some m)) is_live h in
        splits_into m.low (take m.count room) m.count before after v.0 v.1 holds

    pub can_hold : (room : List Record) (o : Option Branching) → IsVisited nodes.calls nodes.spec.now nodes.stage q (node n.numbers n.above) old new room (Ok o) → CanHold q o room
    can_hold room None h = tt
    can_hold room (Some m) h =
        let v = visited_by nodes all first q n old new room (Ok (Some m)) is_live h in
        (v.0.deep, omega (arith, v.1, length-take m.count room))

    pub works : (room : List Record) (before after : List (Held LiveNode)) (o : Option Branching) → IsVisited nodes.calls nodes.spec.now nodes.stage q (node n.numbers n.above) old new room (Ok o) → HoldsAll q o room before after
        → Works (IsLive funs b stage root nodes all first) (HasPruned funs b stage root old) (HasPruned funs b stage root new) q before after
    works room before after None h holds =
        inl (subst (Shuts (IsLive funs b stage root nodes all first) (HasPruned funs b stage root old) (HasPruned funs b stage root new) q before) (sym holds) (shuts before room h))
    works room before after (Some m) h holds = inr (splits m room before after h holds)

    -- its fault
    pub stops : (room : List Record) (why : Halt) → IsVisited nodes.calls nodes.spec.now nodes.stage q (node n.numbers n.above) old new room (Err why) → StopsBy (StopsWith funs b stage root) why
    stops room why h = go why (visited_by nodes all first q n old new room (Err why) is_live h)
      where
        go : (w : Halt) → IsVisited funs b stage q (node n.numbers n.above) old new room (Err w) → StopsBy (StopsWith funs b stage root) w
        go (halt.Fault f) is = inr (q, (node n.numbers n.above, is_live.is_reached, is))
        go halt.NoMemory is = absurd is
