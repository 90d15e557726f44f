-- The next child is held.
use Rattle.std.proofs.Common.{◌≡◌, ◌<◌, ◌≤◌, ℕ, suc, List, [], ◌∷◌, ◌++◌, length, sym, ap, ◌∙◌}
use Rattle.std.proofs.lemmas.List.{append-nil, append_assoc, map-append}
use Rattle.std.proofs.lemmas.List.Elements.{All-push}
use Rattle.msl_base.specs.Covers.{children}
use Rattle.msl_base.specs.declared.limits.TheConstants.{MOST_CHILDREN, MOST_LEVELS}
use Rattle.msl_pool.specs.declared.search.Held.{Held}
use Rattle.msl_pool.specs.Working.{Done, paths_of, Splits}
use Rattle.msl_pool_rows.specs.Holding.{HoldsChildren}

pub holds_more : (count left left' : ℕ) (path : List ℕ) (before after after' : List (Held ℕ)) (h : Held ℕ) → HoldsChildren count left path before after
    → left ≡ suc left' → h.path ≡ path ++ left' ∷ [] → h.node ≡ length h.path → after' ≡ after ++ h ∷ [] → HoldsChildren count left' path before after'
holds_more count left left' path before after after' h holds is child level pushed = record {
  more = holds.more ++ h ∷ [];
  held = pushed ∙ ap (λ (hs : List (Held ℕ)). hs ++ h ∷ []) holds.held ∙ append_assoc before holds.more (h ∷ []);
  paths =
      ap (λ (qs : List (List ℕ)). qs ++ children path left') (map-append (λ (h : Held ℕ). h.path) holds.more (h ∷ []))
      ∙ append_assoc (paths_of holds.more) (h.path ∷ []) (children path left')
      ∙ ap (λ (q : List ℕ). paths_of holds.more ++ q ∷ children path left') child
      ∙ ap (λ (k : ℕ). paths_of holds.more ++ children path k) (sym is) ∙ holds.paths;
  nodes = All-push (λ (h : Held ℕ). h.node ≡ length h.path) holds.more h holds.nodes level;
}

-- all are held
pub splits : (old new : Done) (count : ℕ) (path : List ℕ) (before after : List (Held ℕ)) → HoldsChildren count 0 path before after → length path < MOST_LEVELS → count ≤ MOST_CHILDREN
    → ((ss : _) (shut : _) → old ss shut → new (record { path = path; count = count } ∷ ss) shut) → Splits (λ q n. n ≡ length q) old new path before after
splits old new count path before after holds deep few has = record {
  count = count;
  more = holds.more;
  deep = deep;
  few = few;
  held = holds.held;
  paths = sym (append-nil (paths_of holds.more)) ∙ holds.paths;
  nodes = holds.nodes;
  has = has;
}
