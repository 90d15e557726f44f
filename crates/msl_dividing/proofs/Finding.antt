-- What is found out of one problem adds to what was found out before.
use Rattle.std.proofs.Common.{◌≡◌, ◌<◌, ◌≤◌, ℕ, suc, List, [], ◌∷◌, ◌++◌, length, reverse, slice_index_or, All, IfOk, Option, Result, Ok, Err, refl, sym, ap, ◌∙◌, subst, arith}
use Rattle.std.proofs.lemmas.List.{append-nil, append_assoc, map-append, reverse-append, length_push}
use Rattle.std.proofs.lemmas.List.Elements.{All-push, All-nil, All-weaker, All-get_or}
use Rattle.msl_base.specs.Covers.{Split, split, children, Covers}
use Rattle.msl_base.specs.Streams.{Record, Outcome}
use Rattle.msl_base.specs.declared.answer.Answer.{Answer}
use Rattle.msl_base.specs.declared.answer.Halt.{Halt}
use Rattle.msl_base.specs.declared.answer.Halt.TheVariants as halt
use Rattle.msl_base.specs.declared.fault.Fault.{Fault}
use Rattle.msl_base.specs.declared.limits.TheConstants.{MOST_CHILDREN}
use Rattle.msl_division.specs.declared.division.Division.{Division}
use Rattle.msl_dividing.specs.Dividing.{IsDivided, value_of, Finds, IsPart, HoldsParts, IsProblemOf, HasDivided}
use Rattle.msl_dividing.proofs.Covering.{covers-reversed}
use Rattle.msl_fun.specs.declared.funs.Fun.{Fun}
use Rattle.msl_fun.specs.Meaning.{params_of, results_of}
use Rattle.msl_local.specs.Outcomes.{Stops}
use Rattle.msl_pool.specs.Working.{Done, paths_of, Shuts, Splits}
use Rattle.msl_pool.specs.declared.search.Held.{Held}
use Rattle.msl_program.specs.Along.{along}
use Rattle.msl_program.specs.Calls.{run}
use Rattle.msl_program.specs.Divide.{dc}
use Rattle.msl_program.specs.declared.script.DivCon.{DivCon}
use Rattle.msl_program.proofs.AlongLaws.{parts_along, has_all_parts}
use Rattle.msl_stage.specs.Answers.{MayAnswer}
use Rattle.msl_tree.specs.Combined.{combined, IsParted, IsValued, AreParted}
use Rattle.msl_tree.proofs.Values.{gives_value}
use Rattle.msl_tree.specs.Lists.{Leaf, leaf, leaf_paths}

-- the newest comes first, or last
reverse-newest : {A : Type 0} (x : A) (xs : List A) → reverse (x ∷ xs) ≡ reverse xs ++ x ∷ []
reverse-newest x xs = reverse-append (x ∷ []) xs

-- a fault on the way is the problem's
pub finds_halt : {A : Type 0} (funs : List Fun) (d : DivCon) (stage : ℕ) (q : List ℕ) (x : Record) (parts : List Record) (step : Result A Fault) (h : Halt)
    → ((e : Fault) → step ≡ Err e → value_of funs d stage q x ≡ Err e) → Stops step h → Finds funs d stage q x parts (Err h)
finds_halt funs d stage q x parts step (halt.Fault e) leads s = leads e s
finds_halt funs d stage q x parts step halt.NoMemory leads s = tt

-- one more part is held
pub holds_more : (path : List ℕ) (parts : List Record) (left left' : ℕ) (before after after' : List (Held Record)) (h : Held Record) → HoldsParts path parts left before after
    → left ≡ suc left' → left' < length parts → h.path ≡ path ++ left' ∷ [] → h.node ≡ slice_index_or parts left' [] → after' ≡ after ++ h ∷ [] → HoldsParts path parts left' before after'
holds_more path parts left left' before after after' h holds is within child node pushed = record {
  more = holds.more ++ h ∷ [];
  held = pushed ∙ ap (λ (hs : List (Held Record)). hs ++ h ∷ []) holds.held ∙ append_assoc before holds.more (h ∷ []);
  paths =
      ap (λ (qs : List (List ℕ)). qs ++ children path left') (map-append (λ (h : Held Record). h.path) holds.more (h ∷ []))
      ∙ append_assoc (paths_of holds.more) (h.path ∷ []) (children path left')
      ∙ ap (λ (q : List ℕ). paths_of holds.more ++ q ∷ children path left') child
      ∙ ap (λ (k : ℕ). paths_of holds.more ++ children path k) (sym is) ∙ holds.paths;
  nodes = All-push (IsPart path parts) holds.more h holds.nodes (left', within, child, node);
}

module _ (funs : List Fun) (d : DivCon) (stage : ℕ) (root : Record) where
  abbrev pub Has : List Split → List Leaf → Done
  Has splits solved = HasDivided funs d stage root splits solved

  pub nothing_yet : (splits : List Split) (solved : List Leaf) → splits ≡ [] → solved ≡ [] → Has splits solved [] []
  nothing_yet splits solved a b =
      subst (λ (ss : List Split). Has ss solved [] []) (sym a)
      (subst (λ (ls : List Leaf). Has [] ls [] []) (sym b) (record { splits_are = refl; solved_are = refl; parted = All-nil _; valued = All-nil _; wide = All-nil _ }))

  -- the path is shut with its value
  pub one_more_solved : (splits : List Split) (solved more : List Leaf) (q : List ℕ) (x : Record) (v : Outcome) (counted : List Split) (shut : List (List ℕ))
      → more ≡ solved ++ leaf q v ∷ [] → along funs stage d.divide root q ≡ Ok x → v ≡ dc funs d stage (run funs stage d.solve) q x → IfOk v (λ y. length y ≡ results_of funs d.solve)
      → Has splits solved counted shut → Has splits more counted (q ∷ shut)
  one_more_solved splits solved more q x v counted shut is met value wide has = subst (λ (ls : List Leaf). Has splits ls counted (q ∷ shut)) (sym is) (record {
    splits_are = has.splits_are;
    solved_are = map-append (λ (l : Leaf). l.path) solved (leaf q v ∷ []) ∙ ap (λ (qs : List (List ℕ)). qs ++ q ∷ []) has.solved_are ∙ sym (reverse-newest q shut);
    parted = has.parted;
    valued = All-push (IsValued funs d stage (run funs stage d.solve) root) solved (leaf q v) has.valued (record { problem = x; met = met; value = value });
    wide = All-push (λ (l : Leaf). IfOk l.value (λ y. length y ≡ results_of funs d.solve)) solved (leaf q v) has.wide wide;
  })

  -- the path is split into all its parts
  pub one_more_split : (splits more : List Split) (solved : List Leaf) (q : List ℕ) (x : Record) (parts : List Record) (counted : List Split) (shut : List (List ℕ))
      → more ≡ splits ++ split q (length parts) ∷ [] → along funs stage d.divide root q ≡ Ok x → IsDivided funs d stage q x parts
      → Has splits solved counted shut → Has more solved (split q (length parts) ∷ counted) shut
  one_more_split splits more solved q x parts counted shut is met divided has =
      let s = split q (length parts) in
      subst (λ (ss : List Split). Has ss solved (s ∷ counted) shut) (sym is) (record {
        splits_are = ap (λ (ss : List Split). ss ++ s ∷ []) has.splits_are ∙ sym (reverse-newest s counted);
        solved_are = has.solved_are;
        parted = All-push (IsParted funs d stage root) splits s has.parted (record {
          problem = x;
          parts = parts;
          met = met;
          plain = divided.plain;
          deep = divided.deep;
          divides = divided.divides;
          count = has_all_parts funs d stage x parts divided.divides;
        });
        valued = has.valued;
        wide = has.wide;
      })

  -- what a division finds out of a problem is of the functions, the division and the stage that it has
  pub finds_of : (division : Division) (all : List Fun) (first : Record) (q : List ℕ) (x : Record) (parts : List Record) (r : Result (Option Record) Halt) → IsProblemOf funs d stage root division all first q x
      → Finds division.calls division.spec.now division.stage q x parts r → Finds funs d stage q x parts r
  finds_of division all first q x parts r problem finds =
      subst (λ (s : ℕ). Finds funs d s q x parts r) problem.stage_is
      (subst (λ (e : DivCon). Finds funs e division.stage q x parts r) problem.spec_is (subst (λ (fs : List Fun). Finds fs division.spec.now division.stage q x parts r) problem.calls_are finds))

  -- a part is one of the problems
  part_is : (division : Division) (all : List Fun) (first : Record) (q : List ℕ) (x : Record) (parts : List Record) → IsProblemOf funs d stage root division all first q x → IsDivided funs d stage q x parts
      → (p : List ℕ) (y : Record) (j : ℕ) → j < length parts → p ≡ q ++ j ∷ [] → y ≡ slice_index_or parts j [] → IsProblemOf funs d stage root division all first p y
  part_is division all first q x parts problem divided p y j lt path node =
      let few : length parts ≡ d.parts = has_all_parts funs d stage x parts divided.divides in
      record {
        calls_are = problem.calls_are;
        spec_is = problem.spec_is;
        stage_is = problem.stage_is;
        all_are = problem.all_are;
        first_is = problem.first_is;
        fits = problem.fits;
        root_wide = problem.root_wide;
        met =
            ap (along funs stage d.divide root) path ∙ parts_along funs d stage root x q parts problem.met divided.divides j (omega (arith, lt, few))
            ∙ ap (λ (r : Record). Ok r) (sym node);
        wide = ap (λ (r : Record). length r) node ∙ All-get_or (λ (r : Record). length r ≡ params_of funs d.simple) parts j [] lt divided.wide;
        deep = omega (arith, ap (λ (r : List ℕ). length r) path, length_push q j, divided.deep);
      }

  -- it is the problem of another state of the same division
  pub still_problem : (here there : Division) (all fs : List Fun) (first f : Record) (q : List ℕ) (x : Record) → there ≡ here → fs ≡ all → f ≡ first
      → IsProblemOf funs d stage root here all first q x → IsProblemOf funs d stage root there fs f q x
  still_problem here there all fs first f q x a b c problem =
      subst (λ (s : Division). IsProblemOf funs d stage root s fs f q x) (sym a)
      (subst (λ (gs : List Fun). IsProblemOf funs d stage root here gs f q x) (sym b) (subst (λ (r : Record). IsProblemOf funs d stage root here all r q x) (sym c) problem))

  -- all parts are held
  pub splits_all : (division : Division) (all : List Fun) (first : Record) (q : List ℕ) (x : Record) (parts : List Record) (before after : List (Held Record)) (old more : List Split) (solved : List Leaf)
      → IsProblemOf funs d stage root division all first q x → IsDivided funs d stage q x parts → length parts ≤ MOST_CHILDREN
      → HoldsParts q parts 0 before after → more ≡ old ++ split q (length parts) ∷ []
      → Splits (IsProblemOf funs d stage root division all first) (Has old solved) (Has more solved) q before after
  splits_all division all first q x parts before after old more solved problem divided few holds is = record {
    count = length parts;
    more = holds.more;
    deep = divided.deep;
    few = few;
    held = holds.held;
    paths = sym (append-nil (paths_of holds.more)) ∙ holds.paths;
    nodes =
        All-weaker (IsPart q parts) (λ (h : Held Record). IsProblemOf funs d stage root division all first h.path h.node)
        (λ h part. part_is division all first q x parts problem divided h.path h.node part.0 part.1 part.2 part.3) holds.more holds.nodes;
    has = λ counted shut has. one_more_split old more solved q x parts counted shut is problem.met divided has;
  }

  -- the path is shut
  pub shuts : (is_node : List ℕ → Record → Type 0) (q : List ℕ) (x : Record) (v : Outcome) (before after : List (Held Record)) (splits : List Split) (solved more : List Leaf)
      → after ≡ before → more ≡ solved ++ leaf q v ∷ [] → along funs stage d.divide root q ≡ Ok x → v ≡ dc funs d stage (run funs stage d.solve) q x → IfOk v (λ y. length y ≡ results_of funs d.solve)
      → Shuts is_node (Has splits solved) (Has splits more) q before after
  shuts is_node q x v before after splits solved more same is met value wide = record {
    held = same;
    has = λ counted shut has. one_more_solved splits solved more q x v counted shut is met value wide has;
  }

  -- ---- at the end

  pub covers : (splits : List Split) (solved : List Leaf) (counted : List Split) (shut : List (List ℕ)) → Covers counted shut → Has splits solved counted shut → Covers splits (leaf_paths solved)
  covers splits solved counted shut whole has =
      subst (λ (qs : List (List ℕ)). Covers splits qs) (sym has.solved_are) (subst (λ (ss : List Split). Covers ss (reverse shut)) (sym has.splits_are) (covers-reversed counted shut whole))

  pub are_parted : (splits : List Split) → All (IsParted funs d stage root) splits → AreParted funs d stage splits
  are_parted splits parted = All-weaker (IsParted funs d stage root) (λ (s : Split). s.count ≡ d.parts) (λ s h. h.count) splits parted

  -- the combined value is the recursive one
  pub combines : (splits : List Split) (solved : List Leaf) (counted : List Split) (shut : List (List ℕ)) → Covers counted shut → Has splits solved counted shut
      → combined funs d stage splits solved [] ≡ dc funs d stage (run funs stage d.solve) [] root
  combines splits solved counted shut whole has =
      gives_value funs d stage (run funs stage d.solve) splits solved root (covers splits solved counted shut whole has) has.parted has.valued

  -- by other names for the functions, the division and the stage
  pub answers : (fs : List Fun) (e : DivCon) (s : ℕ) (splits : List Split) (solved : List Leaf) (want : Outcome) (a : Answer) → fs ≡ funs → e ≡ d → s ≡ stage → combined funs d stage splits solved [] ≡ want
      → MayAnswer (λ r. r ≡ combined fs e s splits solved []) a → MayAnswer (λ r. r ≡ want) a
  answers fs e s splits solved want a is_funs is_d is_stage is h =
      subst (λ (v : Outcome). MayAnswer (λ r. r ≡ v) a) is
      (subst (λ (n : ℕ). MayAnswer (λ r. r ≡ combined funs d n splits solved []) a) is_stage
      (subst (λ (f : DivCon). MayAnswer (λ r. r ≡ combined funs f s splits solved []) a) is_d (subst (λ (gs : List Fun). MayAnswer (λ r. r ≡ combined gs e s splits solved []) a) is_funs h)))
