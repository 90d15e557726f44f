-- A farm's parts together: what was dealt, tried and collected is the farm's relation.
use Rattle.std.proofs.Common.{◌≡◌, ℕ, zero, suc, ◌+◌, ◌<◌, ◌≤◌, List, [], ◌∷◌, ◌++◌, length, map, slice_set, slice_index_or, Option, Some, None, Ok, Err, refl, sym, ap, ◌∙◌, ◌⊎◌, inl, inr, ⊎_elim, subst, arith, append_assoc, append-nil, IsPermutation, All}
use Rattle.std.specs.List.{swap, flat_map, enumerate_from, AllByRecursion}
use Rattle.std.proofs.lemmas.Bool.{cases_lt}
use Rattle.std.proofs.lemmas.List.{map-set, map-append}
use Rattle.std.proofs.lemmas.List.Elements.{All-from_recursion, recursion_from_All, All-nil, All-cons}
use Rattle.std.proofs.lemmas.List.Sorted.{IsPermutation-refl, IsPermutation-sym, IsPermutation-trans, IsPermutation-map, IsPermutation-swap, IsPermutation-keeps, IsPermutation-append, IsPermutation-append_comm, IsPermutation-to_front, IsPermutation-append_left, IsPermutation-append_right, All-permutation, Contains-permutation}
use Rattle.std.proofs.Math.ListN.{get_or-map as at_map, length-map}
use Rattle.msl_base.specs.declared.fault.Fault.{Fault}
use Rattle.msl_base.specs.Streams.{Record, Outcome, Trial, Ending, done, failed, unread, cut, Stream, stream, before, tried, AllTrue, goods, first_fault, EndsBy, end_by, Unordered}
use Rattle.msl_base.proofs.StreamLaws.{IsTotal, true_append, ends_so}
use Rattle.msl_stage.specs.Feeding.{GoesOn, StopsAt, IsBegun}
use Rattle.msl_stage.specs.declared.step.Step.TheVariants.{Farm}
use Rattle.msl_stage.specs.Lines.{AnyOf}
use Rattle.msl_stage.specs.Dealing.{Numbered, task_of, result_of, the_trial, Tried, Part, HasTriedAll, HasTriedSome, worker_of, dealt_to, results_of, IsDealt, IsCollected, goods_of, NotBelow, IsGood, Least, fault_of}
use Rattle.msl_stage.specs.Working.{HasEnded}
use Rattle.msl_stage.proofs.Steps.{HasAll, step_total}
use Rattle.msl_stage.proofs.WorkingLaws.{begun_ended, whole_ended, goes_given_up}

-- ---- one more, of what is dealt, tried or collected

heads : {X : Type 0} (x y : X) (xs ys : List X) → x ∷ xs ≡ y ∷ ys → (x ≡ y) × (xs ≡ ys)
heads x y xs ys e = (cc, cc)

-- one more in one of the parts
pub one_more : {A B : Type 0} (f : A → List B) (xs : List A) (k : ℕ) (d y : A) (b : B) → k < length xs → f y ≡ f (slice_index_or xs k d) ++ b ∷ []
    → IsPermutation (flat_map f xs ++ b ∷ []) (flat_map f (slice_set xs k y))
one_more f [] k d y b lt is = absurd (omega (arith, lt))
one_more f (x ∷ xs) zero d y b lt is =
    let F = flat_map f xs in
    let there : f y ++ F ≡ f x ++ b ∷ F = ap (λ z. z ++ F) is ∙ append_assoc (f x) (b ∷ []) F in
    subst (λ l. IsPermutation l (f y ++ F)) (sym (append_assoc (f x) F (b ∷ [])))
    (subst (IsPermutation (f x ++ (F ++ b ∷ []))) (sym there) (IsPermutation-append_right (f x) _ _ (IsPermutation-to_front F b)))
one_more f (x ∷ xs) (suc k) d y b lt is =
    subst (λ l. IsPermutation l (f x ++ flat_map f (slice_set xs k y))) (sym (append_assoc (f x) (flat_map f xs) (b ∷ [])))
    (IsPermutation-append_right (f x) _ _ (one_more f xs k d y b (omega (arith, lt)) is))

-- lists of which the pieces are the same
pub same_pieces : {A B C : Type 0} (f : A → List C) (g : B → List C) (xs : List A) (ys : List B) → map f xs ≡ map g ys → flat_map f xs ≡ flat_map g ys
same_pieces f g [] [] e = refl
same_pieces f g [] (y ∷ ys) e = cc
same_pieces f g (x ∷ xs) [] e = cc
same_pieces f g (x ∷ xs) (y ∷ ys) e = let h = heads (f x) (g y) (map f xs) (map g ys) e in (λ i. h.0 i ++ same_pieces f g xs ys h.1 i)

-- none in any part
pub none_yet : {A B : Type 0} (f : A → List B) (xs : List A) → AllByRecursion (λ (x : A). f x ≡ []) xs → flat_map f xs ≡ []
none_yet f [] none = refl
none_yet f (x ∷ xs) none = ap (λ l. l ++ flat_map f xs) none.0 ∙ none_yet f xs none.1

number_last : (n : ℕ) (X : List Record) (x : Record) → enumerate_from n (X ++ x ∷ []) ≡ enumerate_from n X ++ (n + length X, x) ∷ []
number_last n [] x = ap (λ (m : ℕ). (m, x) ∷ []) (omega arith)
number_last n (y ∷ X) x = ap (λ l. (n, y) ∷ l) (number_last (n + 1) X x ∙ ap (λ (m : ℕ). enumerate_from (n + 1) X ++ (m, x) ∷ []) (omega arith))

pub one_more_dealt : {A : Type 0} (dealt : A → List (Numbered Record)) (parts : List A) (X : List Record) (x : Record) (k : ℕ) (d p : A) → k < length parts
    → dealt p ≡ dealt (slice_index_or parts k d) ++ (length X, x) ∷ [] → IsDealt dealt parts X → IsDealt dealt (slice_set parts k p) (X ++ x ∷ [])
one_more_dealt dealt parts X x k d p lt is all =
    let last : enumerate_from 0 (X ++ x ∷ []) ≡ enumerate_from 0 X ++ (length X, x) ∷ [] = number_last 0 X x ∙ ap (λ (m : ℕ). enumerate_from 0 X ++ (m, x) ∷ []) (omega arith) in
    subst (λ l. IsPermutation l (flat_map dealt (slice_set parts k p))) (sym last)
    (IsPermutation-trans _ _ _ (IsPermutation-append_left ((length X, x) ∷ []) _ _ all) (one_more dealt parts k d p (length X, x) lt is))

pub one_more_collected : {A : Type 0} (results : A → List (Numbered Outcome)) (parts : List A) (came : List (Numbered Outcome)) (r : Numbered Outcome) (k : ℕ) (d p : A)
    → k < length parts → results p ≡ results (slice_index_or parts k d) ++ r ∷ [] → IsCollected results parts came → IsCollected results (slice_set parts k p) (came ++ r ∷ [])
one_more_collected results parts came r k d p lt is all =
    IsPermutation-trans _ _ _ (IsPermutation-sym _ _ (one_more results parts k d p r lt is)) (IsPermutation-append_left (r ∷ []) _ _ all)

-- one more that a part tried
pub one_more_tried : (one : Record → Outcome → Type 0) (dealt : List (Numbered Record)) (results : List (Numbered Outcome)) (i : ℕ) (x : Record) (r : Outcome)
    → one x r → Tried one dealt results [] → Tried one (dealt ++ (i, x) ∷ []) (results ++ (i, r) ∷ []) []
one_more_tried one dealt results i x r is (ts, tasks, made, hold) = (
  ts ++ (i, (x, r)) ∷ [],
  ap (λ l. l ++ (i, x) ∷ []) (tasks ∙ append-nil (map task_of ts)) ∙ sym (map-append task_of ts ((i, (x, r)) ∷ [])) ∙ sym (append-nil (map task_of (ts ++ (i, (x, r)) ∷ []))),
  ap (λ l. l ++ (i, r) ∷ []) made ∙ sym (map-append result_of ts ((i, (x, r)) ∷ [])),
  subst (AllTrue one) (sym (map-append the_trial ts ((i, (x, r)) ∷ []))) (true_append one (map the_trial ts) ((x, r) ∷ []) hold (is, tt)),
)

-- and some that it leaves
pub more_left : (one : Record → Outcome → Type 0) (dealt more left : List (Numbered Record)) (results : List (Numbered Outcome))
    → Tried one dealt results left → Tried one (dealt ++ more) results (left ++ more)
more_left one dealt more left results (ts, tasks, made, hold) =
    (ts, ap (λ l. l ++ more) tasks ∙ append_assoc (map task_of ts) left more, made, hold)

-- ---- the least fault

least_permuted : (o : Option (Numbered Fault)) (xs ys : List (Numbered Outcome)) → IsPermutation xs ys → Least o xs → Least o ys
least_permuted None xs ys s l = All-permutation IsGood xs ys s l
least_permuted (Some (m, f)) xs ys s l = (Contains-permutation xs ys (m, Err f) s l.0, All-permutation (NotBelow m) xs ys s l.1)

module _ (came : List (Numbered Outcome)) where
  -- the first may be the last as well
  last_as_first : (o : Option (Numbered Fault)) (r : Numbered Outcome) → Least o (r ∷ came) → Least o (came ++ r ∷ [])
  last_as_first o r = least_permuted o (r ∷ came) (came ++ r ∷ []) (IsPermutation-sym _ _ (IsPermutation-to_front came r))

  first_good : (o : Option (Numbered Fault)) (i : ℕ) (y : Record) → Least o came → Least o ((i, Ok y) ∷ came)
  first_good None i y l = All-cons IsGood (i, Ok y) came tt l
  first_good (Some (n, g)) i y l = ((suc l.0.0, omega (arith, l.0.1), l.0.2), All-cons (NotBelow n) (i, Ok y) came tt l.1)

  first_fault_at : (i : ℕ) (f : Fault) → All (NotBelow i) came → Least (Some (i, f)) ((i, Err f) ∷ came)
  first_fault_at i f l = ((0, omega arith, refl), All-cons (NotBelow i) (i, Err f) came (omega arith) l)

  first_higher : (n i : ℕ) (g f : Fault) → n ≤ i → Least (Some (n, g)) came → Least (Some (n, g)) ((i, Err f) ∷ came)
  first_higher n i g f le l = ((suc l.0.0, omega (arith, l.0.1), l.0.2), All-cons (NotBelow n) (i, Err f) came le l.1)

not_below : (n i : ℕ) (r : Numbered Outcome) → i ≤ n → NotBelow n r → NotBelow i r
not_below n i (k, Ok y) le h = tt
not_below n i (k, Err f) le h = omega (arith, le, h)

good_not_below : (i : ℕ) (r : Numbered Outcome) → IsGood r → NotBelow i r
good_not_below i (k, Ok y) h = tt
good_not_below i (k, Err f) h = absurd h

-- one result more
module _ (came : List (Numbered Outcome)) where
  pub good_more : (o : Option (Numbered Fault)) (i : ℕ) (y : Record) → Least o came → Least o (came ++ (i, Ok y) ∷ [])
  good_more o i y l = last_as_first came o (i, Ok y) (first_good came o i y l)

  pub fault_first : (i : ℕ) (f : Fault) → Least None came → Least (Some (i, f)) (came ++ (i, Err f) ∷ [])
  fault_first i f l = last_as_first came (Some (i, f)) (i, Err f) (first_fault_at came i f (λ k d lt. good_not_below i (slice_index_or came k d) (l k d lt)))

  pub fault_lower : (n i : ℕ) (g f : Fault) → i ≤ n → Least (Some (n, g)) came → Least (Some (i, f)) (came ++ (i, Err f) ∷ [])
  fault_lower n i g f le l =
      last_as_first came (Some (i, f)) (i, Err f) (first_fault_at came i f (λ k d lt. not_below n i (slice_index_or came k d) le (l.1 k d lt)))

  pub fault_higher : (n i : ℕ) (g f : Fault) → n ≤ i → Least (Some (n, g)) came → Least (Some (n, g)) (came ++ (i, Err f) ∷ [])
  fault_higher n i g f le l = last_as_first came (Some (n, g)) (i, Err f) (first_higher came n i g f le l)

pub goods_of-append : (came more : List (Numbered Outcome)) → goods_of (came ++ more) ≡ goods_of came ++ goods_of more
goods_of-append [] more = refl
goods_of-append ((k, Ok z) ∷ came) more = ap (λ l. z ∷ l) (goods_of-append came more)
goods_of-append ((k, Err g) ∷ came) more = goods_of-append came more

-- whether some fault has the least number, and which
least_of : (came : List (Numbered Outcome)) → (o : Option (Numbered Fault)) × Least o came
least_of [] = (None, All-nil IsGood)
least_of ((i, Ok y) ∷ came) = let l = least_of came in (l.0, first_good came l.0 i y l.1)
least_of ((i, Err f) ∷ came) = let l = least_of came in with_fault l.0 l.1
  where
    with_fault : (o : Option (Numbered Fault)) → Least o came → (o : Option (Numbered Fault)) × Least o ((i, Err f) ∷ came)
    with_fault None l = (Some (i, f), first_fault_at came i f (λ k d lt. good_not_below i (slice_index_or came k d) (l k d lt)))
    with_fault (Some (n, g)) l = elim (cases_lt i n) [
      | inl less ↦ (Some (i, f), first_fault_at came i f (λ k d lt. not_below n i (slice_index_or came k d) (omega (arith, less)) (l.1 k d lt)))
      | inr le ↦ (Some (n, g), first_higher came n i g f le l)
    ]

-- ---- all trials of the parts

-- a permutation of what f gives comes of a permutation
module _ {P X : Type 0} (f : P → X) where
  map_swap : (ps : List P) (i j : ℕ) → map f (swap ps i j) ≡ swap (map f ps) i j
  map_swap [] i j = refl
  map_swap (d ∷ ds) i j =
      let l = d ∷ ds in
      map-set f (slice_set l i (slice_index_or l j d)) j (slice_index_or l i d)
      ∙ (λ t. slice_set ((map-set f l i (slice_index_or l j d) ∙ ap (slice_set (map f l) i) (sym (at_map f l j d))) t) j (sym (at_map f l i d) t))

  lift : (zs : List P) (ys : List X) → IsPermutation (map f zs) ys → (ws : List P) × IsPermutation zs ws × (map f ws ≡ ys)
  lift zs ys s = IsPermutation-keeps (map f zs) (λ (l : List X). (ws : List P) × IsPermutation zs ws × (map f ws ≡ l)) (zs, IsPermutation-refl zs, refl)
      (λ l i j p q h.
      let long : length h.0 ≡ length l = sym (length-map h.0 f) ∙ ap length h.2 in
      (swap h.0 i j, IsPermutation-trans _ _ _ h.1 (IsPermutation-swap h.0 (swap h.0 i j) i j (omega (arith, long, p)) (omega (arith, long, q)) refl), map_swap h.0 i j ∙ ap (λ k. swap k i j) h.2))
      ys s

-- an element, by recursion
abbrev IsIn : {X : Type 0} → X → List X → Type 0
IsIn x [] = ⊥
IsIn x (y ∷ ys) = (y ≡ x) ⊎ IsIn x ys

is_in : {X : Type 0} (xs : List X) (x : X) (k : ℕ) → k < length xs → slice_index_or xs k x ≡ x → IsIn x xs
is_in [] x k lt is = absurd (omega (arith, lt))
is_in (y ∷ ys) x zero lt is = inl is
is_in (y ∷ ys) x (suc k) lt is = inr (is_in ys x k (omega (arith, lt)) is)

-- trials of the records of X, which have the numbers from n on
numbers_from : (n : ℕ) (X : List Record) (ts : List (Numbered Trial)) (m : ℕ) (f : Fault) → map task_of ts ≡ enumerate_from n X → IsIn (m, Err f) (map result_of ts) → n ≤ m
numbers_from n X [] m f e i = absurd i
numbers_from n [] (t ∷ ts) m f e i = cc
numbers_from n (x ∷ X) (t ∷ ts) m f e i =
    let h = heads (task_of t) (n, x) (map task_of ts) (enumerate_from (n + 1) X) e in
    let is : t.0 ≡ n = ap (λ (z : Numbered Record). z.0) h.0 in
    ⊎_elim (λ (p : result_of t ≡ (m, Err f)). let q : t.0 ≡ m = ap (λ (z : Numbered Outcome). z.0) p in omega (arith, is, q)) (λ j. let k = numbers_from (n + 1) X ts m f h.1 j in omega (arith, k)) i

no_fault : (ts : List (Numbered Trial)) → AllByRecursion IsGood (map result_of ts) → first_fault (map the_trial ts) ≡ None
no_fault [] a = refl
no_fault ((k, (x, Ok y)) ∷ ts) a = no_fault ts a.1
no_fault ((k, (x, Err f)) ∷ ts) a = absurd a.0

abbrev fault_in : Numbered Outcome → Option Fault
fault_in (i, Ok y) = None
fault_in (i, Err f) = Some f

least_first : (n : ℕ) (X : List Record) (ts : List (Numbered Trial)) (m : ℕ) (f : Fault) → map task_of ts ≡ enumerate_from n X → IsIn (m, Err f) (map result_of ts)
    → AllByRecursion (NotBelow m) (map result_of ts) → first_fault (map the_trial ts) ≡ Some f
least_first n X [] m f e i a = absurd i
least_first n [] (t ∷ ts) m f e i a = cc
least_first n (x ∷ X) ((k, (z, Ok y)) ∷ ts) m f e i a =
    let h = heads (k, z) (n, x) (map task_of ts) (enumerate_from (n + 1) X) e in
    ⊎_elim (λ (p : (k, Ok y) ≡ (m, Err f)). let no : None ≡ Some f = ap fault_in p in cc) (λ j. least_first (n + 1) X ts m f h.1 j a.1) i
least_first n (x ∷ X) ((k, (z, Err g)) ∷ ts) m f e i a =
    let h = heads (k, z) (n, x) (map task_of ts) (enumerate_from (n + 1) X) e in
    let at : k ≡ n = ap (λ (w : Numbered Record). w.0) h.0 in
    ⊎_elim (λ (p : (k, Err g) ≡ (m, Err f)). ap fault_in p) (λ j. let r = numbers_from (n + 1) X ts m f h.1 j in absurd (omega (arith, r, at, a.0))) i

least_is : (X : List Record) (ts : List (Numbered Trial)) (o : Option (Numbered Fault)) → map task_of ts ≡ enumerate_from 0 X → Least o (map result_of ts) → first_fault (map the_trial ts) ≡ fault_of o
least_is X ts None e l = no_fault ts (recursion_from_All IsGood (map result_of ts) l)
least_is X ts (Some (m, f)) e l = least_first 0 X ts m f e (is_in (map result_of ts) (m, Err f) l.0.0 l.0.1 l.0.2) (recursion_from_All (NotBelow m) (map result_of ts) l.1)

inputs : (n : ℕ) (X : List Record) (ts : List (Numbered Trial)) → map task_of ts ≡ enumerate_from n X → X ≡ map tried (map the_trial ts)
inputs n [] [] e = refl
inputs n [] (t ∷ ts) e = cc
inputs n (x ∷ X) [] e = cc
inputs n (x ∷ X) (t ∷ ts) e =
    let h = heads (task_of t) (n, x) (map task_of ts) (enumerate_from (n + 1) X) e in
    let is : x ≡ t.1.0 = sym (ap (λ (z : Numbered Record). z.1) h.0) in
    (λ i. is i ∷ inputs (n + 1) X ts h.1 i)

outputs : (ts : List (Numbered Trial)) → goods_of (map result_of ts) ≡ goods (map the_trial ts)
outputs [] = refl
outputs ((k, (x, Ok y)) ∷ ts) = ap (λ l. y ∷ l) (outputs ts)
outputs ((k, (x, Err f)) ∷ ts) = outputs ts

goods_append : (ts us : List Trial) → goods (ts ++ us) ≡ goods ts ++ goods us
goods_append [] us = refl
goods_append ((x, Ok y) ∷ ts) us = ap (λ ys. y ∷ ys) (goods_append ts us)
goods_append ((x, Err f) ∷ ts) us = goods_append ts us

first_append : (ts us : List Trial) → first_fault ts ≡ None → first_fault (ts ++ us) ≡ first_fault us
first_append [] us h = refl
first_append ((x, Ok y) ∷ ts) us h = first_append ts us h
first_append ((x, Err f) ∷ ts) us h = cc

-- the trials of all of X, in its order and in the order in which their results came
record Trials (one : Record → Outcome → Type 0) (X : List Record) (came : List (Numbered Outcome)) (first : Option Fault) : Type 0 where
  trials : List Trial
  order : List Trial
  all : AllTrue one trials
  reordered : IsPermutation trials order
  from : X ≡ map tried trials
  to : goods_of came ≡ goods order
  first_is : first_fault trials ≡ first

module _ (one : Record → Outcome → Type 0) where
  abbrev Holds : Trial → Type 0
  Holds t = one t.0 t.1

  true_permuted : (ts us : List Trial) → IsPermutation ts us → AllTrue one ts → AllTrue one us
  true_permuted ts us same all = recursion_from_All Holds us (All-permutation Holds ts us same (All-from_recursion Holds ts all))

  -- `ts`: all that was tried, part by part
  trials_together : (X : List Record) (ts : List (Numbered Trial)) (came : List (Numbered Outcome)) (o : Option (Numbered Fault))
      → AllTrue one (map the_trial ts) → IsPermutation (enumerate_from 0 X) (map task_of ts) → IsPermutation (map result_of ts) came → Least o came → Trials one X came (fault_of o)
  trials_together X ts came o all dealt collected least =
      let a = lift task_of ts (enumerate_from 0 X) (IsPermutation-sym _ _ dealt) in
      let b = lift result_of ts came collected in
      let back : IsPermutation came (map result_of a.0) = IsPermutation-trans _ _ _ (IsPermutation-sym _ _ collected) (IsPermutation-map result_of ts a.0 a.1) in
      record {
        trials = map the_trial a.0;
        order = map the_trial b.0;
        all = true_permuted (map the_trial ts) (map the_trial a.0) (IsPermutation-map the_trial ts a.0 a.1) all;
        reordered = IsPermutation-map the_trial a.0 b.0 (IsPermutation-trans _ _ _ (IsPermutation-sym _ _ a.1) b.1);
        from = inputs 0 X a.0 a.2;
        to = ap goods_of (sym b.2) ∙ outputs b.0;
        first_is = least_is X a.0 o a.2 (least_permuted o came (map result_of a.0) back least);
      }

  -- no part faulted: the farm goes on
  together_goes : (X : List Record) (came : List (Numbered Outcome)) → Trials one X came None → GoesOn (Unordered one) (Unordered one) X (goods_of came)
  together_goes X came t S T h = record {
    trials = t.trials ++ h.trials;
    order = t.order ++ h.order;
    rest = h.rest;
    all = true_append one t.trials h.trials t.all h.all;
    reordered = IsPermutation-append t.trials t.order h.trials h.order t.reordered h.reordered;
    from = (λ i. t.from i ++ h.from i) ∙ sym (append_assoc (map tried t.trials) (map tried h.trials) h.rest) ∙ ap (λ l. l ++ h.rest) (sym (map-append tried t.trials h.trials));
    to = (λ i. t.to i ++ h.to i) ∙ sym (goods_append t.order h.order);
    ends = subst (λ (o : Option Fault). EndsBy o h.rest S.ending T.ending) (sym (first_append t.trials h.trials t.first_is)) h.ends;
  }

  -- the least fault is the first
  together_stops : (X : List Record) (came : List (Numbered Outcome)) (f : Fault) → Trials one X came (Some f) → StopsAt (Unordered one) X (goods_of came) f
  together_stops X came f t S = record {
    trials = t.trials;
    order = t.order;
    rest = S.records;
    all = t.all;
    reordered = t.reordered;
    from = ap (λ l. l ++ S.records) t.from;
    to = t.to;
    ends = subst (λ (o : Option Fault). EndsBy o S.records S.ending (failed f)) (sym t.first_is) refl;
  }

  together_ends : (X : List Record) (e : Ending) (came : List (Numbered Outcome)) (o : Option Fault) → Trials one X came o → Unordered one (stream X e) (stream (goods_of came) (end_by o e))
  together_ends X e came o t = record {
    trials = t.trials;
    order = t.order;
    rest = [];
    all = t.all;
    reordered = t.reordered;
    from = t.from ∙ sym (append-nil (map tried t.trials));
    to = t.to;
    ends = subst (λ (q : Option Fault). EndsBy q [] e (end_by o e)) (sym t.first_is) (ends_so o e);
  }

-- ---- the parts of a farm

true_by : (one any : Record → Outcome → Type 0) → ((x : Record) (r : Outcome) → one x r → any x r) → (ts : List Trial) → AllTrue one ts → AllTrue any ts
true_by one any by [] all = tt
true_by one any by (t ∷ ts) all = (by t.0 t.1 all.0, true_by one any by ts all.1)

-- the results of a first part and of others, with what these and those have left
between : {X : Type 0} (r R m M all : List X) → IsPermutation (R ++ M) all → IsPermutation ((r ++ R) ++ (m ++ M)) ((r ++ m) ++ all)
between r R m M all same =
    let turned : IsPermutation (R ++ (m ++ M)) (m ++ (R ++ M)) =
    subst (λ l. IsPermutation l (m ++ (R ++ M))) (append_assoc R m M) (subst (IsPermutation ((R ++ m) ++ M)) (append_assoc m R M) (IsPermutation-append_left M _ _ (IsPermutation-append_comm R m))) in
    let moved = IsPermutation-append_right r _ _ (IsPermutation-trans _ _ _ turned (IsPermutation-append_right m _ _ same)) in
    subst (λ l. IsPermutation l ((r ++ m) ++ all)) (sym (append_assoc r R (m ++ M))) (subst (IsPermutation (r ++ (R ++ (m ++ M)))) (sym (append_assoc r m all)) moved)

module _ {O : Type 0} (one : O → Record → Outcome → Type 0) where
  -- all that the parts tried, one part behind the other
  flat : (ps : List (Part O)) → AllByRecursion (HasTriedAll one) ps
      → (ts : List (Numbered Trial)) × (flat_map dealt_to ps ≡ map task_of ts) × (flat_map results_of ps ≡ map result_of ts) × AllTrue (AnyOf one (map worker_of ps)) (map the_trial ts)
  flat [] all = ([], refl, refl, tt)
  flat (p ∷ ps) ((ts, dealt, results, hold), all) =
      let (us, dealt', results', hold') = flat ps all in
      let any = AnyOf one (map worker_of (p ∷ ps)) in (
        ts ++ us,
        (λ i. (dealt ∙ append-nil (map task_of ts)) i ++ dealt' i) ∙ sym (map-append task_of ts us),
        (λ i. results i ++ results' i) ∙ sym (map-append result_of ts us),
        subst (AllTrue any) (sym (map-append the_trial ts us))
            (true_append any (map the_trial ts) (map the_trial us) (true_by (one p.worker) any (λ x r h. inl h) (map the_trial ts) hold) (true_by (AnyOf one (map worker_of ps)) any (λ x r h. inr h) (map the_trial us) hold')),
      )

  module _ (X : List Record) (ps : List (Part O)) (came : List (Numbered Outcome)) (o : Option (Numbered Fault)) where
    parts_together : AllByRecursion (HasTriedAll one) ps → IsDealt dealt_to ps X → IsCollected results_of ps came → Least o came → Trials (AnyOf one (map worker_of ps)) X came (fault_of o)
    parts_together all dealt collected least =
        let (ts, tasks, results, hold) = flat ps all in
        trials_together (AnyOf one (map worker_of ps)) X ts came o hold (subst (IsPermutation (enumerate_from 0 X)) tasks dealt) (subst (λ l. IsPermutation l came) results collected) least

    pub farm_together : (e : Ending) → AllByRecursion (HasTriedAll one) ps → IsDealt dealt_to ps X → IsCollected results_of ps came → Least o came
        → Unordered (AnyOf one (map worker_of ps)) (stream X e) (stream (goods_of came) (end_by (fault_of o) e))
    farm_together e all dealt collected least = together_ends (AnyOf one (map worker_of ps)) X e came (fault_of o) (parts_together all dealt collected least)

-- trials of what a part has left
tries_of : (one : Record → Outcome → Type 0) → IsTotal one → (left : List (Numbered Record)) → (us : List (Numbered Trial)) × (map task_of us ≡ left) × AllTrue one (map the_trial us)
tries_of one total [] = ([], refl, tt)
tries_of one total ((i, x) ∷ left) =
    let r = total x in
    let (us, tasks, hold) = tries_of one total left in
    ((i, (x, r.0)) ∷ us, ap (λ l. (i, x) ∷ l) tasks, (r.1, hold))

module _ {O : Type 0} (one : O → Record → Outcome → Type 0) (total : (w : O) → IsTotal (one w)) where
  -- the parts once they have tried what they have left
  record Completed (ps : List (Part O)) : Type 0 where
    parts : List (Part O)
    all : AllByRecursion (HasTriedAll one) parts
    workers : map worker_of parts ≡ map worker_of ps
    dealt : flat_map dealt_to parts ≡ flat_map dealt_to ps
    more : List (Numbered Outcome)
    results : IsPermutation (flat_map results_of ps ++ more) (flat_map results_of parts)

  complete : (ps : List (Part O)) → AllByRecursion (HasTriedSome one) ps → Completed ps
  complete [] some = record { parts = []; all = tt; workers = refl; dealt = refl; more = []; results = IsPermutation-refl [] }
  complete (p ∷ ps) ((left, (ts, dealt, results, hold)), some) =
      let rest = complete ps some in
      let (us, tasks, hold') = tries_of (one p.worker) (total p.worker) left in
      let whole : HasTriedAll one (record p { results = p.results ++ map result_of us }) = (
        ts ++ us,
        dealt ∙ ap (λ l. map task_of ts ++ l) (sym tasks) ∙ sym (map-append task_of ts us) ∙ sym (append-nil (map task_of (ts ++ us))),
        ap (λ l. l ++ map result_of us) results ∙ sym (map-append result_of ts us),
        subst (AllTrue (one p.worker)) (sym (map-append the_trial ts us)) (true_append (one p.worker) (map the_trial ts) (map the_trial us) hold hold'),
      ) in
      record {
        parts = record p { results = p.results ++ map result_of us } ∷ rest.parts;
        all = (whole, rest.all);
        workers = ap (λ l. p.worker ∷ l) rest.workers;
        dealt = ap (λ l. p.dealt ++ l) rest.dealt;
        more = map result_of us ++ rest.more;
        results = between p.results (flat_map results_of ps) (map result_of us) rest.more (flat_map results_of rest.parts) rest.results;
      }

  module _ (X : List Record) (ps : List (Part O)) (came : List (Numbered Outcome)) (some : 1 ≤ length ps) (dealt : IsDealt dealt_to ps X) (collected : IsCollected results_of ps came) where
    abbrev Runs : Stream → Stream → Type 0
    Runs = Unordered (AnyOf one (map worker_of ps))

    has_all : HasAll Runs
    has_all = step_total one total [] (Farm (map worker_of ps)) (omega (arith, some, length-map ps worker_of))

    -- all was tried
    pub farm_ended : (o : Option (Numbered Fault)) (e : Ending) → AllByRecursion (HasTriedAll one) ps → Least o came → HasEnded Runs (stream X e) (stream (goods_of came) (end_by (fault_of o) e))
    farm_ended o done all least = whole_ended Runs X (goods_of came) done (end_by (fault_of o) done) (λ is. cc) (farm_together one X ps came o done all dealt collected least)
    farm_ended o (failed f) all least = whole_ended Runs X (goods_of came) (failed f) (end_by (fault_of o) (failed f)) (λ is. cc) (farm_together one X ps came o (failed f) all dealt collected least)
    farm_ended o unread all least = whole_ended Runs X (goods_of came) unread (end_by (fault_of o) unread) (λ is. cc) (farm_together one X ps came o unread all dealt collected least)
    farm_ended None cut all least =
        let goes = together_goes (AnyOf one (map worker_of ps)) X came (parts_together one X ps came None all dealt collected least) in
        subst (λ (l : List Record). HasEnded Runs (stream l cut) (stream (goods_of came) cut)) (append-nil X) (goes_given_up Runs Runs X (goods_of came) goes has_all (stream [] cut))
    farm_ended (Some (n, f)) cut all least = together_stops (AnyOf one (map worker_of ps)) X came f (parts_together one X ps came (Some (n, f)) all dealt collected least)

    -- some of it was
    farm_begun : AllByRecursion (HasTriedSome one) ps → IsBegun Runs X (goods_of came)
    farm_begun tried S =
        let later = complete ps tried in
        let all = came ++ later.more in
        let least = least_of all in
        let all_came : IsCollected results_of later.parts all = IsPermutation-trans _ _ _ (IsPermutation-sym _ _ later.results) (IsPermutation-append_left later.more _ _ collected) in
        let trials = subst (λ (ws : List O). Trials (AnyOf one ws) X all (fault_of least.0)) later.workers
        (parts_together one X later.parts all least.0 later.all (subst (λ l. IsPermutation (enumerate_from 0 X) l) (sym later.dealt) dealt) all_came least.1) in
        by_fault all (fault_of least.0) trials (goods_of later.more) (goods_of-append came later.more)
      where
        by_fault : (all : List (Numbered Outcome)) (o : Option Fault) → Trials (AnyOf one (map worker_of ps)) X all o → (others : List Record) → goods_of all ≡ goods_of came ++ others
            → (T : Stream) × Runs (before X S) T × (others : List Record) × (T.records ≡ goods_of came ++ others)
        by_fault all (Some f) trials others is = (stream (goods_of all) (failed f), together_stops (AnyOf one (map worker_of ps)) X all f trials S, others, is)
        by_fault all None trials others is =
            let t = has_all S in
            (before (goods_of all) t.0, together_goes (AnyOf one (map worker_of ps)) X all trials S t.0 t.1, others ++ t.0.records, ap (λ l. l ++ t.0.records) is ∙ append_assoc (goods_of came) others t.0.records)

    pub farm_given_up : (e : Ending) → AllByRecursion (HasTriedSome one) ps → HasEnded Runs (stream X e) (stream (goods_of came) cut)
    farm_given_up e tried = subst (λ (l : List Record). HasEnded Runs (stream l e) (stream (goods_of came) cut)) (append-nil X)
        (begun_ended Runs X (goods_of came) (stream [] e) (farm_begun tried))
