-- The value of a path that was solved, and of one that was split.
use Rattle.std.proofs.Common.{◌≡◌, ◌≤◌, ◌<◌, ◌+◌, ◌-◌, ◌⊎◌, flat_map, ℤ, ℕ, zero, suc, Bool, true, false, cond, List, [], ◌∷◌, ◌++◌, length, map, Option, Some, None, Result, Ok, Err, IfOk, Contains, Decides, bytes_eq, refl, sym, ap, ◌∙◌, subst, inl, inr, arith}
use Rattle.std.proofs.lemmas.Bool.{false≢true, cases_lt}
use Rattle.std.proofs.lemmas.List.{length_push, append-nil}
use Rattle.std.proofs.lemmas.List.Elements.{All-contains, Contains-append_left, Contains-append_right, Contains-push}
use Rattle.std.proofs.lemmas.List.FromFn.{map-range_with_len_more}
use Rattle.std.proofs.lemmas.Grind.{flat_map-append}
use Rattle.std.proofs.lemmas.Slice.Eq.{bytes_eq-Decides}
use Rattle.msl_base.specs.Covers.{Split, split_paths, times, ComesUp}
use Rattle.msl_base.specs.Streams.{Record, Outcome}
use Rattle.msl_base.specs.declared.fault.Fault.{Fault}
use Rattle.msl_cover.proofs.Covers.{split_or_shut, child_comes_up, child_is_kept, contains-split, times-contains, times-cons, here-other, contains-times, contains-cases}
use Rattle.msl_fun.specs.declared.funs.Fun.{Fun}
use Rattle.msl_fun.specs.Meaning.{results_of}
use Rattle.msl_base.specs.declared.fault.Fault.TheVariants.{Overflow, DivZero, Steps}
use Rattle.msl_fun.specs.declared.fault.EvalFault.{EvalFault}
use Rattle.msl_fun.specs.declared.fault.EvalFault.TheVariants as fault
use Rattle.msl_lists.specs.Whole.{◌>>=◌, at_stage, below, collect, each}
use Rattle.msl_lists.specs.WholeLaws.{both, joined}
use Rattle.msl_lists.proofs.WholeParts.{collect_parts, each_parts, each_congruent}
use Rattle.msl_program.specs.Along.{most_levels}
use Rattle.msl_program.specs.Calls.{run}
use Rattle.msl_program.specs.Divide.{combined_by}
use Rattle.msl_program.specs.declared.script.DivCon.{DivCon}
use Rattle.msl_tree.specs.ByPath.{found}
use Rattle.msl_tree.specs.Combined.{entry, is_split, combined_in, combined}
use Rattle.msl_tree.specs.Covered.{IsCovered}
use Rattle.msl_tree.specs.Lists.{Leaf, leaf_paths}
use Rattle.msl_tree.proofs.Values.{not_split, was_split, first_entry}

-- ---- values of parts, one after the other

module _ {A E : Type 0} where
  joined_push : (p : Result (List (List A)) E) (r : Result (List A) E) → joined (both p (r >>= λ y. Ok (y ∷ []))) ≡ both (joined p) r
  joined_push (Ok xss) (Ok ys) = ap Ok (flat_map-append (λ (xs : List A). xs) xss (ys ∷ []) ∙ ap (λ (zs : List A). flat_map (λ (xs : List A). xs) xss ++ zs) (append-nil ys))
  joined_push (Ok xss) (Err e) = refl
  joined_push (Err e) r = refl

  pub joined_more : (n : ℕ) (f : ℕ → Result (List A) E) → joined (each (n + 1) f) ≡ both (joined (each n f)) (f n)
  joined_more n f =
      ap (λ (rs : List (Result (List A) E)). joined (collect rs)) (map-range_with_len_more f 0 n n (omega arith))
      ∙ ap (λ (p : Result (List (List A)) E). joined p) (collect_parts (map f (below n)) (f n ∷ []))
      ∙ joined_push (each n f) (f n)

  joined_err : (p q : Result (List (List A)) E) (e : E) → joined p ≡ Err e → joined (both p q) ≡ Err e
  joined_err (Ok xss) q e h = let w : ◌≡◌ {A = Result (List A) E} (Ok (flat_map (λ (xs : List A). xs) xss)) (Err e) = h in cc
  joined_err (Err f) q e h = h

  -- the next part has a value too
  pub joined_ok : (n : ℕ) (f : ℕ → Result (List A) E) (ys zs : List A) → joined (each n f) ≡ Ok ys → f n ≡ Ok zs → joined (each (n + 1) f) ≡ Ok (ys ++ zs)
  joined_ok n f ys zs h i = joined_more n f ∙ ap (λ (p : Result (List A) E). both p (f n)) h ∙ ap (λ (q : Result (List A) E). both (Ok ys) q) i

  -- the next part faults, and so do all
  pub joined_fault : (n k : ℕ) (f : ℕ → Result (List A) E) (ys : List A) (e : E) → k < n → joined (each k f) ≡ Ok ys → f k ≡ Err e → joined (each n f) ≡ Err e
  joined_fault n k f ys e lt h i =
      let here : joined (each (k + 1) f) ≡ Err e = joined_more k f ∙ ap (λ (p : Result (List A) E). both p (f k)) h ∙ ap (λ (q : Result (List A) E). both (Ok ys) q) i in
      let rest = each (n - (k + 1)) (λ j. f (k + 1 + j)) in
      let long : k + 1 + (n - (k + 1)) ≡ n = omega (arith, lt) in
      ap (λ m. joined (each m f)) (sym long) ∙ ap (λ (p : Result (List (List A)) E). joined p) (each_parts (k + 1) (n - (k + 1)) f) ∙ joined_err (each (k + 1) f) rest e here

bind_joined : {A B E : Type 0} (p : Result (List (List A)) E) (go : List A → Result B E) → (p >>= λ xss. go (flat_map (λ (xs : List A). xs) xss)) ≡ (joined p >>= go)
bind_joined (Ok xss) go = refl
bind_joined (Err e) go = refl

-- ---- a path that was solved

record Met (solved : List Leaf) (q : List ℕ) (r : Outcome) : Type 0 where
  leaf : Leaf
  among : Contains solved leaf
  at : leaf.path ≡ q
  value : leaf.value ≡ r
  is : entry solved q ≡ r

some_same : (x y : Outcome) → Some x ≡ Some y → x ≡ y
some_same x y e = cc

met : (solved : List Leaf) (q : List ℕ) (r : Outcome) → found solved q ≡ Some r → Met solved q r
met [] q r h = let w : ◌≡◌ {A = Option Outcome} None (Some r) = h in cc
met (l ∷ ls) q r h = go (bytes_eq q l.path) (bytes_eq-Decides q l.path) refl (met ls q r)
  where
    go : (b : Bool) → Decides b (q ≡ l.path) → bytes_eq q l.path ≡ b → (found ls q ≡ Some r → Met ls q r) → Met (l ∷ ls) q r
    go true d e rest =
        let same : l.value ≡ r = some_same l.value r (sym (ap (λ (b : Bool). cond b (Some l.value) (found ls q)) e) ∙ h) in
        record {
          leaf = l;
          among = Contains-append_left (l ∷ []) ls l (Contains-push [] l);
          at = sym (d.0 refl);
          value = same;
          is = ap (λ (b : Bool). cond b l.value (entry ls q)) e ∙ same;
        }
    go false d e rest =
        let m = rest (sym (ap (λ (b : Bool). cond b (Some l.value) (found ls q)) e) ∙ h) in
        record {
          leaf = m.leaf;
          among = Contains-append_right (l ∷ []) ls m.leaf m.among;
          at = m.at;
          value = m.value;
          is = ap (λ (b : Bool). cond b l.value (entry ls q)) e ∙ m.is;
        }

contains-leaf_path : (solved : List Leaf) (l : Leaf) → Contains solved l → Contains (leaf_paths solved) l.path
contains-leaf_path [] l h = absurd (omega (arith, h.1))
contains-leaf_path (m ∷ ls) l h = go (contains-cases m ls l h) (contains-leaf_path ls l)
  where
    go : (m ≡ l) ⊎ Contains ls l → (Contains ls l → Contains (leaf_paths ls) l.path) → Contains (leaf_paths (m ∷ ls)) l.path
    go (inl is) rest = subst (λ (p : Leaf). Contains (leaf_paths (m ∷ ls)) p.path) is (Contains-append_left (m.path ∷ []) (leaf_paths ls) m.path (Contains-push [] m.path))
    go (inr more) rest = Contains-append_right (m.path ∷ []) (leaf_paths ls) l.path (rest more)

-- ---- a path that wasn't

none_there : (solved : List Leaf) (q : List ℕ) → found solved q ≡ None → times q (leaf_paths solved) ≡ 0
none_there [] q h = refl
none_there (l ∷ ls) q h = go (bytes_eq q l.path) (bytes_eq-Decides q l.path) refl (none_there ls q)
  where
    go : (b : Bool) → Decides b (q ≡ l.path) → bytes_eq q l.path ≡ b → (found ls q ≡ None → times q (leaf_paths ls) ≡ 0) → times q (leaf_paths (l ∷ ls)) ≡ 0
    go true d e rest = let w : ◌≡◌ {A = Option Outcome} (Some l.value) None = sym (ap (λ (b : Bool). cond b (Some l.value) (found ls q)) e) ∙ h in cc
    go false d e rest =
        let less : times q (leaf_paths ls) ≡ 0 = rest (sym (ap (λ (b : Bool). cond b (Some l.value) (found ls q)) e) ∙ h) in
        omega (arith, less, times-cons q l.path (leaf_paths ls), here-other q l.path (λ is. false≢true (d.1 is)))

module _ (funs : List Fun) (d : DivCon) (stage : ℕ) (splits : List Split) (solved : List Leaf) where
  abbrev pub at : List ℕ → Outcome
  at q = combined funs d stage splits solved q

  abbrev pub part : List ℕ → ℕ → Outcome
  part q j = at (q ++ j ∷ [])

  shut_at : (n : ℕ) (q : List ℕ) → is_split splits q ≡ false → combined_in funs d stage splits solved n q ≡ entry solved q
  shut_at zero q h = refl
  shut_at (suc n) q h = ap (λ (b : Bool). cond b (combined_by funs d stage (λ j. combined_in funs d stage splits solved n (q ++ j ∷ []))) (entry solved q)) h

  -- at most 64 steps, and with a value for each part
  pub record IsOpen (q : List ℕ) : Type 0 where
    pub deep : length q < most_levels
    pub was : is_split splits q ≡ true
    pub parts : (j : ℕ) → j < d.parts → ComesUp splits (q ++ j ∷ [])

  pub open_value : (q : List ℕ) → IsOpen q → at q ≡ (joined (each d.parts (part q)) >>= λ values. run funs stage d.combine values)
  open_value q h =
      let n = 63 - length q in
      let left : most_levels - length q ≡ suc n = omega (arith, h.deep) in
      let next : (j : ℕ) → n ≡ most_levels - length (q ++ j ∷ []) = λ j. omega (arith, length_push q j) in
      let deeper = λ (j : ℕ). combined_in funs d stage splits solved n (q ++ j ∷ []) in
      let go = λ (values : Record). run funs stage d.combine values in
      ap (λ (m : ℕ). combined_in funs d stage splits solved m q) left
      ∙ ap (λ (b : Bool). cond b (combined_by funs d stage deeper) (entry solved q)) h.was
      ∙ bind_joined (each d.parts deeper) go
      ∙ ap (λ (p : Result (List Record) Fault). joined p >>= go) (each_congruent d.parts deeper (part q) (λ j lt. ap (λ (m : ℕ). combined_in funs d stage splits solved m (q ++ j ∷ [])) (next j)))

  module _ (c : IsCovered funs d stage splits solved) where
    abbrev Kept : List ℕ → Type 0
    Kept q = ((times q (split_paths splits) ≡ 1) × (times q (leaf_paths solved) ≡ 0)) ⊎ ((times q (split_paths splits) ≡ 0) × (times q (leaf_paths solved) ≡ 1))

    pub solved_value : (q : List ℕ) (r : Outcome) → ComesUp splits q → found solved q ≡ Some r → r ≡ at q
    solved_value q r up h = go (split_or_shut splits (leaf_paths solved) q c.covers up)
      where
        m : Met solved q r
        m = met solved q r h

        there : 1 ≤ times q (leaf_paths solved)
        there = subst (λ (p : List ℕ). 1 ≤ times p (leaf_paths solved)) m.at (contains-times m.leaf.path (leaf_paths solved) (contains-leaf_path solved m.leaf m.among))

        go : Kept q → r ≡ at q
        go (inl s) = absurd (omega (arith, s.1, there))
        go (inr s) = sym (shut_at (most_levels - length q) q (not_split splits q s.0) ∙ m.is)

    pub solved_wide : (q : List ℕ) (r : Outcome) → found solved q ≡ Some r → IfOk r (λ y. length y ≡ results_of funs d.solve)
    solved_wide q r h =
        let m = met solved q r h in
        let P : Outcome → Type 0 = λ r. IfOk r (λ y. length y ≡ results_of funs d.solve) in
        subst P m.value (All-contains (λ l. IfOk l.value (λ y. length y ≡ results_of funs d.solve)) solved m.leaf c.wide m.among)

    -- ---- no path of 64 steps was split

    abbrev total : List Split → ℕ
    total [] = 0
    total (s ∷ ss) = length s.path + total ss

    within : (ss : List Split) (s : Split) → Contains ss s → length s.path ≤ total ss
    within [] s h = absurd (omega (arith, h.1))
    within (t ∷ ss) s h = go (contains-cases t ss s h) (within ss s)
      where
        go : (t ≡ s) ⊎ Contains ss s → (Contains ss s → length s.path ≤ total ss) → length s.path ≤ length t.path + total ss
        go (inl is) rest = omega (arith, ap (λ (r : Split). length r.path) is)
        go (inr more) rest = omega (arith, rest more)

    abbrev Longer : ℕ → Type 0
    Longer n = (s : Split) × Contains splits s × (n ≤ length s.path)

    longer : (n : ℕ) → most_levels ≤ n → Longer n → Longer (n + 1)
    longer n past h = go (child_is_kept splits (leaf_paths solved) h.0 0 c.covers h.1 (omega (arith, All-contains (λ s. s.count ≡ d.parts) splits h.0 c.parts h.1, c.fits.some_parts)))
      where
        go : Contains (split_paths splits) (h.0.path ++ 0 ∷ []) ⊎ Contains (leaf_paths solved) (h.0.path ++ 0 ∷ []) → Longer (n + 1)
        go (inl s) = let t = contains-split (h.0.path ++ 0 ∷ []) splits s in (t.0, t.1, omega (arith, ap length t.2, length_push h.0.path 0, h.2))
        go (inr l) =
            let f = first_entry solved (h.0.path ++ 0 ∷ []) l in
            absurd (omega (arith, past, h.2, ap length f.at, length_push h.0.path 0, All-contains (λ l. length l.path ≤ most_levels) solved f.leaf c.short f.among))

    much_longer : (k : ℕ) → Longer most_levels → Longer (most_levels + k)
    much_longer zero h = (h.0, h.1, omega (arith, h.2))
    much_longer (suc k) h =
        let m = longer (most_levels + k) (omega arith) (much_longer k h) in
        (m.0, m.1, omega (arith, m.2))

    split_deep : (s : Split) → Contains splits s → length s.path < most_levels
    split_deep s h = go (cases_lt (length s.path) most_levels)
      where
        go : (length s.path < most_levels) ⊎ (most_levels ≤ length s.path) → length s.path < most_levels
        go (inl less) = less
        go (inr past) = let m = much_longer (total splits) (s, h, past) in absurd (omega (arith, m.2, within splits m.0 m.1))

    pub opens : (q : List ℕ) → ComesUp splits q → found solved q ≡ None → IsOpen q
    opens q up h = go (split_or_shut splits (leaf_paths solved) q c.covers up)
      where
        go : Kept q → IsOpen q
        go (inl s) =
            let t = contains-split q splits (times-contains q (split_paths splits) (omega (arith, s.0))) in
            record {
              deep = omega (arith, ap length t.2, split_deep t.0 t.1);
              was = was_split splits q s.0;
              parts = λ j lt. subst (λ (r : List ℕ). ComesUp splits (r ++ j ∷ [])) t.2 (child_comes_up splits t.0 j t.1 (omega (arith, lt, All-contains (λ s. s.count ≡ d.parts) splits t.0 c.parts t.1)));
            }
        go (inr s) = absurd (omega (arith, s.1, none_there solved q h))

-- ---- part by part, where the functions are the same

module _ (funs same : List Fun) (d : DivCon) (stage : ℕ) (splits : List Split) (solved : List Leaf) (are : same ≡ funs) (q : List ℕ) (h : IsOpen funs d stage splits solved q) where
  pub part_ok : (j : ℕ) (p : List ℕ) (ys zs all : Record) → p ≡ q ++ j ∷ [] → joined (each j (part funs d stage splits solved q)) ≡ Ok ys → Ok zs ≡ combined same d stage splits solved p
      → all ≡ ys ++ zs → joined (each (j + 1) (part funs d stage splits solved q)) ≡ Ok all
  part_ok j p ys zs all is before value whole =
      let here : part funs d stage splits solved q j ≡ Ok zs =
      ap (λ (r : List ℕ). combined funs d stage splits solved r) (sym is) ∙ ap (λ (fs : List Fun). combined fs d stage splits solved p) (sym are) ∙ sym value in
      joined_ok j (part funs d stage splits solved q) ys zs before here ∙ ap Ok (sym whole)

  pub part_fault : (j : ℕ) (p : List ℕ) (ys : Record) (e : Fault) → j < d.parts → p ≡ q ++ j ∷ [] → joined (each j (part funs d stage splits solved q)) ≡ Ok ys
      → Err e ≡ combined same d stage splits solved p → Err e ≡ combined funs d stage splits solved q
  part_fault j p ys e lt is before value =
      let here : part funs d stage splits solved q j ≡ Err e =
      ap (λ (r : List ℕ). combined funs d stage splits solved r) (sym is) ∙ ap (λ (fs : List Fun). combined fs d stage splits solved p) (sym are) ∙ sym value in
      sym (open_value funs d stage splits solved q h
      ∙ ap (λ (r : Outcome). r >>= λ values. run funs stage d.combine values) (joined_fault d.parts j (part funs d stage splits solved q) ys e lt before here))

  pub parts_combined : (j : ℕ) (ys xs : Record) (r : Outcome) → j ≡ d.parts → joined (each j (part funs d stage splits solved q)) ≡ Ok ys → xs ≡ ys → run same stage d.combine xs ≡ r
      → r ≡ combined funs d stage splits solved q
  parts_combined j ys xs r all before is value =
      sym (open_value funs d stage splits solved q h
      ∙ ap (λ (n : ℕ). joined (each n (part funs d stage splits solved q)) >>= λ values. run funs stage d.combine values) (sym all)
      ∙ ap (λ (r : Outcome). r >>= λ values. run funs stage d.combine values) before
      ∙ ap (run funs stage d.combine) (sym is)
      ∙ ap (λ (fs : List Fun). run fs stage d.combine xs) (sym are)
      ∙ value)

same_fault : (x y : Fault) → ◌≡◌ {A = Result ℤ Fault} (Err x) (Err y) → ◌≡◌ {A = Outcome} (Err x) (Err y)
same_fault x y h = let e : x ≡ y = cc in ap (λ (f : Fault). Err f) e

-- a fault of the stage, whatever was wanted
pub fault_of : (stage : ℕ) (f : EvalFault) (e : Fault) → at_stage {A = ℤ} stage (Err f) ≡ Err e → at_stage {A = Record} stage (Err f) ≡ Err e
fault_of stage fault.Overflow e h = same_fault (Overflow stage) e h
fault_of stage fault.DivZero e h = same_fault (DivZero stage) e h
fault_of stage fault.Steps e h = same_fault (Steps stage) e h

pub root_value : (funs same : List Fun) (d : DivCon) (stage : ℕ) (splits : List Split) (solved : List Leaf) (p root : List ℕ) (r : Outcome) → same ≡ funs → p ≡ root → r ≡ combined same d stage splits solved p
    → combined funs d stage splits solved root ≡ r
root_value funs same d stage splits solved p root r are is value =
    sym (value ∙ ap (λ (fs : List Fun). combined fs d stage splits solved p) are ∙ ap (λ (q : List ℕ). combined funs d stage splits solved q) is)
