-- Where splits and solved paths cover, combined values are recursive values.
use Rattle.std.proofs.Common.{◌≡◌, ◌<◌, ◌+◌, ◌-◌, ◌⊎◌, flat_map, ℤ, ℕ, zero, suc, Bool, true, false, cond, List, [], ◌∷◌, ◌++◌, length, get_or, Result, Ok, Err, All, Contains, Decides, bytes_eq, refl, sym, ap, ◌∙◌, subst, inl, inr, arith}
use Rattle.std.proofs.lemmas.Bool.{false≢true}
use Rattle.std.proofs.lemmas.Bool.Decides.{nat_tests}
use Rattle.std.proofs.lemmas.List.{length_push}
use Rattle.std.proofs.lemmas.List.Elements.{All-contains, Contains-append_left, Contains-append_right, Contains-push}
use Rattle.std.proofs.lemmas.Slice.Eq.{bytes_eq-Decides}
use Rattle.msl_base.specs.Covers.{Split, split_paths, times, Covers, ComesUp}
use Rattle.msl_base.specs.Streams.{Record, Outcome}
use Rattle.msl_base.specs.declared.fault.Fault.{Fault}
use Rattle.msl_cover.proofs.Covers.{split_or_shut, root_comes_up, child_comes_up, contains-split, times-contains, contains-cases}
use Rattle.msl_fun.specs.declared.funs.Fun.{Fun}
use Rattle.msl_fun.specs.Meaning.{holds}
use Rattle.msl_lists.specs.Whole.{◌>>=◌}
use Rattle.msl_lists.proofs.WholeParts.{each_congruent}
use Rattle.msl_program.specs.Along.{along, most_levels}
use Rattle.msl_program.specs.Calls.{run, number_by}
use Rattle.msl_program.specs.Divide.{combined_by, parts_of, value_in, dc}
use Rattle.msl_program.specs.declared.script.DivCon.{DivCon}
use Rattle.msl_program.proofs.AlongLaws.{parts_along}
use Rattle.msl_tree.specs.Combined.{entry, is_split, combined_in, IsParted, IsValued, GivesValue}
use Rattle.msl_tree.specs.Lists.{Leaf, leaf_paths}

-- ---- what comes up

pub not_split : (splits : List Split) (q : List ℕ) → times q (split_paths splits) ≡ 0 → is_split splits q ≡ false
not_split splits q none = grind (arith, nat_tests)

pub was_split : (splits : List Split) (q : List ℕ) → times q (split_paths splits) ≡ 1 → is_split splits q ≡ true
was_split splits q one = grind (arith, nat_tests)

-- the first entry of a path
pub record First (solved : List Leaf) (q : List ℕ) : Type 0 where
  pub leaf : Leaf
  pub among : Contains solved leaf
  pub at : leaf.path ≡ q
  pub is : entry solved q ≡ leaf.value

pub first_entry : (solved : List Leaf) (q : List ℕ) → Contains (leaf_paths solved) q → First solved q
first_entry [] q h = absurd (omega (arith, h.1))
first_entry (l ∷ ls) q h = go (bytes_eq q l.path) (bytes_eq-Decides q l.path) refl (contains-cases l.path (leaf_paths ls) q h) (first_entry ls q)
  where
    go : (b : Bool) → Decides b (q ≡ l.path) → bytes_eq q l.path ≡ b → (l.path ≡ q) ⊎ Contains (leaf_paths ls) q → (Contains (leaf_paths ls) q → First ls q) → First (l ∷ ls) q
    go true d e c rest = record {
      leaf = l;
      among = Contains-append_left (l ∷ []) ls l (Contains-push [] l);
      at = sym (d.0 refl);
      is = ap (λ (b : Bool). cond b l.value (entry ls q)) e;
    }
    go false d e (inl is) rest = absurd (false≢true (d.1 (sym is)))
    go false d e (inr more) rest =
        let f = rest more in
        record {
          leaf = f.leaf;
          among = Contains-append_right (l ∷ []) ls f.leaf f.among;
          at = f.at;
          is = ap (λ (b : Bool). cond b l.value (entry ls q)) e ∙ f.is;
        }

-- ---- values

ok_same : (x y : Record) → ◌≡◌ {A = Outcome} (Ok x) (Ok y) → x ≡ y
ok_same x y e = cc

choose : (b : Bool) (x r : Outcome) → b ≡ false → (elim b [ true ↦ x | false ↦ r ]) ≡ r
choose true x r e = absurd (false≢true (sym e))
choose false x r e = refl

not_simple : (z : Result ℤ Fault) (x : Outcome) (r : Outcome) → (z >>= λ s. Ok (holds s)) ≡ Ok false → (z >>= λ s. elim (holds s) [ true ↦ x | false ↦ r ]) ≡ r
not_simple (Ok s) x r e = let p : ◌≡◌ {A = Result Bool Fault} (Ok (holds s)) (Ok false) = e in let b : holds s ≡ false = cc in choose (holds s) x r b
not_simple (Err f) x r e = let w : ◌≡◌ {A = Result Bool Fault} (Err f) (Ok false) = e in cc

module _ (funs : List Fun) (d : DivCon) (stage : ℕ) (leaf : Record → Outcome) (splits : List Split) (solved : List Leaf) (root : Record) where
  -- a problem that was split has the value that its parts combine to
  split_value : (n : ℕ) (q : List ℕ) (x : Record) (s : Split) → s.path ≡ q → along funs stage d.divide root q ≡ Ok x → IsParted funs d stage root s
      → ((j : ℕ) (y : Record) → j < d.parts → along funs stage d.divide root (q ++ j ∷ []) ≡ Ok y → combined_in funs d stage splits solved n (q ++ j ∷ []) ≡ value_in funs d stage leaf n (q ++ j ∷ []) y)
      → combined_by funs d stage (λ j. combined_in funs d stage splits solved n (q ++ j ∷ [])) ≡ value_in funs d stage leaf (suc n) q x
  split_value n q x s at up parted below =
      let one : x ≡ parted.problem = ok_same x parted.problem (sym up ∙ ap (along funs stage d.divide root) (sym at) ∙ parted.met) in
      let divides : parts_of funs d stage x ≡ Ok parted.parts = ap (parts_of funs d stage) one ∙ parted.divides in
      let plain : (number_by funs stage d.simple x >>= λ z. Ok (holds z)) ≡ Ok false = ap (λ (y : Record). number_by funs stage d.simple y >>= λ z. Ok (holds z)) one ∙ parted.plain in
      let deeper = λ (parts : List Record). combined_by funs d stage (λ j. value_in funs d stage leaf n (q ++ j ∷ []) (get_or parts j [])) in
      let same = each_congruent d.parts (λ j. combined_in funs d stage splits solved n (q ++ j ∷ [])) (λ j. value_in funs d stage leaf n (q ++ j ∷ []) (get_or parted.parts j []))
      (λ j lt. below j (get_or parted.parts j []) lt (parts_along funs d stage root x q parted.parts up divides j lt)) in
      ap (λ (r : Result (List Record) Fault). r >>= λ values. run funs stage d.combine (flat_map (λ (z : Record). z) values)) same
      ∙ sym (ap (λ (r : Result (List Record) Fault). r >>= deeper) divides)
      ∙ sym (not_simple (number_by funs stage d.simple x) (leaf x) (parts_of funs d stage x >>= deeper) plain)

  -- a path that was solved has its value
  leaf_value : (n : ℕ) (q : List ℕ) (x : Record) → length q + n ≡ most_levels → along funs stage d.divide root q ≡ Ok x → All (IsValued funs d stage leaf root) solved
      → Contains (leaf_paths solved) q → entry solved q ≡ value_in funs d stage leaf n q x
  leaf_value n q x sum up valued h =
      let f = first_entry solved q h in
      let v = All-contains (IsValued funs d stage leaf root) solved f.leaf valued f.among in
      let one : v.problem ≡ x = ok_same v.problem x (sym v.met ∙ ap (along funs stage d.divide root) f.at ∙ up) in
      let left : most_levels - length q ≡ n = omega (arith, sum) in
      f.is ∙ v.value ∙ ap (λ (p : List ℕ). dc funs d stage leaf p v.problem) f.at ∙ ap (dc funs d stage leaf q) one
      ∙ ap (λ (m : ℕ). value_in funs d stage leaf m q x) left

  module _ (covers : Covers splits (leaf_paths solved)) (parted : All (IsParted funs d stage root) splits) (valued : All (IsValued funs d stage leaf root) solved) where
    abbrev Kept : List ℕ → Type 0
    Kept q = ((times q (split_paths splits) ≡ 1) × (times q (leaf_paths solved) ≡ 0)) ⊎ ((times q (split_paths splits) ≡ 0) × (times q (leaf_paths solved) ≡ 1))

    shut_value : (n : ℕ) (q : List ℕ) (x : Record) → length q + n ≡ most_levels → along funs stage d.divide root q ≡ Ok x
        → times q (leaf_paths solved) ≡ 1 → entry solved q ≡ value_in funs d stage leaf n q x
    shut_value n q x sum up one = leaf_value n q x sum up valued (times-contains q (leaf_paths solved) (omega (arith, one)))

    has_value : (n : ℕ) (q : List ℕ) (x : Record) → length q + n ≡ most_levels → ComesUp splits q → along funs stage d.divide root q ≡ Ok x
        → combined_in funs d stage splits solved n q ≡ value_in funs d stage leaf n q x
    has_value zero q x sum comes up = go (split_or_shut splits (leaf_paths solved) q covers comes)
      where
        go : Kept q → entry solved q ≡ value_in funs d stage leaf zero q x
        go (inl s) =
            let t = contains-split q splits (times-contains q (split_paths splits) (omega (arith, s.0))) in
            absurd (omega (arith, sum, ap length t.2, (All-contains (IsParted funs d stage root) splits t.0 parted t.1).deep))
        go (inr s) = shut_value zero q x sum up s.1
    has_value (suc n) q x sum comes up = go (split_or_shut splits (leaf_paths solved) q covers comes) (has_value n)
      where
        parts_value : Outcome
        parts_value = combined_by funs d stage (λ j. combined_in funs d stage splits solved n (q ++ j ∷ []))

        go : Kept q
            → ((p : List ℕ) (y : Record) → length p + n ≡ most_levels → ComesUp splits p → along funs stage d.divide root p ≡ Ok y → combined_in funs d stage splits solved n p ≡ value_in funs d stage leaf n p y)
            → combined_in funs d stage splits solved (suc n) q ≡ value_in funs d stage leaf (suc n) q x
        go (inl s) below =
            let t = contains-split q splits (times-contains q (split_paths splits) (omega (arith, s.0))) in
            let p = All-contains (IsParted funs d stage root) splits t.0 parted t.1 in
            ap (λ (b : Bool). cond b parts_value (entry solved q)) (was_split splits q s.0)
            ∙ split_value n q x t.0 t.2 up p (λ j y lt is. below (q ++ j ∷ []) y (omega (arith, sum, length_push q j))
            (subst (λ (r : List ℕ). ComesUp splits (r ++ j ∷ [])) t.2 (child_comes_up splits t.0 j t.1 (omega (arith, lt, p.count)))) is)
        go (inr s) below = ap (λ (b : Bool). cond b parts_value (entry solved q)) (not_split splits q s.0) ∙ shut_value (suc n) q x sum up s.1

    root_value : (n : ℕ) → n ≡ most_levels → combined_in funs d stage splits solved n [] ≡ value_in funs d stage leaf n [] root
    root_value n is = has_value n [] root (omega (arith, is)) (root_comes_up splits) refl

pub gives_value : (funs : List Fun) (d : DivCon) (stage : ℕ) (leaf : Record → Outcome) (splits : List Split) (solved : List Leaf) (root : Record) → GivesValue funs d stage leaf splits solved root
gives_value funs d stage leaf splits solved root covers parted valued = root_value funs d stage leaf splits solved root covers parted valued (most_levels - 0) refl
