-- Solved entries that a map finds by their paths.
use Rattle.std.proofs.Common.{◌≡◌, ◌≤◌, ℕ, Bool, true, false, cond, List, [], ◌∷◌, ◌++◌, length, map, Option, Some, Bor, refl, sym, ap, ◌∙◌, Decides}
use Rattle.std.specs.HashMap.{HashMap, get_by}
use Rattle.std.specs.Option.{option_map}
use Rattle.std.specs.Str.{bytes_eq}
use Rattle.std.proofs.lemmas.List.Elements.{All-cons}
use Rattle.std.proofs.lemmas.List.{append_assoc, map-append}
use Rattle.std.proofs.lemmas.Slice.Eq.{bytes_eq-Decides}
use Rattle.msl_program.specs.Along.{most_levels}
use Rattle.msl_base.specs.Streams.{Outcome}
use Rattle.msl_tree.specs.declared.lists.Entry.{Entry}
use Rattle.msl_tree.specs.Lists.{Leaf, leaf_of}
use Rattle.msl_tree.specs.ByPath.{found, AreShort, Finds}

abbrev pub value_of : Bor Entry → Outcome
value_of e = e.now.value

module _ {S : Type 0} where
  pub record IsIndexed (m : HashMap (Bor (List ℕ)) (Bor Entry) S) (rest : List Entry) (all : List Leaf) : Type 0 where
    pub done : List Leaf
    pub whole : map leaf_of rest ++ done ≡ all
    pub finds : Finds m done
    pub short : AreShort done

bytes_same : (p q : List ℕ) → bytes_eq p q ≡ bytes_eq q p
bytes_same p q = go (bytes_eq p q) (bytes_eq q p) (bytes_eq-Decides p q) (bytes_eq-Decides q p)
  where
    go : (a b : Bool) → Decides a (p ≡ q) → Decides b (q ≡ p) → a ≡ b
    go true b d e = sym (e.1 (sym (d.0 refl)))
    go false true d e = d.1 (sym (e.0 refl))
    go false false d e = refl

here : (t : Bool) (x : Bor Entry) (m : Option (Bor Entry)) (n : Option Outcome) → option_map value_of m ≡ n → option_map value_of (cond t (Some x) m) ≡ cond t (Some x.now.value) n
here true x m n h = refl
here false x m n h = h

module _ {S : Type 0} where
  pub finds_none : (m : HashMap (Bor (List ℕ)) (Bor Entry) S) → m.entries ≡ [] → Finds m []
  finds_none m e q = rw e refl

  -- one more, in front of the others
  pub finds_more : (m n : HashMap (Bor (List ℕ)) (Bor Entry) S) (k : Bor (List ℕ)) (x : Bor Entry) (done : List Leaf) → k.now ≡ x.now.path
      → ((q : Bor (List ℕ)) → get_by (λ y. bytes_eq q.now y.now) n ≡ cond (bytes_eq k.now q.now) (Some x) (get_by (λ y. bytes_eq q.now y.now) m))
      → Finds m done → Finds n (leaf_of x.now ∷ done)
  finds_more m n k x done at updates finds q =
      let key : Bor (List ℕ) = record k { now = q } in
      let same : bytes_eq k.now q ≡ bytes_eq q x.now.path = bytes_same k.now q ∙ ap (λ (p : List ℕ). bytes_eq q p) at in
      ap (option_map value_of) (updates key)
      ∙ here (bytes_eq k.now q) x (get_by (λ y. bytes_eq q y.now) m) (found done q) (finds q)
      ∙ ap (λ (t : Bool). cond t (Some x.now.value) (found done q)) same

  pub indexed_more : (m n : HashMap (Bor (List ℕ)) (Bor Entry) S) (k : Bor (List ℕ)) (x : Bor Entry) (rest less : List Entry) (all : List Leaf) → k.now ≡ x.now.path
      → length x.now.path ≤ most_levels
      → ((q : Bor (List ℕ)) → get_by (λ y. bytes_eq q.now y.now) n ≡ cond (bytes_eq k.now q.now) (Some x) (get_by (λ y. bytes_eq q.now y.now) m))
      → rest ≡ less ++ x.now ∷ [] → IsIndexed m rest all → IsIndexed n less all
  indexed_more m n k x rest less all at short updates last h =
      record {
        done = leaf_of x.now ∷ h.done;
        whole =
            sym (append_assoc (map leaf_of less) (leaf_of x.now ∷ []) h.done)
            ∙ ap (λ (ls : List Leaf). ls ++ h.done) (sym (map-append leaf_of less (x.now ∷ [])) ∙ ap (map leaf_of) (sym last))
            ∙ h.whole;
        finds = finds_more m n k x h.done at updates h.finds;
        short = All-cons (λ l. length l.path ≤ most_levels) (leaf_of x.now) h.done short h.short;
      }
