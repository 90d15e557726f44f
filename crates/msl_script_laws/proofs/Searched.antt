-- What the searches of the worked examples may answer, path by path.
use Rattle.std.proofs.Common.{◌≡◌, ℕ, zero, suc, false, true, ℤ, pos, negsuc, ◌≤ℤ◌, List, [], ◌∷◌, take, Option, Some, None, Result, Ok, Err, IsTrue, refl, sym, subst, rules}
use Rattle.msl_base.specs.Streams.{Record}
use Rattle.msl_base.specs.declared.fault.Fault.{Fault}
use Rattle.msl_base.specs.declared.fault.Fault.TheVariants.{DivZero}
use Rattle.msl_fun.specs.declared.funs.Fun.{Fun}
use Rattle.msl_program.specs.declared.script.BnbSpec.{BnbSpec}
use Rattle.msl_program.specs.Searches.{Kind, solution, inner, Node, node, own, reached, IsNode, IsSolution, IsFaulty, IsDroppable, IsCutOff, IsBest, is_droppable_for, bound}
use Rattle.msl_grammar.specs.ScriptGrammar.{script_of_text}
use Rattle.msl_script_laws.specs.Meanings.{funs_in, search_in, two, faulty, broken}

-- ---- the node that a path leads to

abbrev Holds : Option Node → (Node → Type 0) → Type 0
Holds (Some n) P = P n
Holds None P = ⊥

holds : (o : Option Node) (P : Node → Type 0) (p : Node) → o ≡ Some p → P p → Holds o P
holds (Some n) P p is h = let same : n ≡ p = cc in subst P (sym same) h
holds None P p is h = cc

abbrev Solves : ℤ → Result Kind Fault → Type 0
Solves w (Ok (solution v)) = v ≡ w
Solves w (Ok (inner low xs)) = ⊥
Solves w (Err f) = ⊥

solves : (k : Result Kind Fault) (w : ℤ) → k ≡ Ok (solution w) → Solves w k
solves (Ok (solution v)) w is = cc
solves (Ok (inner low xs)) w is = cc
solves (Err f) w is = cc

abbrev Fails : Result Kind Fault → Type 0
Fails (Ok k) = ⊥
Fails (Err f) = Unit {0}

fails : (k : Result Kind Fault) (f : Fault) → k ≡ Err f → Fails k
fails (Ok k) f is = cc
fails (Err g) f is = tt

at_least : (v w : ℤ) → v ≤ℤ v → v ≡ w → v ≤ℤ w
at_least v w le is = subst (λ (w : ℤ). v ≤ℤ w) is le

three : pos 3 ≤ℤ pos 3
three = search rules

five : pos 5 ≤ℤ pos 5
five = search rules

never : false ≡ true → ⊥
never h = cc

module _ (funs : List Fun) (b : BnbSpec) (x : Record) where
  solving : (q : List ℕ) (z : Record) (w : ℤ) → IsSolution funs b 1 x q z w → Holds (reached funs b 1 x q) (λ p. Solves w (own funs b 1 q p))
  solving q z w s = holds (reached funs b 1 x q) (λ p. Solves w (own funs b 1 q p)) s.0 s.1 (solves (own funs b 1 q s.0) w s.2.1)

  failing : (q : List ℕ) (f : Fault) → IsFaulty funs b 1 x q f → Holds (reached funs b 1 x q) (λ p. Fails (own funs b 1 q p))
  failing q f s = holds (reached funs b 1 x q) (λ p. Fails (own funs b 1 q p)) s.0 s.1 (fails (own funs b 1 q s.0) f s.2)

  dropping : (q : List ℕ) (v : ℤ) → IsDroppable funs b 1 x q v → Holds (reached funs b 1 x q) (λ p. IsTrue (is_droppable_for funs b 1 v p (bound funs b 1 p.numbers)))
  dropping q v s = holds (reached funs b 1 x q) (λ p. IsTrue (is_droppable_for funs b 1 v p (bound funs b 1 p.numbers))) s.0 s.1 s.2

-- ---- two solutions

abbrev two_funs : List Fun
two_funs = funs_in (script_of_text two)

abbrev two_search : BnbSpec
two_search = search_in (script_of_text two)

two_least : (q : List ℕ) (w : ℤ) → Holds (reached two_funs two_search 1 (pos 0 ∷ []) q) (λ p. Solves w (own two_funs two_search 1 q p)) → pos 5 ≤ℤ w
two_least [] w h = absurd h
two_least (zero ∷ []) w h = at_least (pos 5) w five h
two_least (zero ∷ k ∷ rest) w h = absurd h
two_least (suc zero ∷ []) w h = at_least (pos 5) w five h
two_least (suc zero ∷ k ∷ rest) w h = absurd h
two_least (suc (suc k) ∷ rest) w h = absurd h

two_whole : (q : List ℕ) → Holds (reached two_funs two_search 1 (pos 0 ∷ []) q) (λ p. Fails (own two_funs two_search 1 q p)) → ⊥
two_whole [] h = h
two_whole (zero ∷ []) h = h
two_whole (zero ∷ k ∷ rest) h = h
two_whole (suc zero ∷ []) h = h
two_whole (suc zero ∷ k ∷ rest) h = h
two_whole (suc (suc k) ∷ rest) h = h

two_best : (y : Record) → (q : List ℕ) × IsSolution two_funs two_search 1 (pos 0 ∷ []) q y (pos 5) → IsBest two_funs two_search 1 (pos 0 ∷ []) (pos 5) y
two_best y found = record {
  found = found;
  least = λ q z w s. two_least q w (solving two_funs two_search (pos 0 ∷ []) q z w s);
  faults = λ q f s. absurd (two_whole q (failing two_funs two_search (pos 0 ∷ []) q f s));
}

pub first_of_two : IsBest two_funs two_search 1 (pos 0 ∷ []) (pos 5) (pos 1 ∷ [])
first_of_two = two_best (pos 1 ∷ []) (0 ∷ [], (node (pos 1 ∷ []) (Some (pos 0)), refl, (refl, refl)))

pub second_of_two : IsBest two_funs two_search 1 (pos 0 ∷ []) (pos 5) (pos 2 ∷ [])
second_of_two = two_best (pos 2 ∷ []) (1 ∷ [], (node (pos 2 ∷ []) (Some (pos 0)), refl, (refl, refl)))

-- ---- a fault

abbrev faulty_funs : List Fun
faulty_funs = funs_in (script_of_text faulty)

abbrev faulty_search : BnbSpec
faulty_search = search_in (script_of_text faulty)

abbrev high : Record
high = pos 0 ∷ pos 4 ∷ []

abbrev low : Record
low = pos 0 ∷ pos 2 ∷ []

faulty_least : (q : List ℕ) (w : ℤ) → Holds (reached faulty_funs faulty_search 1 high q) (λ p. Solves w (own faulty_funs faulty_search 1 q p)) → pos 3 ≤ℤ w
faulty_least [] w h = absurd h
faulty_least (zero ∷ []) w h = at_least (pos 3) w three h
faulty_least (zero ∷ k ∷ rest) w h = absurd h
faulty_least (suc zero ∷ []) w h = absurd h
faulty_least (suc zero ∷ zero ∷ []) w h = absurd h
faulty_least (suc zero ∷ zero ∷ k ∷ rest) w h = absurd h
faulty_least (suc zero ∷ suc k ∷ rest) w h = absurd h
faulty_least (suc (suc k) ∷ rest) w h = absurd h

faulty_cut_off : (q : List ℕ) → Holds (reached faulty_funs faulty_search 1 high q) (λ p. Fails (own faulty_funs faulty_search 1 q p)) → IsCutOff faulty_funs faulty_search 1 high q (pos 3)
faulty_cut_off [] h = absurd h
faulty_cut_off (zero ∷ []) h = absurd h
faulty_cut_off (zero ∷ k ∷ rest) h = absurd h
faulty_cut_off (suc zero ∷ []) h = absurd h
faulty_cut_off (suc zero ∷ zero ∷ []) h = (1, (node (pos 2 ∷ pos 4 ∷ []) (Some (pos 0)), refl, refl))
faulty_cut_off (suc zero ∷ zero ∷ k ∷ rest) h = absurd h
faulty_cut_off (suc zero ∷ suc k ∷ rest) h = absurd h
faulty_cut_off (suc (suc k) ∷ rest) h = absurd h

pub below_dropped : IsBest faulty_funs faulty_search 1 high (pos 3) (pos 1 ∷ pos 4 ∷ [])
below_dropped = record {
  found = (0 ∷ [], (node (pos 1 ∷ pos 4 ∷ []) (Some (pos 0)), refl, (refl, refl)));
  least = λ q z w s. faulty_least q w (solving faulty_funs faulty_search high q z w s);
  faults = λ q f s. faulty_cut_off q (failing faulty_funs faulty_search high q f s);
}

pub its_fault : (q : List ℕ) × IsFaulty faulty_funs faulty_search 1 high q (DivZero 1)
its_fault = (1 ∷ 0 ∷ [], (node (pos 3 ∷ pos 4 ∷ []) (Some (pos 4)), refl, refl))

none_dropped : (n : ℕ) → Holds (reached faulty_funs faulty_search 1 low (take n (1 ∷ 0 ∷ []))) (λ p. IsTrue (is_droppable_for faulty_funs faulty_search 1 (pos 3) p (bound faulty_funs faulty_search 1 p.numbers))) → ⊥
none_dropped zero h = never h
none_dropped (suc zero) h = never h
none_dropped (suc (suc zero)) h = never h
none_dropped (suc (suc (suc n))) h = never h

pub not_below_dropped : IsBest faulty_funs faulty_search 1 low (pos 3) (pos 1 ∷ pos 2 ∷ []) → ⊥
not_below_dropped best =
    let cut = best.faults (1 ∷ 0 ∷ []) (DivZero 1) (node (pos 3 ∷ pos 2 ∷ []) (Some (pos 2)), refl, refl) in
    none_dropped cut.0 (dropping faulty_funs faulty_search low (take cut.0 (1 ∷ 0 ∷ [])) (pos 3) cut.1)

-- ---- a bound that is broken

pub broken_stays : IsDroppable (funs_in (script_of_text broken)) (search_in (script_of_text broken)) 1 (pos 0 ∷ []) (0 ∷ []) (negsuc 4) → ⊥
broken_stays s = never (dropping (funs_in (script_of_text broken)) (search_in (script_of_text broken)) (pos 0 ∷ []) (0 ∷ []) (negsuc 4) s)
