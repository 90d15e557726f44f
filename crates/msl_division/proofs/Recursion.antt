-- One level of the recursion, and what its steps come to.
use Rattle.std.proofs.Common.{◌≡◌, ◌<◌, ◌-◌, ◌==◌, if◌then◌else◌, ℕ, zero, suc, ℤ, pos, negsuc, List, [], ◌∷◌, ◌++◌, length, length-append, flat_map, slice_index_or, true, false, Result, Ok, Err, Option, Some, IfSome, refl, sym, ap, subst, ◌∙◌, arith}
use Rattle.std.proofs.lemmas.Bool.Decides.{nat_tests}
use Rattle.msl_base.specs.Streams.{Record, Outcome}
use Rattle.msl_base.specs.declared.answer.Answer.{Answer}
use Rattle.msl_base.specs.declared.answer.Answer.TheVariants as answer
use Rattle.msl_base.specs.declared.answer.Halt.{Halt}
use Rattle.msl_base.specs.declared.answer.Halt.TheVariants as halt
use Rattle.msl_base.specs.declared.fault.Fault.{Fault}
use Rattle.msl_base.specs.declared.fault.Fault.TheVariants.{Depth}
use Rattle.msl_division.specs.declared.division.Division.{Division}
use Rattle.msl_division.specs.Steps.{whether_simple}
use Rattle.msl_fun.specs.declared.funs.Fun.{Fun}
use Rattle.msl_fun.specs.Meaning.{holds, params_of}
use Rattle.msl_lists.specs.Whole.{◌>>=◌, each}
use Rattle.msl_lists.proofs.WholeParts.{each_congruent}
use Rattle.msl_local.specs.Outcomes.{Stops}
use Rattle.msl_program.specs.Along.{Path}
use Rattle.msl_program.specs.Calls.{number_by, run}
use Rattle.msl_program.specs.Divide.{dc, divcon_outcome, parts_of, value_in}
use Rattle.msl_program.specs.declared.script.DivCon.{DivCon}
use Rattle.msl_stage.specs.Answers.{MayAnswer}

-- a fault on the way is that of the whole
pub stops : {A B : Type 0} (part : Result A Fault) (want : Result B Fault) (h : Halt) → ((e : Fault) → part ≡ Err e → want ≡ Err e) → Stops part h → Stops want h
stops part want (halt.Fault e) leads s = leads e s
stops part want halt.NoMemory leads s = tt

-- a record that is made of the value
pub answers : (want : Outcome) (y : Record) (a : Answer) → want ≡ Ok y → MayAnswer (λ r. r ≡ Ok y) a → MayAnswer (λ r. r ≡ want) a
answers want y (answer.Rec r) e h = h ∙ sym e
answers want y (answer.Fault f) e h = h ∙ sym e
answers want y answer.NoMemory e h = tt

-- a path that is there
pub inside : (r : Option Path) (p want : Path) → r ≡ Some p → IfSome r (λ q. q ≡ want) → p ≡ want
inside r p want e h = subst (λ (s : Option Path). IfSome s (λ q. q ≡ want)) e h

-- ---- whether a problem is simple

test_fault : (r : Result ℤ Fault) (go : ℤ → Outcome) (e : Fault) → (r >>= λ s. Ok (holds s)) ≡ Err e → (r >>= go) ≡ Err e
test_fault (Ok s) go e h = cc
test_fault (Err f) go e h = cc

test_true : (r : Result ℤ Fault) (y o : Outcome) → (r >>= λ s. Ok (holds s)) ≡ Ok true → (r >>= λ s. elim (holds s) [ true ↦ y | false ↦ o ]) ≡ y
test_true (Ok (pos zero)) y o h = cc
test_true (Ok (pos (suc n))) y o h = refl
test_true (Ok (negsuc n)) y o h = refl
test_true (Err f) y o h = cc

test_false : (r : Result ℤ Fault) (y o : Outcome) → (r >>= λ s. Ok (holds s)) ≡ Ok false → (r >>= λ s. elim (holds s) [ true ↦ y | false ↦ o ]) ≡ o
test_false (Ok (pos zero)) y o h = refl
test_false (Ok (pos (suc n))) y o h = cc
test_false (Ok (negsuc n)) y o h = cc
test_false (Err f) y o h = cc

-- ---- a level

when_equal : {A : Type 0} (a b : ℕ) (p q : A) → a ≡ b → (if a == b then p else q) ≡ p
when_equal a b p q e = grind (arith, nat_tests)

module _ (funs : List Fun) (d : DivCon) (stage : ℕ) where
  -- a faulty test at any level
  fault_in : (n : ℕ) (q : Path) (x : Record) (e : Fault) → whether_simple funs d stage x ≡ Err e → value_in funs d stage (run funs stage d.solve) n q x ≡ Err e
  fault_in zero q x e h = test_fault (number_by funs stage d.simple x) _ e h
  fault_in (suc n) q x e h = test_fault (number_by funs stage d.simple x) _ e h

  simple_in : (n : ℕ) (q : Path) (x : Record) → whether_simple funs d stage x ≡ Ok true → value_in funs d stage (run funs stage d.solve) n q x ≡ run funs stage d.solve x
  simple_in zero q x h = test_true (number_by funs stage d.simple x) (run funs stage d.solve x) _ h
  simple_in (suc n) q x h = test_true (number_by funs stage d.simple x) (run funs stage d.solve x) _ h

  -- the value of a part of the problem at this path
  abbrev pub value_of : Path → List Record → ℕ → Outcome
  value_of q parts j = dc funs d stage (run funs stage d.solve) (q ++ j ∷ []) (slice_index_or parts j [])

  -- the problem x at path q
  module _ (q : Path) (x : Record) where
    pub test_faults : (e : Fault) → whether_simple funs d stage x ≡ Err e → dc funs d stage (run funs stage d.solve) q x ≡ Err e
    test_faults e h = fault_in (64 - length q) q x e h

    pub simple : whether_simple funs d stage x ≡ Ok true → dc funs d stage (run funs stage d.solve) q x ≡ run funs stage d.solve x
    simple h = simple_in (64 - length q) q x h

    pub too_deep : whether_simple funs d stage x ≡ Ok false → length q ≡ 64 → dc funs d stage (run funs stage d.solve) q x ≡ Err (Depth stage q)
    too_deep h long =
        let none : 64 - length q ≡ 0 = omega arith in
        ap (λ n. value_in funs d stage (run funs stage d.solve) n q x) none ∙ test_false (number_by funs stage d.simple x) (run funs stage d.solve x) _ h

    -- it is divided
    module _ (other : whether_simple funs d stage x ≡ Ok false) (short : length q < 64) where
      opened : dc funs d stage (run funs stage d.solve) q x
          ≡ (parts_of funs d stage x >>= λ parts. each d.parts (λ j. value_in funs d stage (run funs stage d.solve) (63 - length q) (q ++ j ∷ []) (slice_index_or parts j [])) >>= λ values. run funs stage d.combine (flat_map (λ r. r) values))
      opened =
          let more : 64 - length q ≡ suc (63 - length q) = omega arith in
          ap (λ n. value_in funs d stage (run funs stage d.solve) n q x) more ∙ test_false (number_by funs stage d.simple x) (run funs stage d.solve x) _ other

      pub parts_fault : (e : Fault) → parts_of funs d stage x ≡ Err e → dc funs d stage (run funs stage d.solve) q x ≡ Err e
      parts_fault e h = opened ∙ ap (λ (r : Result (List Record) Fault). r >>= λ parts. each d.parts (λ j. value_in funs d stage (run funs stage d.solve) (63 - length q) (q ++ j ∷ []) (slice_index_or parts j [])) >>= λ values. run funs stage d.combine (flat_map (λ r. r) values)) h

      module _ (parts : List Record) (are : parts_of funs d stage x ≡ Ok parts) where
        -- the values of its parts, and then combined
        combined : dc funs d stage (run funs stage d.solve) q x ≡ (each d.parts (value_of q parts) >>= λ values. run funs stage d.combine (flat_map (λ r. r) values))
        combined =
            let deeper : (j : ℕ) → value_in funs d stage (run funs stage d.solve) (63 - length q) (q ++ j ∷ []) (slice_index_or parts j []) ≡ value_of q parts j =
            λ j. let level : 63 - length q ≡ 64 - length (q ++ j ∷ []) = omega (arith, length-append q (j ∷ [])) in
            ap (λ n. value_in funs d stage (run funs stage d.solve) n (q ++ j ∷ []) (slice_index_or parts j [])) level in
            opened
            ∙ ap (λ (r : Result (List Record) Fault). r >>= λ ps. each d.parts (λ j. value_in funs d stage (run funs stage d.solve) (63 - length q) (q ++ j ∷ []) (slice_index_or ps j [])) >>= λ values. run funs stage d.combine (flat_map (λ r. r) values)) are
            ∙ ap (λ (r : Result (List Record) Fault). r >>= λ values. run funs stage d.combine (flat_map (λ r. r) values)) (each_congruent d.parts _ (value_of q parts) (λ j lt. deeper j))

        pub values_fault : (e : Fault) → each d.parts (value_of q parts) ≡ Err e → dc funs d stage (run funs stage d.solve) q x ≡ Err e
        values_fault e h = combined ∙ ap (λ (r : Result (List Record) Fault). r >>= λ values. run funs stage d.combine (flat_map (λ r. r) values)) h

        pub by_values : (values : List Record) → each d.parts (value_of q parts) ≡ Ok values → dc funs d stage (run funs stage d.solve) q x ≡ run funs stage d.combine (flat_map (λ r. r) values)
        by_values values h = combined ∙ ap (λ (r : Result (List Record) Fault). r >>= λ vs. run funs stage d.combine (flat_map (λ r. r) vs)) h

-- a record of the right width is the root's problem; by other names for the functions, the division and the stage
pub of_root : (funs fs : List Fun) (d e : DivCon) (stage s : ℕ) (x : Record) (q : Path) → fs ≡ funs → e ≡ d → s ≡ stage → q ≡ [] → length x ≡ params_of funs d.simple
    → dc fs e s (run fs s e.solve) q x ≡ divcon_outcome funs d stage x
of_root funs fs d e stage s x q a b c p h =
    ap (λ (gs : List Fun). dc gs e s (run gs s e.solve) q x) a
    ∙ ap (λ (k : DivCon). dc funs k s (run funs s k.solve) q x) b
    ∙ ap (λ n. dc funs d n (run funs n d.solve) q x) c
    ∙ ap (λ (r : Path). dc funs d stage (run funs stage d.solve) r x) p
    ∙ sym (when_equal (length x) (params_of funs d.simple) _ _ h)

-- by another name for the division, the path and the part
pub value_at : (here there : Division) (q p : Path) (parts : List Record) (x : Record) (j : ℕ) → there ≡ here → p ≡ q ++ j ∷ [] → x ≡ slice_index_or parts j []
    → dc there.calls there.spec.now there.stage (run there.calls there.stage there.spec.now.solve) p x ≡ value_of here.calls here.spec.now here.stage q parts j
value_at here there q p parts x j a b c =
    ap (λ (s : Division). dc s.calls s.spec.now s.stage (run s.calls s.stage s.spec.now.solve) p x) a
    ∙ ap (λ (r : Path). dc here.calls here.spec.now here.stage (run here.calls here.stage here.spec.now.solve) r x) b
    ∙ ap (dc here.calls here.spec.now here.stage (run here.calls here.stage here.spec.now.solve) (q ++ j ∷ [])) c
