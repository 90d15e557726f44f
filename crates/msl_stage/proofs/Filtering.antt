-- What a filter makes of a record and of the end of a stream, by the outputs of its functions.
use Rattle.std.proofs.Common.{◌≡◌, ◌<◌, ◌+◌, ◌-◌, ◌==◌, ◌||◌, if◌then◌else◌, ℕ, suc, ℤ, pos, int_lt, List, [], ◌∷◌, ◌++◌, length, Bool, true, false, Result, Ok, Err, refl, sym, ap, ap₂, ◌∙◌, arith, append_assoc}
use Rattle.std.proofs.lemmas.Bool.Decides.{nat_tests}
use Rattle.std.proofs.lemmas.List.{map-append}
use Rattle.msl_base.specs.Records.{Kept}
use Rattle.msl_base.specs.Streams.{Record, Outcome}
use Rattle.msl_base.specs.declared.answer.Halt.{Halt}
use Rattle.msl_base.specs.declared.answer.Halt.TheVariants as halt
use Rattle.msl_base.specs.declared.fault.Fault.{Fault}
use Rattle.msl_base.specs.declared.fault.Fault.TheVariants.{Count}
use Rattle.msl_fun.specs.declared.funs.Fun.{Fun}
use Rattle.msl_fun.specs.Meaning.{params_of, turns_of}
use Rattle.msl_lists.specs.Whole.{◌>>=◌, each}
use Rattle.msl_lists.specs.WholeLaws.{both}
use Rattle.msl_lists.proofs.WholeParts.{each_parts, each_congruent}
use Rattle.msl_local.specs.Outcomes.{Stops}
use Rattle.msl_program.specs.Calls.{run, number_by}
use Rattle.msl_program.specs.Filters.{flushed, most_outputs, so_many, stepped}
use Rattle.msl_program.specs.declared.script.FilterSpec.{FilterSpec}
use Rattle.msl_stage.specs.declared.filter.FilterState.{FilterState}
use Rattle.msl_stage.specs.Answers.{numbers_of, records_of, Gives, StepsTo}
use Rattle.msl_stage.specs.Outputs.{outputs}

-- ---- one outcome after the other

module _ {A E : Type 0} (f : ℕ → Result A E) where
  first_ok : (n : ℕ) (x : A) → f n ≡ Ok x → each 1 (λ i. f (n + i)) ≡ Ok (x ∷ [])
  first_ok n x h = let e : f (n + 0) ≡ Ok x = ap f (omega arith) ∙ h in rw e refl

  first_err : (n m : ℕ) (e : E) → f n ≡ Err e → each (suc m) (λ i. f (n + i)) ≡ Err e
  first_err n m e h = let w : f (n + 0) ≡ Err e = ap f (omega arith) ∙ h in rw w refl

  pub each_more : (n : ℕ) (xs : List A) (x : A) → each n f ≡ Ok xs → f n ≡ Ok x → each (n + 1) f ≡ Ok (xs ++ x ∷ [])
  each_more n xs x all h = each_parts n 1 f ∙ ap₂ (λ (p q : Result (List A) E). both p q) all (first_ok n x h)

  rest : (n m : ℕ) (xs : List A) (e : E) → each n f ≡ Ok xs → f n ≡ Err e → each (n + suc m) f ≡ Err e
  rest n m xs e all h = each_parts n (suc m) f ∙ ap₂ (λ (p q : Result (List A) E). both p q) all (first_err n m e h)

  pub each_stops : (k n : ℕ) (xs : List A) (e : E) → k < n → each k f ≡ Ok xs → f k ≡ Err e → each n f ≡ Err e
  each_stops k n xs e lt all h = let w : k + suc (n - k - 1) ≡ n = omega arith in ap (λ m. each m f) (sym w) ∙ rest k (n - k - 1) xs e all h

-- one record more
pub records_more : (outs : List Kept) (r : Kept) → records_of (outs ++ r ∷ []) ≡ records_of outs ++ r.numbers ∷ []
records_more outs r = map-append numbers_of outs (r ∷ [])

-- a fault on the way is that of the whole
pub stops : {A : Type 0} (part : Result A Fault) (want : Result (List Record) Fault) (h : Halt) → ((e : Fault) → part ≡ Err e → want ≡ Err e) → Stops part h → Gives want (Err h)
stops part want (halt.Fault e) leads s = leads e s
stops part want halt.NoMemory leads s = tt

pub gives_stops : (want : Result (List Record) Fault) (h : Halt) → Gives want (Err h) → Stops want h
gives_stops want (halt.Fault e) g = g
gives_stops want halt.NoMemory g = tt

-- a refusal leaves the state
pub refused : {A : Type 0} (part : Result A Fault) (want : Result (List Record × Record) Fault) (f : FilterState) (h : Halt) → ((e : Fault) → part ≡ Err e → want ≡ Err e) → Stops part h → StepsTo want f f (Err h)
refused part want f (halt.Fault e) leads s = (leads e s, refl)
refused part want f halt.NoMemory leads s = refl

-- ---- the outputs of a record, and those at the end

when_equal : {A : Type 0} (a b : ℕ) (p q : A) → a ≡ b → (if a == b then p else q) ≡ p
when_equal a b p q e = grind (arith, nat_tests)

nested : {A B C : Type 0} (r : Result A Fault) (go : A → Result B Fault) (on : B → Result C Fault) → (r >>= λ x. go x >>= on) ≡ (r >>= go) >>= on
nested (Ok x) go on = refl
nested (Err e) go on = refl

-- by other names for the same functions, stage and scope
pub outputs_at : (funs funs' : List Fun) (stage stage' : ℕ) (s s' : Record) (count item : ℕ) → funs' ≡ funs → stage' ≡ stage → s' ≡ s → outputs funs' stage' count item s' ≡ outputs funs stage count item s
outputs_at funs funs' stage stage' s s' count item a b c = ap₂ (λ (fs : List Fun) (n : ℕ). outputs fs n count item s') a b ∙ ap (λ (t : Record). outputs funs stage count item t) c

module _ (funs : List Fun) (f : FilterSpec) (stage : ℕ) where
  tested : (few : Bool) (n : ℕ) (p q : ℕ → Outcome) → ((k : ℕ) → p k ≡ q k)
      → (if few then Err (Count stage) else each n p) ≡ ((if few then Err (Count stage) else Ok n) >>= λ m. each m q)
  tested true n p q same = refl
  tested false n p q same = each_congruent n p q (λ k lt. same k)

  many : (c : Result ℤ Fault) (p q : ℕ → Outcome) → ((k : ℕ) → p k ≡ q k)
      → (c >>= λ z. so_many funs f stage p z) ≡ (c >>= λ z. if int_lt z (pos 0) || int_lt (pos most_outputs) z then Err (Count stage) else Ok (turns_of z)) >>= λ m. each m q
  many (Err e) p q same = refl
  many (Ok z) p q same = tested (int_lt z (pos 0) || int_lt (pos most_outputs) z) (turns_of z) p q same

  pub flushed_is : (s : Record) → flushed funs f stage s ≡ outputs funs stage f.flush f.last s
  flushed_is s = let p : ℕ → Outcome = λ k. run funs stage f.last (s ++ pos k ∷ []) in many (number_by funs stage f.flush s) p p (λ k. refl)

  -- a record of the right width
  module _ (s x : Record) (wide : length s + length x ≡ params_of funs f.count) where
    -- the outputs, and then the next state
    in_order : stepped funs f stage s x ≡ (outputs funs stage f.count f.item (s ++ x) >>= λ ys. run funs stage f.next (s ++ x) >>= λ t. Ok (ys, t))
    in_order =
        let p : ℕ → Outcome = λ k. run funs stage f.item (s ++ (x ++ pos k ∷ [])) in
        let q : ℕ → Outcome = λ k. run funs stage f.item ((s ++ x) ++ pos k ∷ []) in
        let same : (k : ℕ) → p k ≡ q k = λ k. ap (run funs stage f.item) (sym (append_assoc s x (pos k ∷ []))) in
        let rest : List Record → Result (List Record × Record) Fault = λ ys. run funs stage f.next (s ++ x) >>= λ t. Ok (ys, t) in
        when_equal (length s + length x) (params_of funs f.count) _ _ wide
        ∙ nested (number_by funs stage f.count (s ++ x)) (so_many funs f stage p) rest
        ∙ ap (λ (ys : Result (List Record) Fault). ys >>= rest) (many (number_by funs stage f.count (s ++ x)) p q same)

    first : (ys : List Record) → outputs funs stage f.count f.item (s ++ x) ≡ Ok ys → stepped funs f stage s x ≡ (run funs stage f.next (s ++ x) >>= λ t. Ok (ys, t))
    first ys h = in_order ∙ ap (λ (r : Result (List Record) Fault). r >>= λ zs. run funs stage f.next (s ++ x) >>= λ t. Ok (zs, t)) h

    -- by calls with other names for the functions, the stage and the scope
    module _ (funs' : List Fun) (stage' : ℕ) (s' all : Record) (a : funs' ≡ funs) (b : stage' ≡ stage) (c : s' ≡ s) (d : all ≡ s' ++ x) where
      at : all ≡ s ++ x
      at = d ∙ ap (λ (t : Record). t ++ x) c

      called : outputs funs' stage' f.count f.item all ≡ outputs funs stage f.count f.item (s ++ x)
      called = outputs_at funs funs' stage stage' (s ++ x) all f.count f.item a b at

      next : (now : Record) → now ≡ all → run funs' stage' f.next now ≡ run funs stage f.next (s ++ x)
      next now same = ap₂ (λ (fs : List Fun) (n : ℕ). run fs n f.next now) a b ∙ ap (run funs stage f.next) (same ∙ at)

      pub first_fault : (e : Fault) → outputs funs' stage' f.count f.item all ≡ Err e → stepped funs f stage s x ≡ Err e
      first_fault e h = in_order ∙ ap (λ (r : Result (List Record) Fault). r >>= λ ys. run funs stage f.next (s ++ x) >>= λ t. Ok (ys, t)) (sym called ∙ h)

      -- where they gave outputs, and the next state
      module _ (ys : List Record) (h : outputs funs' stage' f.count f.item all ≡ Ok ys) (now : Record) (same : now ≡ all) where
        pub next_fault : (e : Fault) → run funs' stage' f.next now ≡ Err e → stepped funs f stage s x ≡ Err e
        next_fault e k = first ys (sym called ∙ h) ∙ ap (λ (r : Outcome). r >>= λ t. Ok (ys, t)) (sym (next now same) ∙ k)

        pub both_done : (t : Record) → run funs' stage' f.next now ≡ Ok t → stepped funs f stage s x ≡ Ok (ys, t)
        both_done t k = first ys (sym called ∙ h) ∙ ap (λ (r : Outcome). r >>= λ u. Ok (ys, u)) (sym (next now same) ∙ k)
