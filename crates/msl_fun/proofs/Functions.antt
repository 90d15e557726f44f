-- What a list of functions means, function by function, and what its rules give.
use Rattle.std.proofs.Common.{◌≡◌, ℕ, zero, suc, ◌+◌, ◌<◌, ◌≤◌, ℤ, pos, Bool, true, false, ◌&&◌, List, [], ◌∷◌, ◌++◌, length, take, Option, Some, None, option_map, Result, Ok, Err, slice_get, get_or, refl, ap, sym, ◌∙◌, subst, arith, length-append, inl, inr, ◌⊎◌, ⊎_elim}
use Rattle.std.proofs.lemmas.Bool.{ltb-true, eqb-true}
use Rattle.std.proofs.lemmas.Option.{slice_get_within}
use Rattle.std.proofs.lemmas.List.{get_or_push, get_or_append_left}
use Rattle.msl_fun.specs.declared.expr.Expr.{Expr, Row_of-Expr, end_of-Expr, more_of-Expr}
use Rattle.msl_fun.specs.declared.expr.Expr.TheVariants.{Lit, Slot, Call'}
use Rattle.msl_fun.specs.declared.fault.EvalFault.{EvalFault}
use Rattle.msl_fun.specs.declared.funs.Fun.{Fun}
use Rattle.msl_fun.specs.Shapes.{minus, opposite, binary, choice, binding, looping}
use Rattle.msl_fun.specs.Meaning.{Counted, counted, give, ◌>>=◌, after, values, Meaning, nothing, call, meanings, mean}
use Rattle.msl_fun.specs.Budget.{value_over, values_over, call_over}
use Rattle.msl_base.specs.Names.{Text}
use Rattle.msl_fun.specs.Checks.{widths_of, takes, and_then, where_true, bind, names_after, names_after_all, names_after_results, MayFollow, AreFuns}
use Rattle.msl_fun.specs.Evaluable.{IsEvaluable, AreArguments, AreEvaluable}

-- ---- meanings

kept : (known : List Meaning) (fs : List Fun) (k : ℕ) → k < length known → get_or (meanings known fs) k nothing ≡ get_or known k nothing
kept known [] k lt = refl
kept known (f ∷ fs) k lt =
    let m = values (call known) f.results in
    let longer : k < length (known ++ m ∷ []) = omega (arith, length-append known (m ∷ [])) in
    kept (known ++ m ∷ []) fs k longer ∙ get_or_append_left known (m ∷ []) nothing k lt

meaning_at : (known : List Meaning) (fs : List Fun) (k : ℕ) (f : Fun) → slice_get fs k ≡ Some f →
    get_or (meanings known fs) (length known + k) nothing ≡ values (call (meanings known (take k fs))) f.results
meaning_at known [] k f found = cc
meaning_at known (g ∷ fs) zero f found =
    let m = values (call known) g.results in
    let last : length known ≡ length known + 0 = omega arith in
    let within : length known + 0 < length (known ++ m ∷ []) = omega (arith, length-append known (m ∷ [])) in
    let same : g ≡ f = cc in
    kept (known ++ m ∷ []) fs (length known + 0) within ∙ get_or_push known m nothing (length known + 0) last
    ∙ ap (λ (h : Fun). values (call known) h.results) same
meaning_at known (g ∷ fs) (suc k) f found =
    let m = values (call known) g.results in
    let place : length known + suc k ≡ length (known ++ m ∷ []) + k = omega (arith, length-append known (m ∷ [])) in
    ap (λ (n : ℕ). get_or (meanings (known ++ m ∷ []) fs) n nothing) place ∙ meaning_at (known ++ m ∷ []) fs k f found

meanings-append : (known : List Meaning) (fs gs : List Fun) → meanings known (fs ++ gs) ≡ meanings (meanings known fs) gs
meanings-append known [] gs = refl
meanings-append known (f ∷ fs) gs = meanings-append (known ++ values (call known) f.results ∷ []) fs gs

length-meanings : (known : List Meaning) (fs : List Fun) → length (meanings known fs) ≡ length known + length fs
length-meanings known [] = omega arith
length-meanings known (f ∷ fs) =
    let m = values (call known) f.results in
    omega (arith, length-append known (m ∷ []), length-meanings (known ++ m ∷ []) fs)

-- a function that is added later changes no meaning
pub mean_added : (funs : List Fun) (f : Fun) (at : ℕ) (args : List ℤ) → at < length funs → mean (funs ++ f ∷ []) at args ≡ mean funs at args
mean_added funs f at args lt =
    let within : at < length (meanings [] funs) = omega (arith, length-meanings [] funs) in
    ap (λ (ms : List Meaning). get_or ms at nothing args) (meanings-append [] funs (f ∷ []))
    ∙ ap (λ (m : Meaning). m args) (kept (meanings [] funs) (f ∷ []) at within)

-- a function means the values of its results, over the functions before it
pub mean_is : (funs : List Fun) (k : ℕ) (f : Fun) → slice_get funs k ≡ Some f → (args : List ℤ) → mean funs k args ≡ values_over (take k funs) f.results args
unfolding values_over
mean_is funs k f found args =
    let place : k ≡ 0 + k = omega arith in
    ap (λ (n : ℕ). get_or (meanings [] funs) n nothing args) place
    ∙ ap (λ (m : Meaning). m args) (meaning_at [] funs k f found)

-- a call is the value of its only result
pub call_is : (funs : List Fun) (k : ℕ) (f : Fun) (e : Expr) → slice_get funs k ≡ Some f → f.results ≡ e ∷ [] → (args : List ℤ) → call_over funs k args ≡ value_over (take k funs) e args
unfolding value_over values_over call_over
call_is funs k f e found is args =
    ap (λ (m : Counted (List ℤ)). m >>= λ xs. give (get_or xs 0 (pos 0))) (mean_is funs k f found args ∙ ap (λ (es : List Expr). values_over (take k funs) es args) is)
    ∙ alone (value_over (take k funs) e args).outcome (value_over (take k funs) e args).begun
  where
    alone : (r : Result ℤ EvalFault) (n : ℕ) →
        (let m = after r n (λ x. give [] >>= λ xs. give (x ∷ xs)) in m >>= λ xs. give (get_or xs 0 (pos 0))) ≡ counted r n
    alone (Ok x) n = let p : n + (0 + 0) + 0 ≡ n = omega arith in ap (counted (Ok x)) p
    alone (Err f) n = refl

-- ---- what the rules give

pub slice_get_outside : (fs : List Fun) (k : ℕ) → slice_get fs k ≡ None → length fs ≤ k
slice_get_outside [] k h = omega arith
slice_get_outside (f ∷ fs) zero h = absurd cc
slice_get_outside (f ∷ fs) (suc k) h = omega (arith, slice_get_outside fs k h)

-- a list of one result
pub only_one : (es : List Expr) (e : Expr) → length es ≡ 1 → e ≡ get_or es 0 e → es ≡ e ∷ []
only_one [] e long is = absurd (omega arith)
only_one (d ∷ []) e long is = ap (λ (a : Expr). a ∷ []) (sym is)
only_one (d ∷ c ∷ es) e long is = absurd (omega arith)

-- the function that a call names
pub record IsCalled (n : ℕ) (f : Fun) : Type 0 where
  pub params : length f.params ≡ n
  pub results : length f.results ≡ 1

pub called : (funs : List Fun) (k n : ℕ) (f : Fun) → widths_of funs k ≡ Some (n, 1) → slice_get funs k ≡ Some f → IsCalled n f
called funs k n f h found =
    let widths : Option Fun → Option (ℕ × ℕ) = λ o. option_map {U = ℕ × ℕ} (λ (g : Fun). (length g.params, length g.results)) o in
    let both : Some (length f.params, length f.results) ≡ Some (n, 1) = sym (ap widths found) ∙ h in
    let pair : ◌≡◌ {A = ℕ × ℕ} (length f.params, length f.results) (n, 1) = cc in
    record { params = ap (λ (w : ℕ × ℕ). w.0) pair; results = ap (λ (w : ℕ × ℕ). w.1) pair }

pub called_within : (funs : List Fun) (k n : ℕ) → widths_of funs k ≡ Some (n, 1) → k < length funs
called_within funs k n h = of_lookup (slice_get funs k) refl h
  where
    of_lookup : (o : Option Fun) → slice_get funs k ≡ o → option_map {U = ℕ × ℕ} (λ (g : Fun). (length g.params, length g.results)) o ≡ Some (n, 1) → k < length funs
    of_lookup None found h = absurd cc
    of_lookup (Some f) found h = slice_get_within funs k f found

-- a call has at most 16 arguments
pub few_arguments : (funs : List Fun) (k n : ℕ) → AreFuns funs → widths_of funs k ≡ Some (n, 1) → n ≤ 16
few_arguments funs k n rules h = of_lookup (slice_get funs k) refl
  where
    of_lookup : (o : Option Fun) → slice_get funs k ≡ o → n ≤ 16
    of_lookup None found = absurd (omega (arith, called_within funs k n h, slice_get_outside funs k found))
    of_lookup (Some f) found = omega (arith, (called funs k n f h found).params, (rules.each k f found).few_params)

-- where a test and what follows it hold
pub held : (b : Bool) (o : Option (List Text)) (rest : List Text) → where_true b o ≡ Some rest → (b ≡ true) × (o ≡ Some rest)
held true o rest h = (refl, h)
held false o rest h = absurd cc

pub parts : (o : Option (List Text)) (go : List Text → Option (List Text)) (rest : List Text) → and_then o go ≡ Some rest → (mid : List Text) × (o ≡ Some mid) × (go mid ≡ Some rest)
parts None go rest h = absurd cc
parts (Some mid) go rest h = (mid, refl, h)

record Bound (scope : List Text) (go : Text → List Text → Option (List Text)) (rest : List Text) : Type 0 where
  name : Text
  more : List Text
  few : length scope < 32
  goes : go name more ≡ Some rest

pub both_hold : (a b : Bool) → (a && b) ≡ true → (a ≡ true) × (b ≡ true)
both_hold true b h = (refl, h)
both_hold false b h = absurd cc

bound : (scope names : List Text) (go : Text → List Text → Option (List Text)) (rest : List Text) → bind scope names go ≡ Some rest → Bound scope go rest
bound scope [] go rest h = absurd cc
bound scope (n ∷ names) go rest h =
    let all = held _ _ rest h in
    record { name = n; more = names; few = ltb-true (length scope) 32 (both_hold _ _ all.0).1; goes = all.1 }

pub takes_is : (o : Option (ℕ × ℕ)) (n : ℕ) → takes o n ≡ true → o ≡ Some (n, 1)
takes_is None n h = absurd cc
takes_is (Some w) n h =
    let both = both_hold _ _ h in
    let p = eqb-true w.0 n both.0 in
    let q = eqb-true w.1 1 both.1 in
    λ i. Some (p i, q i)

module _ (funs : List Fun) where
  mutual
    unfolding IsEvaluable

    evaluable : (e : Expr) (scope names rest : List Text) → names_after funs e scope names ≡ Some rest → IsEvaluable funs (length scope) e
    evaluable (Lit n) scope names rest h = tt
    evaluable (Slot k) scope names rest h = ltb-true k (length scope) (held _ _ rest h).0
    evaluable (minus a) scope names rest h = evaluable a scope names rest h
    evaluable (opposite a) scope names rest h = evaluable a scope names rest h
    evaluable (binary op a b) scope names rest h =
        let first = parts _ _ rest h in
        (evaluable a scope names first.0 first.1, evaluable b scope first.0 rest first.2)
    evaluable (choice c a b) scope names rest h =
        let first = parts _ _ rest h in
        let next = parts _ _ rest first.2 in
        (evaluable c scope names first.0 first.1, evaluable a scope first.0 next.0 next.1, evaluable b scope next.0 rest next.2)
    evaluable (binding a b) scope names rest h =
        let x = bound scope names _ rest h in
        let first = parts _ _ rest x.goes in (
          x.few,
          evaluable a scope x.more first.0 first.1,
          subst (λ (n : ℕ). IsEvaluable funs n b) (length-append scope (x.name ∷ [])) (evaluable b (scope ++ x.name ∷ []) first.0 rest first.2),
        )
    evaluable (looping n s e) scope names rest h =
        let i = bound scope names _ rest h in
        let first = parts _ _ rest i.goes in
        let a = bound (scope ++ i.name ∷ []) first.0 _ rest first.2 in
        let next = parts _ _ rest a.goes in (
          subst (λ (k : ℕ). k < 32) (length-append scope (i.name ∷ [])) a.few,
          evaluable n scope i.more first.0 first.1,
          evaluable s scope a.more next.0 next.1,
          subst (λ (k : ℕ). IsEvaluable funs k e) (length-append scope (i.name ∷ a.name ∷ [])) (evaluable e (scope ++ i.name ∷ a.name ∷ []) next.0 rest next.2),
        )
    evaluable (Call' f _ args) scope names rest h =
        let all = held _ _ rest h in
        (takes_is _ _ all.0, arguments_evaluable _ args scope names rest all.1)

    arguments_evaluable : (m : _) (row : Row_of-Expr m) (scope names rest : List Text) → names_after_all funs row scope names ≡ Some rest → AreArguments funs (length scope) row
    arguments_evaluable m end_of-Expr scope names rest h = tt
    arguments_evaluable m (more_of-Expr e es) scope names rest h =
        let first = parts _ _ rest h in
        (evaluable e scope names first.0 first.1, arguments_evaluable _ es scope first.0 rest first.2)

  pub all_evaluable : (es : List Expr) (scope names rest : List Text) → names_after_results funs es scope names ≡ Some rest → AreEvaluable funs (length scope) es
  unfolding AreEvaluable
  all_evaluable [] scope names rest h = tt
  all_evaluable (e ∷ es) scope names rest h =
      let first = parts _ _ rest h in
      (evaluable e scope names first.0 first.1, all_evaluable es scope first.0 rest first.2)

-- the results of a function may be evaluated over those before it
pub results_evaluable : (funs : List Fun) (k : ℕ) (f : Fun) → AreFuns funs → slice_get funs k ≡ Some f → AreEvaluable (take k funs) (length f.params) f.results
results_evaluable funs k f rules found = all_evaluable (take k funs) f.results f.params f.names [] (rules.each k f found).bodies

-- ---- lists of functions

found_before : (fs : List Fun) (k j : ℕ) (f : Fun) → slice_get (take k fs) j ≡ Some f → (slice_get fs j ≡ Some f) × (take j (take k fs) ≡ take j fs)
found_before [] zero j f h = absurd cc
found_before [] (suc k) j f h = absurd cc
found_before (g ∷ fs) zero j f h = absurd cc
found_before (g ∷ fs) (suc k) zero f h = (h, refl)
found_before (g ∷ fs) (suc k) (suc j) f h =
    let found = found_before fs k j f h in
    (found.0, ap (λ (gs : List Fun). g ∷ gs) found.1)

pub funs_before : (funs : List Fun) (k : ℕ) → AreFuns funs → AreFuns (take k funs)
funs_before funs k rules = record {
  each = λ j f h. let found = found_before funs k j f h in subst (λ (gs : List Fun). MayFollow gs f) (sym found.1) (rules.each j f found.0);
}

found_added : (fs : List Fun) (g : Fun) (j : ℕ) (f : Fun) → slice_get (fs ++ g ∷ []) j ≡ Some f →
    ((slice_get fs j ≡ Some f) × (take j (fs ++ g ∷ []) ≡ take j fs)) ⊎ ((g ≡ f) × (take j (fs ++ g ∷ []) ≡ fs))
found_added [] g zero f h = inr (cc, refl)
found_added [] g (suc j) f h = absurd cc
found_added (d ∷ fs) g zero f h = inl (h, refl)
found_added (d ∷ fs) g (suc j) f h =
    ⊎_elim (λ found. inl (found.0, ap (λ (gs : List Fun). d ∷ gs) found.1)) (λ found. inr (found.0, ap (λ (gs : List Fun). d ∷ gs) found.1)) (found_added fs g j f h)

pub funs_added : (funs : List Fun) (f : Fun) → AreFuns funs → MayFollow funs f → AreFuns (funs ++ f ∷ [])
funs_added funs f rules new = record {
  each = λ j g h.
      ⊎_elim
      (λ found. subst (λ (gs : List Fun). MayFollow gs g) (sym found.1) (rules.each j g found.0))
      (λ found. subst (λ (gs : List Fun). MayFollow gs g) (sym found.1) (subst (MayFollow funs) found.0 new))
      (found_added funs f j g h);
}

-- ---- a function of a list, from what was found of it

module _ (funs : List Fun) (at : ℕ) (f : Fun) (known : List Fun) (es : List Expr) (same_known : known ≡ take at funs) (same_results : es ≡ f.results) where
  pub fits_scope : (scope args : List ℤ) → MayFollow (take at funs) f → scope ≡ args → length args ≡ length f.params → AreEvaluable known (length scope) es
  fits_scope scope args rules same long =
      let all = all_evaluable (take at funs) f.results f.params f.names [] rules.bodies in
      let wide : length f.params ≡ length scope = sym long ∙ ap (length {A = ℤ}) (sym same) in
      subst (AreEvaluable known (length scope)) (sym same_results)
      (subst (λ (gs : List Fun). AreEvaluable gs (length scope) f.results) (sym same_known) (subst (λ (n : ℕ). AreEvaluable (take at funs) n f.results) wide all))

  pub means : (scope args : List ℤ) → slice_get funs at ≡ Some f → scope ≡ args → values_over known es scope ≡ mean funs at args
  means scope args found same =
      ap (λ (gs : List Fun). values_over gs es scope) same_known
      ∙ ap (λ (ds : List Expr). values_over (take at funs) ds scope) same_results
      ∙ ap (λ (xs : List ℤ). values_over (take at funs) f.results xs) same
      ∙ sym (mean_is funs at f found args)
