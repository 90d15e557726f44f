-- The numbers along a path, the parts of a problem, and its value by those of its parts.
use Rattle.std.proofs.Common.{◌≡◌, ◌-◌, ℕ, suc, pos, List, [], ◌∷◌, ◌++◌, length, get_or, Result, Ok, Err, refl, ap, ◌∙◌, arith, length-append}
use Rattle.msl_base.specs.declared.fault.Fault.{Fault}
use Rattle.msl_base.specs.Streams.{Outcome}
use Rattle.msl_fun.specs.declared.funs.Fun.{Fun}
use Rattle.msl_lists.specs.Whole.{◌>>=◌}
use Rattle.msl_lists.proofs.WholeParts.{each_values}
use Rattle.msl_program.specs.Calls.{run}
use Rattle.msl_program.specs.Along.{along, most_levels}
use Rattle.msl_program.specs.Divide.{parts_of, combined_by, simple_or, value_in}
use Rattle.msl_program.specs.declared.script.DivCon.{DivCon}
use Rattle.msl_program.specs.RunLaws.{GoesAlong, PartsLieAlong, HasAllParts, IsByParts, IsDeepest}

-- ---- along a path

bind_ok : (r : Outcome) → (r >>= λ y. Ok y) ≡ r
bind_ok (Ok y) = refl
bind_ok (Err f) = refl

pub through : {A B C : Type 0} (r : Result A Fault) (more : A → Result B Fault) (go : B → Result C Fault) (whole : A → Result C Fault) → ((a : A) → whole a ≡ (more a >>= go)) → (r >>= whole) ≡ ((r >>= more) >>= go)
through (Ok a) more go whole h = h a
through (Err f) more go whole h = refl

pub goes_along : (funs : List Fun) → GoesAlong funs
goes_along funs stage f x [] k = bind_ok (run funs stage f (x ++ pos k ∷ []))
goes_along funs stage f x (j ∷ rest) k =
    through (run funs stage f (x ++ pos j ∷ [])) (λ y. along funs stage f y rest) (λ y. run funs stage f (y ++ pos k ∷ [])) (λ y. along funs stage f y (rest ++ k ∷ []))
    (λ y. goes_along funs stage f y rest k)

-- ---- problems

module _ (funs : List Fun) (d : DivCon) where
  pub has_all_parts : HasAllParts funs d
  has_all_parts stage x parts e = (each_values d.parts (λ j. run funs stage d.divide (x ++ pos j ∷ [])) parts e).0

  pub parts_along : PartsLieAlong funs d
  parts_along stage x y q parts is e j lt =
      goes_along funs stage d.divide x q j ∙ ap (λ (r : Outcome). r >>= λ z. run funs stage d.divide (z ++ pos j ∷ [])) is
      ∙ (each_values d.parts (λ k. run funs stage d.divide (y ++ pos k ∷ [])) parts e).1 j [] lt

  pub by_parts : IsByParts funs d
  by_parts stage leaf q x lt =
      let n = 63 - length q in
      let here : most_levels - length q ≡ suc n = omega (arith, lt) in
      let next : (j : ℕ) → n ≡ most_levels - length (q ++ j ∷ []) = λ j. omega (arith, length-append q (j ∷ [])) in
      ap (λ (m : ℕ). value_in funs d stage leaf m q x) here
      ∙ (λ i. simple_or funs d stage leaf x (parts_of funs d stage x >>= λ parts. combined_by funs d stage (λ j. value_in funs d stage leaf (next j i) (q ++ j ∷ []) (get_or parts j []))))

  pub deepest_simple : IsDeepest funs d
  deepest_simple stage leaf q x e =
      let none : most_levels - length q ≡ 0 = omega (arith, e) in
      ap (λ (m : ℕ). value_in funs d stage leaf m q x) none
