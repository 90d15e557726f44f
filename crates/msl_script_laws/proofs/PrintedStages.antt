-- Reading goes on through printed stages.
use mathlib.Core.Former.{none_left, this, list}
use Rattle.std.proofs.Common.{◌≡◌, ◌<◌, ◌≤◌, ◌+◌, ℕ, Bool, true, false, ◌||◌, List, [], ◌∷◌, ◌++◌, length, map, get_or, codes, refl, ap, sym, subst, append_assoc, append-nil, arith, lt-ltb}
use Rattle.std.proofs.lemmas.List.{length-map}
use Rattle.msl_lex.specs.Lexemes.{word, number, sign}
use Rattle.msl_lex.specs.Printing.{Bit, token}
use Rattle.msl_base.specs.Names.{Text, is_among}
use Rattle.msl_fun.specs.Checks.{names_of}
use Rattle.msl_fun_print.specs.FunText.{space, named, mark}
use Rattle.msl_program.specs.declared.nest.Counts.{Counts}
use Rattle.msl_program.specs.declared.nest.Nest.{Nest}
use Rattle.msl_program.specs.declared.stage.Stage.{Stage, Row_of-Stage, end_of-Stage, more_of-Stage}
use Rattle.msl_program.specs.declared.stage.Stage.TheVariants.{Atomic, Filter, Data, DivCon, Bnb, Pipe'}
use Rattle.msl_grammar.specs.Known.{AreAmong, IsKnown}
use Rattle.msl_program.specs.Known.{Known, script_of, is_declared, data_names, filter_names, divcon_names, bnb_names}
use Rattle.msl_program.specs.ProgramPromise.{IsBetween}
use Rattle.msl_program.specs.Fitting.{Fits, AllFit}
use Rattle.msl_grammar.specs.ScriptGrammar.{State, a_stage, more_stages, one_primitive, one_filter, one_deeper, in_farm, on_members, atomic_rule, filter_stage_rule, farm_rule, pipe_rule}
use Rattle.msl_program.specs.ScriptPromise.{IsSized, AreSized, filters_of, filters_in, height, greatest_height}
use Rattle.msl_script_print.specs.ScriptText.{joined, stage_bits, all_stage_bits}
use Rattle.msl_program.specs.Stages.{farm, pipe, primitives_of, primitives_in}
use Rattle.msl_grammar.proofs.Leaves.{there}
use Rattle.msl_script_laws.proofs.Printed.{meets, Goes, spaced, one_token, grouped, same_bits, word_goes, sign_goes, number_goes}
use Rattle.msl_script_laws.proofs.PrintedNames.{AreNames, stands}
use Rattle.msl_script_laws.proofs.PrintedParts.{Stands, definition_goes, function_goes}

-- ---- definitions

-- what is known is named by names, all of a kind by others
pub record HasNames (m : Known) : Type 0 where
  pub known : IsKnown m
  pub funs : AreNames (names_of m.funs)
  pub datas : AreNames (data_names m)
  pub filters : AreNames (filter_names m)
  pub divcons : AreNames (divcon_names m)
  pub bnbs : AreNames (bnb_names m)

stands_here : (names : List Text) (k : ℕ) → AreNames names → k < length names → Stands names k (get_or names k [])
stands_here names k are within = subst (λ (ns : List Text). Stands names k (get_or ns k [])) (append-nil names) (stands names [] k are within)

named_here : {A : Type 0} (f : A → Text) (xs : List A) (k : ℕ) → AreNames (map f xs) → k < length xs → Stands (map f xs) k (get_or (map f xs) k [])
named_here f xs k are within = stands_here (map f xs) k are (omega (arith, length-map xs f))

declared : (m : Known) (names : List Text) (k : ℕ) (n : Text) → AreAmong names m.others → Stands names k n → is_declared m n ≡ true
declared m names k n among s = by (is_among (names_of m.funs) n) (is_among m.others n) (among n (there names n k s.place))
  where
    by : (a b : Bool) → b ≡ true → (a || b) ≡ true
    by true b h = refl
    by false b h = h

-- ---- the stages of a pipe

abbrev list_of : {n : _} → Row_of-Stage n → List Stage
list_of end_of-Stage = []
list_of (more_of-Stage st sts) = st ∷ list_of sts

abbrev one_more : Stage → Stage → Stage
one_more s (Pipe' shape stages) = Pipe' (tt ∷ shape) (more_of-Stage s stages)
one_more s t = t

pipe_is : (us : List (Unit {0})) (sts : Row_of-Stage ((list this).count us none_left)) → pipe (list_of sts) ≡ Pipe' us sts
pipe_is [] end_of-Stage = refl
pipe_is (tt ∷ us) (more_of-Stage st sts) = ap (one_more st) (pipe_is us sts)

-- parts behind the first
abbrev after : List (List Bit) → List Bit
after [] = []
after (p ∷ ps) = mark (codes ";") ∷ space ∷ joined (mark (codes ";") ∷ space ∷ []) (p ∷ ps)

joined_is : (p : List Bit) (ps : List (List Bit)) → joined (mark (codes ";") ∷ space ∷ []) (p ∷ ps) ≡ p ++ after ps
joined_is p [] = sym (append-nil p)
joined_is p (q ∷ ps) = refl

-- a stage may stand before these
pub record EndsStage (bits : List Bit) : Type 0 where
  pub words : (w : Text) → meets (word w) bits ≡ true
  pub numbers : (v : ℕ) → meets (number v) bits ≡ true
  pub braces : meets (sign (codes "}")) bits ≡ true

-- these counts with so many more
pub record Counted (before behind : Counts) (prims filts : ℕ) : Type 0 where
  pub primitives : behind.primitives ≡ before.primitives + prims
  pub filters : behind.filters ≡ before.filters + filts

-- there is room for so many more
pub record Room (nest : Nest) (c : Counts) (prims filts high : ℕ) : Type 0 where
  pub primitives : c.primitives + prims ≤ 64
  pub filters : c.filters + filts ≤ 4
  pub height : nest.opened + high ≤ 4

module _ (m : Known) (main : Stage) (names : HasNames m) where
  fun_stands : (f : ℕ) → f < length m.funs → Stands (names_of m.funs) f (get_or (names_of m.funs) f [])
  fun_stands f within = named_here (λ f. f.name) m.funs f names.funs within

  -- what follows a stage, whatever the counts are called
  abbrev Follows : Counts → ℕ → ℕ → Stage → (Counts × Stage → State) → List Bit → State → Type 0
  Follows c prims filts st k bits t = (d : Counts) → Counted c d prims filts → Goes (k (d, st)) bits t

  -- ---- one stage

  atomic_goes : {nest : Nest} {c : Counts} {k : Counts × Stage → State} {t : State} {bits : List Bit} (f : ℕ) → Fits (script_of m main) nest.in_farm (Atomic f) → Room nest c 1 0 0 → EndsStage bits → Follows c 1 0 (Atomic f) k bits t
      → Goes (a_stage m nest c k) (stage_bits (script_of m main) (Atomic f) ++ bits) t
  atomic_goes {c = c} {k = k} f fits room ends h =
      let few : c.primitives < 64 = omega (arith, room.primitives) in
      one_token (atomic_rule m (λ s. k (one_primitive c, s))) refl refl (λ at end ts. rw (lt-ltb c.primitives 64 few) refl)
      (spaced (function_goes m (names_of m.funs) fun_stands (record { within = fits; params = refl; results = refl }) (ends.words (get_or (names_of m.funs) f [])) (h (one_primitive c) (record { primitives = refl; filters = omega arith }))))

  filter_goes : {nest : Nest} {c : Counts} {k : Counts × Stage → State} {t : State} {bits : List Bit} (i : ℕ) → Fits (script_of m main) nest.in_farm (Filter i) → Room nest c 1 1 0 → EndsStage bits → Follows c 1 1 (Filter i) k bits t
      → Goes (a_stage m nest c k) (stage_bits (script_of m main) (Filter i) ++ bits) t
  filter_goes {nest = nest} {c = c} {k = k} i fits room ends h =
      let few : c.primitives < 64 = omega (arith, room.primitives) in
      let few_filters : c.filters < 4 = omega (arith, room.filters) in
      let s = named_here (λ d. d.name) m.filters i names.filters fits.1 in
      one_token (filter_stage_rule m (λ s. k (one_filter c, s))) refl refl (λ at end ts. rw (fits.0, lt-ltb c.primitives 64 few, lt-ltb c.filters 4 few_filters) refl)
      (spaced (definition_goes s (declared m (filter_names m) i _ names.known.filters s) (ends.words (get_or (filter_names m) i [])) (h (one_filter c) (record { primitives = refl; filters = refl }))))

  members_go : (k : Stage → State) {t : State} {bits : List Bit} (ns : List Text) (make : ℕ → ℕ → Stage) (d on : ℕ) → Stands ns d (get_or ns d []) → AreAmong ns m.others → IsBetween 1 64 on → EndsStage bits → Goes (k (make d on)) bits t
      → Goes (on_members m ns make k) (named (get_or ns d []) ∷ space ∷ named (codes "on") ∷ space ∷ token (number on) ∷ bits) t
  members_go k ns make d on s among between ends h = definition_goes s (declared m ns d _ among s) refl (spaced (word_goes refl refl (spaced (number_goes refl between (ends.numbers on) h))))

  data_goes : {nest : Nest} {c : Counts} {k : Counts × Stage → State} {t : State} {bits : List Bit} (d on : ℕ) → Fits (script_of m main) nest.in_farm (Data d on) → IsBetween 1 64 on → Room nest c 1 0 0 → EndsStage bits → Follows c 1 0 (Data d on) k bits t
      → Goes (a_stage m nest c k) (stage_bits (script_of m main) (Data d on) ++ bits) t
  data_goes {c = c} {k = k} d on fits between room ends h =
      let few : c.primitives < 64 = omega (arith, room.primitives) in
      one_token (on_members m (data_names m) Data (λ s. k (one_primitive c, s))) refl refl (λ at end ts. rw (lt-ltb c.primitives 64 few) refl)
      (spaced (members_go (λ s. k (one_primitive c, s)) (data_names m) Data d on (named_here (λ d. d.name) m.datas d names.datas fits) names.known.datas between ends (h (one_primitive c) (record { primitives = refl; filters = omega arith }))))

  divcon_goes : {nest : Nest} {c : Counts} {k : Counts × Stage → State} {t : State} {bits : List Bit} (d on : ℕ) → Fits (script_of m main) nest.in_farm (DivCon d on) → IsBetween 1 64 on → Room nest c 1 0 0 → EndsStage bits → Follows c 1 0 (DivCon d on) k bits t
      → Goes (a_stage m nest c k) (stage_bits (script_of m main) (DivCon d on) ++ bits) t
  divcon_goes {c = c} {k = k} d on fits between room ends h =
      let few : c.primitives < 64 = omega (arith, room.primitives) in
      one_token (on_members m (divcon_names m) DivCon (λ s. k (one_primitive c, s))) refl refl (λ at end ts. rw (lt-ltb c.primitives 64 few) refl)
      (spaced (members_go (λ s. k (one_primitive c, s)) (divcon_names m) DivCon d on (named_here (λ d. d.name) m.divcons d names.divcons fits) names.known.divcons between ends (h (one_primitive c) (record { primitives = refl; filters = omega arith }))))

  bnb_goes : {nest : Nest} {c : Counts} {k : Counts × Stage → State} {t : State} {bits : List Bit} (d on : ℕ) → Fits (script_of m main) nest.in_farm (Bnb d on) → IsBetween 1 64 on → Room nest c 1 0 0 → EndsStage bits → Follows c 1 0 (Bnb d on) k bits t
      → Goes (a_stage m nest c k) (stage_bits (script_of m main) (Bnb d on) ++ bits) t
  bnb_goes {c = c} {k = k} d on fits between room ends h =
      let few : c.primitives < 64 = omega (arith, room.primitives) in
      one_token (on_members m (bnb_names m) Bnb (λ s. k (one_primitive c, s))) refl refl (λ at end ts. rw (lt-ltb c.primitives 64 few) refl)
      (spaced (members_go (λ s. k (one_primitive c, s)) (bnb_names m) Bnb d on (named_here (λ d. d.name) m.bnbs d names.bnbs fits) names.known.bnbs between ends (h (one_primitive c) (record { primitives = refl; filters = omega arith }))))

  -- ---- stages in stages

  abbrev others_of : {n : _} → Row_of-Stage n → List Bit
  others_of sts = after (all_stage_bits (script_of m main) sts)

  spaced_end : (bits : List Bit) → EndsStage (space ∷ bits)
  spaced_end bits = record { words = λ w. refl; numbers = λ v. refl; braces = refl }

  others_end : {n : _} (sts : Row_of-Stage n) (bits : List Bit) → EndsStage (others_of sts ++ space ∷ bits)
  others_end end_of-Stage bits = spaced_end bits
  others_end (more_of-Stage st sts) bits = record { words = λ w. refl; numbers = λ v. refl; braces = refl }

  mutual
    pub stage_goes : (st : Stage) (nest : Nest) (c : Counts) (k : Counts × Stage → State) (t : State) (bits : List Bit) → Fits (script_of m main) nest.in_farm st → IsSized st → Room nest c (primitives_of st) (filters_of st) (height st) → EndsStage bits
        → Follows c (primitives_of st) (filters_of st) st k bits t → Goes (a_stage m nest c k) (stage_bits (script_of m main) st ++ bits) t
    stage_goes (Atomic f) nest c k t bits fits sized room ends h = atomic_goes f fits room ends h
    stage_goes (Filter i) nest c k t bits fits sized room ends h = filter_goes i fits room ends h
    stage_goes (Data d on) nest c k t bits fits sized room ends h = data_goes d on fits sized room ends h
    stage_goes (DivCon d on) nest c k t bits fits sized room ends h = divcon_goes d on fits sized room ends h
    stage_goes (Bnb d on) nest c k t bits fits sized room ends h = bnb_goes d on fits sized room ends h
    stage_goes (farm n st) nest c k t bits fits sized room ends h =
        let low : nest.opened < 4 = omega (arith, room.height) in
        one_token (farm_rule m nest c k) refl refl (λ at end ts. rw (lt-ltb nest.opened 4 low) refl)
        (spaced (number_goes refl sized.0 refl (spaced (sign_goes refl refl (spaced (grouped (stage_bits (script_of m main) st) (space ∷ mark (codes "}") ∷ []) bits
        (stage_goes st (in_farm nest) c _ t (space ∷ mark (codes "}") ∷ bits) fits sized.1 (record { primitives = room.primitives; filters = room.filters; height = omega (arith, room.height) }) (spaced_end _)
        (λ d counted. spaced (sign_goes refl ends.braces (h d counted))))))))))
    stage_goes (Pipe' [] sts) nest c k t bits fits sized room ends h = absurd (omega (arith, sized.0))
    stage_goes (Pipe' (u ∷ us) (more_of-Stage st sts)) nest c k t bits fits sized room ends h =
        let low : nest.opened < 4 = omega (arith, room.height) in
        let first = stage_bits (script_of m main) st in
        let close = space ∷ mark (codes "}") ∷ [] in
        let all = joined (mark (codes ";") ∷ space ∷ []) (first ∷ all_stage_bits (script_of m main) sts) in
        one_token (pipe_rule m nest c k) refl refl (λ at end ts. rw (lt-ltb nest.opened 4 low) refl)
        (spaced (sign_goes refl refl (spaced (grouped all close bits (same_bits (ap (λ (b : List Bit). b ++ (close ++ bits)) (joined_is first (all_stage_bits (script_of m main) sts))) (grouped first (others_of sts) (close ++ bits)
        (stage_goes st (one_deeper nest) c _ t (others_of sts ++ (close ++ bits)) fits.0 sized.1.0 (record { primitives = omega (arith, room.primitives); filters = omega (arith, room.filters); height = omega (arith, room.height) }) (others_end sts _)
        (λ d counted. more_go sts (one_deeper nest) d (st ∷ []) k t bits fits.1 sized.1.1 (record { primitives = omega (arith, room.primitives, counted.primitives); filters = omega (arith, room.filters, counted.filters); height = omega (arith, room.height) }) ends.braces
        (λ e more. subst (λ (p : Stage). Goes (k (e, p)) bits t) (sym (pipe_is (u ∷ us) (more_of-Stage st sts))) (h e (record { primitives = omega (arith, counted.primitives, more.primitives); filters = omega (arith, counted.filters, more.filters) })))))))))))

    more_go : {n : _} (sts : Row_of-Stage n) (nest : Nest) (c : Counts) (before : List Stage) (k : Counts × Stage → State) (t : State) (bits : List Bit) → AllFit (script_of m main) nest.in_farm sts → AreSized sts
        → Room nest c (primitives_in sts) (filters_in sts) (greatest_height sts) → meets (sign (codes "}")) bits ≡ true → Follows c (primitives_in sts) (filters_in sts) (pipe (before ++ list_of sts)) k bits t
        → Goes (more_stages m nest c before k) (others_of sts ++ space ∷ mark (codes "}") ∷ bits) t
    more_go end_of-Stage nest c before k t bits fits sized room meet h =
        spaced (one_token (k (c, pipe before)) refl meet (λ at end ts. refl) (subst (λ (ss : List Stage). Goes (k (c, pipe ss)) bits t) (append-nil before) (h c (record { primitives = omega arith; filters = omega arith }))))
    more_go (more_of-Stage st sts) nest c before k t bits fits sized room meet h =
        let first = stage_bits (script_of m main) st in
        let close = space ∷ mark (codes "}") ∷ bits in
        one_token (a_stage m nest c (λ r. more_stages m nest r.0 (before ++ r.1 ∷ []) k)) refl refl (λ at end ts. refl)
        (spaced (same_bits (ap (λ (b : List Bit). b ++ close) (joined_is first (all_stage_bits (script_of m main) sts))) (grouped first (others_of sts) close
        (stage_goes st nest c _ t (others_of sts ++ close) fits.0 sized.0 (record { primitives = omega (arith, room.primitives); filters = omega (arith, room.filters); height = omega (arith, room.height) }) (others_end sts _)
        (λ d counted. more_go sts nest d (before ++ st ∷ []) k t bits fits.1 sized.1 (record { primitives = omega (arith, room.primitives, counted.primitives); filters = omega (arith, room.filters, counted.filters); height = omega (arith, room.height) }) meet
        (λ e more. subst (λ (ss : List Stage). Goes (k (e, pipe ss)) bits t) (sym (append_assoc before (st ∷ []) (list_of sts))) (h e (record { primitives = omega (arith, counted.primitives, more.primitives); filters = omega (arith, counted.filters, more.filters) }))))))))
