-- How reading goes on at the names of definitions, and at the first words of stages.
use Rattle.std.proofs.Common.{◌≡◌, ◌<◌, ℕ, ◌+◌, Bool, true, false, not, ◌||◌, nat_lt, List, [], ◌∷◌, ◌++◌, map, drop, Some, None, Result, Ok, Err, codes, refl, sym, subst, ◌∙◌, lt-ltb}
use Rattle.std.proofs.lemmas.Slice.Eq.{bytes_eq-Decides}
use Rattle.msl_lex.specs.declared.kind.Kind.TheVariants.{Many, InFarm}
use Rattle.msl_lex.specs.Lexemes.{Form, Lexeme, word, number, sign, close}
use Rattle.msl_base.specs.Names.{Text, is_among}
use Rattle.msl_fun.specs.Checks.{names_of}
use Rattle.msl_read.specs.Front.{form}
use Rattle.msl_base.specs.Names.{place_among}
use Rattle.msl_read.specs.Reading.{Refusal, Test, test, failing, takes, place, says}
use Rattle.msl_read.specs.declared.fault.ReadFault.{ReadFault}
use Rattle.msl_program.specs.Known.{Known}
use Rattle.msl_program.specs.declared.nest.Counts.{Counts}
use Rattle.msl_program.specs.declared.nest.Nest.{Nest}
use Rattle.msl_program.specs.Script.{Script}
use Rattle.msl_program.specs.declared.stage.Stage.{Stage}
use Rattle.msl_program.specs.declared.stage.Stage.TheVariants.{Data, DivCon, Bnb}
use Rattle.msl_read.specs.Refusals.{IsRefused}
use Rattle.msl_grammar.specs.Following.{IsRead}
use Rattle.msl_program.specs.Stages.{farm, pipe}
use Rattle.msl_grammar.specs.Known.{AreAmong}
use Rattle.msl_program.specs.Known.{is_declared, data_names, divcon_names, bnb_names}
use Rattle.msl_grammar.specs.ScriptGrammar.{State, Turn, token, a_number, a_stage, more_stages, stage_turn, atomic_rule, filter_stage_rule, on_members, few_primitives, nest_test, one_primitive, one_deeper, reading}
use Rattle.msl_grammar.proofs.Leaves.{there}

-- ---- definitions by their names

module _ {X : Type 0} (called : X → Text) (xs : List X) (n : Text) where
  module _ (m : Known) (among : AreAmong (map called xs) m.others) (k : ℕ) (some : place_among (map called xs) n ≡ Some k) where
    -- it is declared
    pub declared : is_declared m n ≡ true
    declared = by (is_among (names_of m.funs) n) (is_among m.others n) (among n (there (map called xs) n k some))
      where
        by : (a b : Bool) → b ≡ true → (a || b) ≡ true
        by true b h = refl
        by false b h = h

-- ---- the first word of a stage

by_word : (P : Form → Type 0) (w : Text) → P (word w) → P (sign w) → (f : Form) → says w f ≡ true → P f
by_word P w of_word of_sign (word v) h = subst (λ (t : Text). P (word t)) (sym ((bytes_eq-Decides v w).0 h)) of_word
by_word P w of_word of_sign (sign v) h = subst (λ (t : Text). P (sign t)) (sym ((bytes_eq-Decides v w).0 h)) of_sign
by_word P w of_word of_sign (number v) h = cc
by_word P w of_word of_sign close h = cc

-- refused alike
pub along : (r s : Result (Script × List Lexeme) Refusal) (e : ReadFault) → r ≡ s → IsRefused s e → IsRefused r e
along r s e same h = subst (λ (x : Result (Script × List Lexeme) Refusal). IsRefused x e) (sym same) h

-- what reads a part from some tokens on reads the whole that goes on as this part there
pub read_from : {A : Type 0} (ts us rest : List Lexeme) (whole part : (A → State) → State) → ((k : A → State) → reading ts (whole k) ≡ reading us (part k)) → (r : Result A ReadFault) → IsRead us part rest r → IsRead ts whole rest r
read_from ts us rest whole part goes (Ok a) read = λ k. goes k ∙ read k
read_from ts us rest whole part goes (Err e) read = λ k. along (reading ts (whole k)) (reading us (part k)) e (goes k) (read k)

module _ (m : Known) (nest : Nest) (counts : Counts) (k : Counts × Stage → State) where
  abbrev turn_at : Form → Lexeme → Turn
  turn_at f t = stage_turn m nest counts (record t { form = f }) k

  -- a stage whose first word lets this follow, under these tests
  module _ (w : Text) (due : ℕ → List Test) (next : State) (by_words : (t : Lexeme) → turn_at (word w) t ≡ takes (due t.at) next) (by_signs : (t : Lexeme) → turn_at (sign w) t ≡ takes (due t.at) next) where
    turn : (t : Lexeme) → says w t.form ≡ true → stage_turn m nest counts t k ≡ takes (due t.at) next
    turn t = by_word (λ f. turn_at f t ≡ takes (due t.at) next) w (by_words t) (by_signs t) t.form

    goes : (ts us : List Lexeme) → says w (form ts) ≡ true → failing (due (place ts)) ≡ None → us ≡ drop 1 ts → reading ts (a_stage m nest counts k) ≡ reading us next
    goes [] us said none is = cc
    goes (t ∷ ts) us said none is = rw (is, turn t said, none) refl

  primitive_none : (at : ℕ) → nat_lt counts.primitives 64 ≡ true → failing (few_primitives counts at ∷ []) ≡ None
  primitive_none at room = rw room refl

  filter_none : (at : ℕ) → nest.in_farm ≡ false → nat_lt counts.filters 4 ≡ true → nat_lt counts.primitives 64 ≡ true
      → failing (test InFarm at (not nest.in_farm) ∷ few_primitives counts at ∷ test Many at (nat_lt counts.filters 4) ∷ []) ≡ None
  filter_none at outside few room = rw (outside, few, room) refl

  nest_none : (at : ℕ) → nat_lt nest.opened 4 ≡ true → failing (nest_test nest at) ≡ None
  nest_none at room = rw room refl

  -- behind the first word of a primitive stage
  module _ (ts us : List Lexeme) (now : Counts) (room : (nat_lt counts.primitives 64 ≡ true) × (now ≡ one_primitive counts) × (us ≡ drop 1 ts)) where
    pub atomic_goes : says (codes "atomic") (form ts) ≡ true → reading ts (a_stage m nest counts k) ≡ reading us (atomic_rule m (λ s. k (now, s)))
    atomic_goes said = rw room.1 (goes (codes "atomic") _ _ (λ t. refl) (λ t. refl) ts us said (primitive_none (place ts) room.0) room.2)

    pub data_goes : says (codes "data") (form ts) ≡ true → reading ts (a_stage m nest counts k) ≡ reading us (on_members m (data_names m) Data (λ s. k (now, s)))
    data_goes said = rw room.1 (goes (codes "data") _ _ (λ t. refl) (λ t. refl) ts us said (primitive_none (place ts) room.0) room.2)

    pub divcon_goes : says (codes "divcon") (form ts) ≡ true → reading ts (a_stage m nest counts k) ≡ reading us (on_members m (divcon_names m) DivCon (λ s. k (now, s)))
    divcon_goes said = rw room.1 (goes (codes "divcon") _ _ (λ t. refl) (λ t. refl) ts us said (primitive_none (place ts) room.0) room.2)

    pub bnb_goes : says (codes "bnb") (form ts) ≡ true → reading ts (a_stage m nest counts k) ≡ reading us (on_members m (bnb_names m) Bnb (λ s. k (now, s)))
    bnb_goes said = rw room.1 (goes (codes "bnb") _ _ (λ t. refl) (λ t. refl) ts us said (primitive_none (place ts) room.0) room.2)

    pub filter_goes : says (codes "filter") (form ts) ≡ true → nest.in_farm ≡ false → counts.filters < 4
        → reading ts (a_stage m nest counts k) ≡ reading us (filter_stage_rule m (λ s. k (record now { filters = now.filters + 1 }, s)))
    filter_goes said outside few = rw room.1 (goes (codes "filter") _ _ (λ t. refl) (λ t. refl) ts us said (filter_none (place ts) outside (lt-ltb counts.filters 4 few) room.0) room.2)

  -- behind the first word of a farm or a pipe
  module _ (ts us : List Lexeme) (inner : Nest) (room : (nat_lt nest.opened 4 ≡ true) × (inner ≡ one_deeper nest) × (us ≡ drop 1 ts)) where
    pub farm_goes : says (codes "farm") (form ts) ≡ true
        → reading ts (a_stage m nest counts k) ≡ reading us (a_number 1 64 (λ v. token (codes "{") (a_stage m (record inner { in_farm = true }) counts (λ r. token (codes "}") (k (r.0, farm v r.1))))))
    farm_goes said = rw room.1 (goes (codes "farm") _ _ (λ t. refl) (λ t. refl) ts us said (nest_none (place ts) room.0) room.2)

    pub pipe_goes : says (codes "pipe") (form ts) ≡ true → reading ts (a_stage m nest counts k) ≡ reading us (token (codes "{") (a_stage m inner counts (λ r. more_stages m inner r.0 (r.1 ∷ []) k)))
    pipe_goes said = rw room.1 (goes (codes "pipe") _ _ (λ t. refl) (λ t. refl) ts us said (nest_none (place ts) room.0) room.2)

  -- the rest of a pipe
  module _ (ts : List Lexeme) (ss : List Stage) where
    pub more_goes : (us : List Lexeme) → says (codes ";") (form ts) ≡ true → us ≡ drop 1 ts
        → reading ts (more_stages m nest counts ss k) ≡ reading us (a_stage m nest counts (λ r. more_stages m nest r.0 (ss ++ r.1 ∷ []) k))
    more_goes us said is = rw is (by ts said)
      where
        by : (ts : List Lexeme) → says (codes ";") (form ts) ≡ true → reading ts (more_stages m nest counts ss k) ≡ reading (drop 1 ts) (a_stage m nest counts (λ r. more_stages m nest r.0 (ss ++ r.1 ∷ []) k))
        by [] said = cc
        by (t ∷ ts) said = rw said refl

    pub more_ends : (us : List Lexeme) → says (codes ";") (form ts) ≡ false → us ≡ ts → reading ts (more_stages m nest counts ss k) ≡ reading us (token (codes "}") (k (counts, pipe ss)))
    more_ends us said is = rw is (by ts said)
      where
        by : (ts : List Lexeme) → says (codes ";") (form ts) ≡ false → reading ts (more_stages m nest counts ss k) ≡ reading ts (token (codes "}") (k (counts, pipe ss)))
        by [] said = refl
        by (t ∷ ts) said = rw said refl
