-- The parts of a stage, by the variants of the code.
use Rattle.std.proofs.Common.{◌≡◌, Bool, true, ℕ, List, [], ◌∷◌, length, drop, refl, sym, ap, subst}
use Rattle.std.proofs.Math.ListN.{drop_of_length-le}
use Rattle.std.specs.Prelude.{◌≤◌}
use Rattle.msl_program.specs.Script.{Script}
use Rattle.msl_program.specs.declared.stage.Stage.{Stage}
use Rattle.msl_program.specs.declared.stage.Stage.TheVariants.{Farm, Pipe}
use Rattle.msl_program.specs.Stages.{row, primitives_of, primitives_in}
use Rattle.msl_program.specs.Fitting.{Fits, AllFit}
use Rattle.msl_program.proofs.StageShapes.{farm_is, pipe_is}
use Rattle.msl_stage.specs.declared.step.Step.{Step}
use Rattle.msl_line.specs.declared.how.How.{How}
use Rattle.msl_line.specs.Duties.{Duty}
use Rattle.msl_line.specs.Lines.{duties_of, duties_in, farm_step, IsLineOf, IsLineThrough}

pub primitives-farm : (n : ℕ) (st : Stage) → primitives_of (Farm n st) ≡ primitives_of st
primitives-farm n st = ap primitives_of (farm_is n st)

pub primitives-pipe : (sts : List Stage) → primitives_of (Pipe sts) ≡ primitives_in (row sts)
primitives-pipe sts = ap primitives_of (pipe_is sts)

pub fits-farm : (s : Script) (b : Bool) (n : ℕ) (st : Stage) → Fits s b (Farm n st) → Fits s true st
fits-farm s b n st h = subst (Fits s b) (farm_is n st) h

pub fits-pipe : (s : Script) (b : Bool) (sts : List Stage) → Fits s b (Pipe sts) → AllFit s b (row sts)
fits-pipe s b sts h = subst (Fits s b) (pipe_is sts) h

pub duties-farm : {R : Type 0} (how : How R) (s : Script) (k n : ℕ) (st : Stage) → duties_of how s k (Farm n st) ≡ duties_of how s k st
duties-farm how s k n st = ap (duties_of how s k) (farm_is n st)

pub duties-pipe : {R : Type 0} (how : How R) (s : Script) (k : ℕ) (sts : List Stage) → duties_of how s k (Pipe sts) ≡ duties_in how s k (row sts)
duties-pipe how s k sts = ap (duties_of how s k) (pipe_is sts)

-- ---- no stage is left

pub none_primitive : (sts : List Stage) (k : ℕ) → length sts ≤ k → primitives_in (row (drop k sts)) ≡ 0
none_primitive sts k h = ap (λ (ss : List Stage). primitives_in (row ss)) (drop_of_length-le sts h)

pub none_left : {R : Type 0} (how : How R) (s : Script) (k : ℕ) (sts : List Stage) (i : ℕ) → length sts ≤ i → duties_in how s k (row (drop i sts)) ≡ []
none_left how s k sts i h = ap (λ (ss : List Stage). duties_in how s k (row ss)) (drop_of_length-le sts h)

-- ---- their lines

pub line-farm : {R : Type 0} (how : How R) (s : Script) (k n : ℕ) (st : Stage) → IsLineOf how s k (Farm n st) (farm_step how n (duties_of how s k st) ∷ [])
line-farm how s k n st = subst (λ (t : Stage). IsLineOf how s k t (farm_step how n (duties_of how s k st) ∷ [])) (sym (farm_is n st)) refl

pub line-pipe : {R : Type 0} (how : How R) (s : Script) (k : ℕ) (sts : List Stage) (ss : List (Step (List Duty))) → IsLineThrough how s k (row sts) ss → IsLineOf how s k (Pipe sts) ss
line-pipe how s k sts ss h = subst (λ (t : Stage). IsLineOf how s k t ss) (sym (pipe_is sts)) h

pub none_through : {R : Type 0} (how : How R) (s : Script) (k : ℕ) (sts : List Stage) (i : ℕ) → length sts ≤ i → IsLineThrough how s k (row (drop i sts)) []
none_through how s k sts i h = subst (λ (ss : List Stage). IsLineThrough how s k (row ss) []) (sym (drop_of_length-le sts h)) refl
