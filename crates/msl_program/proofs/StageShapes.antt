-- The shapes of the definitions are the variants of the code.
use Rattle.std.proofs.Common.{◌≡◌, ℕ, List, [], ◌∷◌, refl, ap}
use Rattle.msl_program.specs.declared.stage.Stage.{Stage, more_of-Stage}
use Rattle.msl_program.specs.declared.stage.Stage.TheVariants.{Farm, Pipe, Pipe'}
use Rattle.msl_program.specs.declared.stage.Stage.TheBlock as block
use Rattle.msl_program.specs.Stages.{farm, pipe}

pub farm_is : (n : ℕ) (s : Stage) → Farm n s ≡ farm n s
unfolding block.shape-the_row-Stage-0 block.hidden-the_row-Stage-0 denote.Hole.Carrier.hidden
farm_is n s = refl

-- a pipe with one more stage in front
one_more : Stage → Stage → Stage
one_more s (Pipe' shape stages) = Pipe' (tt ∷ shape) (more_of-Stage s stages)
one_more s t = t

pub pipe_is : (ss : List Stage) → Pipe ss ≡ pipe ss
unfolding block.shape-the_row-Stage-1 block.hidden-the_row-Stage-1 denote.Hole.Carrier.hidden one_more
pipe_is [] = refl
pipe_is (s ∷ ss) = ap (one_more s) (pipe_is ss)
