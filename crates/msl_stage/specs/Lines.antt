-- What a line of steps makes of a stream, from its present state on.
--     AnyOf one ws x r        one of the workers may make r of the record x
--     StepRuns one funs s X Y     Y is a stream that the step may make of the stream X
--     LineRuns one funs ss X Y    the same of steps one behind the other
-- `one` is the relation of the workers' type.
use Rattle.std.specs.Prelude.{◌≡◌, ◌≤◌, List, [], ◌∷◌, length, Result, Ok, ◌⊎◌}
use Rattle.msl_base.specs.Streams.{Record, Outcome, Stream, Pointwise, Unordered}
use Rattle.msl_fun.specs.declared.funs.Fun.{Fun}
use Rattle.msl_base.specs.declared.fault.Fault.{Fault}
use Rattle.msl_program.specs.Filters.{filtered_from, flushed}
use Rattle.msl_program.specs.Promises.{FilterFits}
use Rattle.msl_stage.specs.declared.step.Step.{Step}
use Rattle.msl_stage.specs.declared.step.Step.TheVariants.{One, Filter, Farm}

module _ {O : Type 0} (one : O → Record → Outcome → Type 0) where
  abbrev pub AnyOf : List O → Record → Outcome → Type 0
  AnyOf [] x r = ⊥
  AnyOf (w ∷ ws) x r = one w x r ⊎ AnyOf ws x r

  module _ (funs : List Fun) where
    -- a filter goes on from its state
    abbrev pub StepRuns : Step O → Stream → Stream → Type 0
    StepRuns (One w) X Y = Pointwise (one w) X Y
    StepRuns (Filter f) X Y = Y ≡ filtered_from funs f.spec.now f.stage f.state X.records X.ending
    StepRuns (Farm ws) X Y = Unordered (AnyOf ws) X Y

    -- the output of each step is the input of the next
    abbrev pub LineRuns : List (Step O) → Stream → Stream → Type 0
    LineRuns [] X Y = Y ≡ X
    LineRuns (s ∷ ss) X Y = (Z : Stream) × StepRuns s X Z × LineRuns ss Z Y

    -- a step that can be run: a filter fits the functions, and a farm has a worker
    abbrev pub IsStep : Step O → Type 0
    IsStep (One w) = Unit {0}
    IsStep (Filter f) = FilterFits funs f.spec.now × (length f.state ≡ length f.spec.now.state)
    IsStep (Farm ws) = 1 ≤ length ws

    abbrev pub AreSteps : List (Step O) → Type 0
    AreSteps [] = Unit {0}
    AreSteps (s ∷ ss) = IsStep s × AreSteps ss

-- what a step gives at the end of a whole stream
abbrev pub flush_of : {O : Type 0} → List Fun → Step O → Result (List Record) Fault
flush_of funs (One w) = Ok []
flush_of funs (Filter f) = flushed funs f.spec.now f.stage f.state
flush_of funs (Farm ws) = Ok []
