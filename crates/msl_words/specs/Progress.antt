-- Which words may follow, by what the words before them gave.
use Rattle.std.specs.Prelude.{Bool, true, false, not, ◌&&◌, List, [], ◌∷◌, is_some, Option, Some, None}
use Rattle.msl_base.specs.Names.{Text}
use Rattle.msl_words.specs.Words.{is_option, operands, process_count, values}
use Rattle.msl_words.specs.Verbs.{takes_operand, takes_processes}
use Rattle.msl_words.specs.declared.progress.Progress.{Progress}
use Rattle.msl_words.specs.declared.progress.Stage.{Stage}
use Rattle.msl_words.specs.declared.progress.Stage.TheVariants.{Absent, Awaited, Given}
use Rattle.msl_words.specs.declared.verbs.Verb.{Verb}

-- the word is an option that may stand here
abbrev pub may_await : Verb → Stage → Text → Bool
may_await verb Absent word = is_option word && takes_processes verb
may_await verb Awaited word = false
may_await verb Given word = false

-- these values may follow, where a value was given or none
abbrev pub takes_values : Verb → Bool → List Text → Bool
takes_values verb given [] = true
takes_values verb given (value ∷ rest) =
    not given && (takes_processes verb && (is_some (process_count value) && takes_values verb true rest))

-- these operands may follow, where one was given or none
abbrev pub takes_operands : Verb → Bool → List Text → Bool
takes_operands verb given [] = given
takes_operands verb given (operand ∷ rest) = not given && (takes_operand verb operand && takes_operands verb true rest)

abbrev pub takes_rest : Verb → Bool → Bool → List Text → Bool
takes_rest verb operand value rest = takes_values verb value (values rest) && takes_operands verb operand (operands rest)

-- the first of the words is a value
abbrev pub takes_value : Verb → Bool → List Text → Bool
takes_value verb operand [] = false
takes_value verb operand (value ∷ rest) = is_some (process_count value) && takes_rest verb operand true rest

abbrev pub takes_after : Verb → Bool → Stage → List Text → Bool
takes_after verb operand Absent rest = takes_rest verb operand false rest
takes_after verb operand Awaited rest = takes_value verb operand rest
takes_after verb operand Given rest = takes_rest verb operand true rest

-- these words may follow
abbrev pub takes : Verb → Progress → List Text → Bool
takes verb progress rest = takes_after verb progress.operand progress.processes rest

-- these words may follow one that may follow
abbrev pub takes_next : Verb → Option Progress → List Text → Bool
takes_next verb None rest = false
takes_next verb (Some progress) rest = takes verb progress rest
