-- A task, as contracts see it.
use Rattle.std.specs.Prelude.{ℕ, List, Option, Some, None, IfSome}
use Rattle.msl_base.specs.declared.limits.TheConstants.{MOST_MEMBERS}
use Rattle.msl_base.specs.declared.answer.Answer.{Answer}
use Rattle.msl_base.specs.declared.answer.Answer.TheVariants as answer
use Rattle.msl_base.specs.declared.answer.Halt.{Halt}
use Rattle.msl_base.specs.declared.answer.Halt.TheVariants as halt
use Rattle.msl_base.specs.Records.{Kept}
use Rattle.std.specs.Prelude.{Result, Ok, Err}
use Rattle.msl_fun.specs.declared.funs.Fun.{Fun}
use Rattle.msl_program.specs.declared.script.BnbSpec.{BnbSpec}
use Rattle.msl_program.specs.Promises.{DivConFits, SearchFits}
use Rattle.msl_program.specs.ProgramPromise.{IsBetween, ProgramFits}
use Rattle.msl_line.specs.Duties.{Duty, function, program, division, search, first_search}
use Rattle.msl_line.specs.declared.how.How.{How}
use Rattle.msl_line.specs.Lines.{in_turn_else}
use Rattle.msl_line.specs.declared.task.Task.TheInside.{Inside}
use Rattle.msl_line.specs.declared.task.Work.{Work}
use Rattle.msl_line.specs.declared.task.Work.TheVariants.{Atomic, Data, Division, Search}

-- a pool gives any best answer, and a search without one that of `seq`
abbrev pub search_by : Option ℕ → ℕ → List Fun → BnbSpec → Duty
search_by None k funs b = first_search k funs b
search_by (Some members) k funs b = search k funs b

-- the members of a pool, where not all is done in turn
abbrev pub is_by_pool : {R : Type 0} → How R → ℕ → Option ℕ
is_by_pool how members = in_turn_else how None (Some members)

abbrev pub IsPool : Option ℕ → Type 0
IsPool pool = IfSome pool (λ members. IsBetween 1 MOST_MEMBERS members)

abbrev pub duty_of : Inside → Duty
duty_of t = elim t.work [ Atomic f ↦ function t.stage f.funs.now f.at | Data p ↦ program t.stage p.funs.now p.prog.now | Division d ↦ division t.stage d.funs.now d.spec.now | Search b ↦ search_by b.pool t.stage b.funs.now b.spec.now ]

abbrev pub IsReady : Work → Type 0
IsReady (Atomic f) = Unit {0}
IsReady (Data p) = ProgramFits p.funs.now p.prog.now × IsBetween 1 MOST_MEMBERS p.members
IsReady (Division d) = DivConFits d.funs.now d.spec.now × IsPool d.pool
IsReady (Search b) = SearchFits b.funs.now b.spec.now × IsPool b.pool

-- the answer that a record and a halt tell
abbrev pub answered : {A B : Type 0} → Result A B → Kept → Halt → Answer
answered (Ok a) x why = answer.Rec x
answered (Err b) x (halt.Fault f) = answer.Fault f
answered (Err b) x halt.NoMemory = answer.NoMemory
