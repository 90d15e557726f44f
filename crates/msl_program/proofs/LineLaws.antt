-- The lines of a data program are taken one after the other.
use Rattle.std.proofs.Common.{List, [], ◌∷◌, ◌++◌, refl}
use Rattle.msl_fun.specs.declared.funs.Fun.{Fun}
use Rattle.msl_program.specs.ProgramPromise.{one_line}
use Rattle.msl_program.specs.Data.{step_on, extended}
use Rattle.msl_program.specs.RunLaws.{LinesFitInTurn, ProgramsGrowInTurn, TablesGrowInTurn}
use Rattle.msl_program.proofs.AlongLaws.{through}

pub programs_grow : ProgramsGrowInTurn
programs_grow p [] more = refl
programs_grow p (l ∷ ls) more = programs_grow (one_line p l) ls more

module _ (funs : List Fun) where
  pub lines_fit : LinesFitInTurn funs
  lines_fit p [] more h = (tt, h)
  lines_fit p (l ∷ ls) more h = let rest = lines_fit (one_line p l) ls more h.1 in ((h.0, rest.0), rest.1)

  pub tables_grow : TablesGrowInTurn funs
  tables_grow stage x t [] more = refl
  tables_grow stage x t (l ∷ ls) more =
      through (step_on funs stage x t l.step) (λ v. extended funs stage x (t ++ v ∷ []) ls) (λ u. extended funs stage x u more) (λ v. extended funs stage x (t ++ v ∷ []) (ls ++ more))
      (λ v. tables_grow stage x (t ++ v ∷ []) ls more)
