use Rattle.std.proofs.Common.{◌≡◌, drop}
use Rattle.msl_fun_print.specs.Writing.{seen}
use Rattle.msl_fun_print.proofs.Writings.{with_more_params}
use Rattle.msl_fun_print.proofs.text.Writer.params.Given as goal

-- with those that are left, each behind a comma
abbrev pub invariant-loop-name : goal.invariant-loop-name
invariant-loop-name l = with_more_params (drop l.name-index l.others) (seen l.self) ≡ with_more_params l.others (seen l.initial.self)
