use Rattle.std.proofs.Common.{sym, ap, length, arith}
use Rattle.msl_base.proofs.Names.{place_within}
use Rattle.msl_fun.proofs.Ranks.{few}
use Rattle.msl_fun.specs.declared.funs.Fun.{Fun}
use Rattle.msl_fun.proofs.funs.Funs.find.Goals as goal

pub overflow_cast-result : goal.overflow_cast-result
overflow_cast-result c = omega (arith, place_within (λ (f : Fun). f.name) c.as_slice.result.now c.args.name.now c.in_ok-at.at (sym c.in_ok-at.ensures), few c.args.self.now c.as_slice.ensures.funs, ap length c.as_slice.ensures.list)
