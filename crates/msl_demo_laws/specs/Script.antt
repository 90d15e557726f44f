-- The script of the demonstration, by its parts.
use Rattle.std.specs.Prelude.{[], ◌∷◌, codes}
use Rattle.msl_ops.specs.declared.op.OpKind.TheVariants.{Sum}
use Rattle.msl_ops.specs.Operators.{op_of}
use Rattle.msl_fun.specs.declared.expr.BinOp.TheVariants.{Add, Sub, Mul}
use Rattle.msl_fun.specs.declared.expr.Expr.TheVariants.{Slot}
use Rattle.msl_fun.specs.declared.funs.Fun.{Fun}
use Rattle.msl_fun.specs.Shapes.{binary}
use Rattle.msl_program.specs.declared.data.DataProg.{DataProg}
use Rattle.msl_program.specs.declared.data.DataStep.TheVariants.{Array, Scan}
use Rattle.msl_program.specs.declared.script.ItemKind.TheVariants as item
use Rattle.msl_program.specs.declared.stage.Stage.TheVariants.{Atomic, Data}
use Rattle.msl_program.specs.Script.{Script}
use Rattle.msl_program.specs.Stages.{farm, pipe}

-- fun mix(a, b) = [a + b, a * b, a - b];
abbrev pub mix : Fun
mix =
    record {
      name = codes "mix";
      params = codes "a" ∷ codes "b" ∷ [];
      results = binary Add (Slot 0) (Slot 1) ∷ binary Mul (Slot 0) (Slot 1) ∷ binary Sub (Slot 0) (Slot 1) ∷ [];
      names = [];
    }

-- the running sums of a record
abbrev pub tot : DataProg
tot =
    record {
      name = codes "tot";
      lines = record { name = codes "a"; step = Array 2 } ∷ record { name = codes "s"; step = Scan (op_of Sum 1) 0 } ∷ [];
      give = 1;
    }

abbrev pub demo_script : Script
demo_script =
    record {
      version = 1;
      funs = mix ∷ [];
      datas = tot ∷ [];
      filters = [];
      divcons = [];
      bnbs = [];
      order = item.Fun ∷ item.Data ∷ [];
      main = pipe (farm 2 (Atomic 0) ∷ Data 0 1 ∷ []);
    }
