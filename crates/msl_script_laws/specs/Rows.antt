-- Scripts of the worked examples.
use Rattle.std.specs.Prelude.{ℕ, List, [], ◌∷◌, ◌++◌, codes}
use Rattle.msl_ops.specs.declared.op.OpKind.TheVariants.{Sum}
use Rattle.msl_fun.specs.declared.expr.BinOp.TheVariants.{Mul}
use Rattle.msl_fun.specs.declared.expr.Expr.TheVariants.{Slot}
use Rattle.msl_fun.specs.declared.funs.Fun.{Fun}
use Rattle.msl_fun.specs.Shapes.{binary}
use Rattle.msl_program.specs.declared.data.DataStep.TheVariants as step
use Rattle.msl_program.specs.declared.script.ItemKind.TheVariants as item
use Rattle.msl_program.specs.Script.{Script}
use Rattle.msl_program.specs.declared.stage.Stage.TheVariants.{Atomic, Data}
use Rattle.msl_ops.specs.Operators.{op_of}

-- fun sq(x) = x * x;
abbrev pub square : Fun
square = record { name = codes "sq"; params = codes "x" ∷ []; results = binary Mul (Slot 0) (Slot 0) ∷ []; names = [] }

abbrev pub head : List ℕ
head = codes "muesli 1;\nfun sq(x) = x * x;\n"

abbrev pub squares_text : List ℕ
squares_text = head ++ codes "main = atomic sq;\n"

abbrev pub squares : Script
squares = record { version = 1; funs = square ∷ []; datas = []; filters = []; divcons = []; bnbs = []; order = item.Fun ∷ []; main = Atomic 0 }

abbrev pub sums_text : List ℕ
sums_text = codes "muesli 1;\ndata t {\n  a = array 3;\n  b = scan sum a;\n  give b;\n}\nmain = data t on 2;\n"

abbrev pub sums : Script
sums =
    record {
      version = 1;
      funs = [];
      datas = record { name = codes "t"; lines = record { name = codes "a"; step = step.Array 3 } ∷ record { name = codes "b"; step = step.Scan (op_of Sum 1) 0 } ∷ []; give = 1 } ∷ [];
      filters = [];
      divcons = [];
      bnbs = [];
      order = item.Data ∷ [];
      main = Data 0 2;
    }
