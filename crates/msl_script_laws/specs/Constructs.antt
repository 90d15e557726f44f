-- A script with every construct of the language.
use Rattle.std.specs.Prelude.{ℕ, pos, negsuc, List, [], ◌∷◌, codes}
use Rattle.msl_ops.specs.declared.op.OpKind.TheVariants as op
use Rattle.msl_fun.specs.declared.expr.BinOp.TheVariants.{Add, Sub, Mul, Div, Rem, Eq, Ne, Lt, Le, Gt, Ge, And, Or, Min, Max}
use Rattle.msl_fun.specs.declared.expr.Expr.{Expr}
use Rattle.msl_fun.specs.declared.expr.Expr.TheVariants.{Lit, Slot}
use Rattle.msl_fun.specs.declared.funs.Fun.{Fun}
use Rattle.msl_fun.specs.Shapes.{minus, opposite, binary, choice, binding, looping, calling}
use Rattle.msl_program.specs.declared.data.Arg.{Arg}
use Rattle.msl_program.specs.declared.data.Arg.TheVariants as arg
use Rattle.msl_program.specs.declared.data.DataLine.{DataLine}
use Rattle.msl_program.specs.declared.data.DataProg.{DataProg}
use Rattle.msl_program.specs.declared.data.DataStep.{DataStep}
use Rattle.msl_program.specs.declared.data.DataStep.TheVariants.{Array, ArrayAt, Matrix, Map, MapIndex, Zip, ZipIndex, Fold, Scan, Foldl, PermutePartition, Permute, BroadcastPartition, RotateRows, RotateCols, Transpose}
use Rattle.msl_program.specs.declared.data.UseSpec.{UseSpec}
use Rattle.msl_program.specs.declared.script.BnbSpec.{BnbSpec}
use Rattle.msl_program.specs.declared.script.DivCon.{DivCon}
use Rattle.msl_program.specs.declared.script.FilterSpec.{FilterSpec}
use Rattle.msl_program.specs.declared.script.ItemKind.TheVariants as item
use Rattle.msl_program.specs.declared.stage.Stage.{Stage}
use Rattle.msl_program.specs.declared.stage.Stage.TheVariants as stage
use Rattle.msl_ops.specs.Operators.{op_of}
use Rattle.msl_program.specs.Script.{Script}
use Rattle.msl_program.specs.Stages.{farm, pipe}

abbrev pub every_text : List ℕ
every_text =
    codes "muesli 1;\nfun f(x) = if not x then -x else 7;\nfun g(x, y) = let z = x + y in loop i below z, a = 0 in min(a, i) - max(x, f(y));\nfun h(x, y, z) = (x == y) + (x != z);\nfun k(x, y, z, u) = [((x * y) / z) % u, x < y, x <= y, x > y, x >= y, (x and y) or z];\ndata d {\n  a = array 3;\n  b = array 2 at 0 len 4;\n  m = matrix 4 6 grid 2 3 at 1;\n  c = map f a;\n  e = mapIndex g a;\n  z = zip g a c;\n  y = zipIndex h a c;\n  o1 = fold sum a;\n  o2 = scan min a;\n  o3 = fold max a;\n  o4 = scan and a;\n  o5 = fold or a;\n  o6 = scan xor a;\n  o7 = fold gcd m;\n  o8 = fold addmod 7 a;\n  o9 = scan mulmod 9 a;\n  v = foldl g o1 a;\n  w = foldl h(-3) 4 a;\n  p = permutePartition f a;\n  q = permute g(o1) a;\n  i = broadcastPartition 2 a;\n  r = rotateRows f m;\n  l = rotateCols f m;\n  t = transpose m;\n  give t;\n}\nfilter fl {\n  state -1;\n  count g;\n  item h;\n  next g;\n  flush f;\n  last g;\n}\ndivcon dv {\n  parts 2;\n  cutoff 3;\n  simple f;\n  solve f;\n  divide g;\n  combine g;\n}\nbnb bn {\n  bound f;\n  solved f;\n  value f;\n  count f;\n  branch g;\n}\nmain = pipe { farm 2 { pipe { atomic k; data d on 1 } }; filter fl; divcon dv on 2; bnb bn on 3 };\n"

-- ---- its functions

abbrev x : Expr
x = Slot 0

abbrev y : Expr
y = Slot 1

abbrev z : Expr
z = Slot 2

abbrev fun : List ℕ → List (List ℕ) → List Expr → List (List ℕ) → Fun
fun name params results names = record { name = name; params = params; results = results; names = names }

abbrev every_fun : List Fun
every_fun =
    fun (codes "f") (codes "x" ∷ []) (choice (opposite x) (minus x) (Lit (pos 7)) ∷ []) []
    ∷ fun (codes "g") (codes "x" ∷ codes "y" ∷ []) (binding (binary Add x y) (looping z (Lit (pos 0)) (binary Sub (binary Min (Slot 4) (Slot 3)) (binary Max x (calling 0 (y ∷ []))))) ∷ []) (codes "z" ∷ codes "i" ∷ codes "a" ∷ [])
    ∷ fun (codes "h") (codes "x" ∷ codes "y" ∷ codes "z" ∷ []) (binary Add (binary Eq x y) (binary Ne x z) ∷ []) []
    ∷ fun (codes "k") (codes "x" ∷ codes "y" ∷ codes "z" ∷ codes "u" ∷ []) (binary Rem (binary Div (binary Mul x y) z) (Slot 3) ∷ binary Lt x y ∷ binary Le x y ∷ binary Gt x y ∷ binary Ge x y ∷ binary Or (binary And x y) z ∷ []) []
    ∷ []

-- ---- its data program

abbrev line : List ℕ → DataStep → DataLine
line name step = record { name = name; step = step }

abbrev use_of : ℕ → List Arg → UseSpec
use_of f args = record { fun = f; args = args }

abbrev every_data : DataProg
every_data = record {
  name = codes "d";
  lines =
      line (codes "a") (Array 3)
      ∷ line (codes "b") (ArrayAt 2 0 4)
      ∷ line (codes "m") (Matrix 4 6 2 3 1)
      ∷ line (codes "c") (Map (use_of 0 []) 0)
      ∷ line (codes "e") (MapIndex (use_of 1 []) 0)
      ∷ line (codes "z") (Zip (use_of 1 []) 0 3)
      ∷ line (codes "y") (ZipIndex (use_of 2 []) 0 3)
      ∷ line (codes "o1") (Fold (op_of op.Sum 1) 0)
      ∷ line (codes "o2") (Scan (op_of op.Min 1) 0)
      ∷ line (codes "o3") (Fold (op_of op.Max 1) 0)
      ∷ line (codes "o4") (Scan (op_of op.And 1) 0)
      ∷ line (codes "o5") (Fold (op_of op.Or 1) 0)
      ∷ line (codes "o6") (Scan (op_of op.Xor 1) 0)
      ∷ line (codes "o7") (Fold (op_of op.Gcd 1) 2)
      ∷ line (codes "o8") (Fold (op_of op.AddMod 7) 0)
      ∷ line (codes "o9") (Scan (op_of op.MulMod 9) 0)
      ∷ line (codes "v") (Foldl (use_of 1 []) (arg.Number 7) 0)
      ∷ line (codes "w") (Foldl (use_of 2 (arg.Lit (negsuc 2) ∷ [])) (arg.Lit (pos 4)) 0)
      ∷ line (codes "p") (PermutePartition (use_of 0 []) 0)
      ∷ line (codes "q") (Permute (use_of 1 (arg.Number 7 ∷ [])) 0)
      ∷ line (codes "i") (BroadcastPartition 2 0)
      ∷ line (codes "r") (RotateRows (use_of 0 []) 2)
      ∷ line (codes "l") (RotateCols (use_of 0 []) 2)
      ∷ line (codes "t") (Transpose 2)
      ∷ [];
  give = 23;
}

-- ---- the others

abbrev every_filter : FilterSpec
every_filter = record { name = codes "fl"; state = negsuc 0 ∷ []; count = 1; item = 2; next = 1; flush = 0; last = 1 }

abbrev every_divcon : DivCon
every_divcon = record { name = codes "dv"; parts = 2; cutoff = 3; simple = 0; solve = 0; divide = 1; combine = 1 }

abbrev every_bnb : BnbSpec
every_bnb = record { name = codes "bn"; bound = 0; solved = 0; value = 0; count = 0; branch = 1 }

abbrev every_stage : Stage
every_stage = pipe (farm 2 (pipe (stage.Atomic 3 ∷ stage.Data 0 1 ∷ [])) ∷ stage.Filter 0 ∷ stage.DivCon 0 2 ∷ stage.Bnb 0 3 ∷ [])

abbrev pub every : Script
every =
    record {
      version = 1;
      funs = every_fun;
      datas = every_data ∷ [];
      filters = every_filter ∷ [];
      divcons = every_divcon ∷ [];
      bnbs = every_bnb ∷ [];
      order = item.Fun ∷ item.Fun ∷ item.Fun ∷ item.Fun ∷ item.Data ∷ item.Filter ∷ item.DivCon ∷ item.Bnb ∷ [];
      main = every_stage;
    }
