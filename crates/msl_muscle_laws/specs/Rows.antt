-- Functions of the worked examples.
use Rattle.std.specs.Prelude.{pos, List, [], ◌∷◌, codes}
use Rattle.msl_fun.specs.declared.expr.BinOp.TheVariants.{Add, Mul, Div, Lt, And, Or}
use Rattle.msl_fun.specs.declared.expr.Expr.{Expr}
use Rattle.msl_fun.specs.declared.expr.Expr.TheVariants.{Lit, Slot}
use Rattle.msl_fun.specs.declared.funs.Fun.{Fun}
use Rattle.msl_fun.specs.Shapes.{minus, opposite, binary, choice, binding, looping, calling}

-- fun g(n) = loop i below n, a = 0 in a + i;
abbrev pub sum_below : Fun
sum_below = record { name = codes "g"; params = codes "n" ∷ []; results = looping (Slot 0) (Lit (pos 0)) (binary Add (Slot 2) (Slot 1)) ∷ []; names = codes "i" ∷ codes "a" ∷ [] }

-- fun h(n) = loop i below n, a = 0 in i;
abbrev pub last_below : Fun
last_below = record { name = codes "h"; params = codes "n" ∷ []; results = looping (Slot 0) (Lit (pos 0)) (Slot 1) ∷ []; names = codes "i" ∷ codes "a" ∷ [] }

-- fun f(x) = x / 0 + 9223372036854775807 * 2;
abbrev pub by_zero : Fun
by_zero = record { name = codes "f"; params = codes "x" ∷ []; results = binary Add (binary Div (Slot 0) (Lit (pos 0))) (binary Mul (Lit (pos 9223372036854775807)) (Lit (pos 2))) ∷ []; names = [] }

-- fun b(x, y) = [x and 2 / y, not x or 2 / y];
abbrev pub shorts : Fun
shorts = record {
  name = codes "b";
  params = codes "x" ∷ codes "y" ∷ [];
  results = binary And (Slot 0) (binary Div (Lit (pos 2)) (Slot 1)) ∷ binary Or (opposite (Slot 0)) (binary Div (Lit (pos 2)) (Slot 1)) ∷ [];
  names = [];
}

-- if m < 0 then g(m + 9) else g(m), where m is the second variable
abbrev pub call_body : Expr
call_body = choice (binary Lt (Slot 1) (Lit (pos 0))) (calling 0 (binary Add (Slot 1) (Lit (pos 9)) ∷ [])) (calling 0 (Slot 1 ∷ []))

-- fun c(x) = let m = -x in if m < 0 then g(m + 9) else g(m);
abbrev pub calls : Fun
calls = record { name = codes "c"; params = codes "x" ∷ []; results = binding (minus (Slot 0)) call_body ∷ []; names = codes "m" ∷ [] }

abbrev pub funs : List Fun
funs = sum_below ∷ last_below ∷ by_zero ∷ shorts ∷ calls ∷ []
