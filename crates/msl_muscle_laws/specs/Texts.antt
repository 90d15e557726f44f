-- Texts of one function, and what they are read as.
use Rattle.std.specs.Prelude.{ℕ, pos, List, [], ◌∷◌, codes, Result, Ok, Err}
use Rattle.msl_lex.specs.Computing.{lexemes}
use Rattle.msl_lex.specs.Lexemes.{Lexeme}
use Rattle.msl_lex.specs.declared.token.LexFault.{LexFault}
use Rattle.msl_lex.specs.declared.token.LexFault.TheVariants as fault
use Rattle.msl_lex.specs.declared.kind.Kind.TheVariants.{Byte, LongName, Number}
use Rattle.msl_fun.specs.declared.expr.BinOp.TheVariants.{Add, Mul, Sub, Min, Max}
use Rattle.msl_fun.specs.declared.expr.Expr.TheVariants.{Lit, Slot}
use Rattle.msl_fun.specs.declared.funs.Fun.{Fun}
use Rattle.msl_fun.specs.Shapes.{minus, opposite, binary, choice, binding}
use Rattle.msl_read.specs.Reading.{Refusal}
use Rattle.msl_fun_read.specs.Grammar.{read_fun}

abbrev pub fun_alone : Result (Fun × List Lexeme) Refusal → Result Fun Refusal
fun_alone (Ok r) = Ok r.0
fun_alone (Err e) = Err e

abbrev pub fun_of_tokens : List Fun → Result (List Lexeme) LexFault → Result Fun Refusal
fun_of_tokens funs (Ok ts) = fun_alone (read_fun funs [] ts)
fun_of_tokens funs (Err (fault.Byte at)) = Err (Byte, at)
fun_of_tokens funs (Err (fault.LongName at)) = Err (LongName, at)
fun_of_tokens funs (Err (fault.Number at)) = Err (Number, at)
fun_of_tokens funs (Err fault.NoMemory) = Err (Byte, 0)

-- the function that a text begins with, over these before it, or its first refusal; computed, for worked examples
abbrev pub fun_of_text : List Fun → List ℕ → Result Fun Refusal
fun_of_text funs text = fun_of_tokens funs (lexemes text)

-- fun f(x) = x * x;
abbrev pub square : Fun
square = record { name = codes "f"; params = codes "x" ∷ []; results = binary Mul (Slot 0) (Slot 0) ∷ []; names = [] }

-- fun f(x) = 1 - x - 2;
abbrev pub differences : Fun
differences = record { name = codes "f"; params = codes "x" ∷ []; results = binary Sub (binary Sub (Lit (pos 1)) (Slot 0)) (Lit (pos 2)) ∷ []; names = [] }

-- fun f(x) = -(-min(not (let y = x in y), max(x, if x then 1 else 2) + 3));
abbrev pub nested : Fun
nested = record {
  name = codes "f";
  params = codes "x" ∷ [];
  results = minus (minus (binary Min (opposite (binding (Slot 0) (Slot 1))) (binary Add (binary Max (Slot 0) (choice (Slot 0) (Lit (pos 1)) (Lit (pos 2)))) (Lit (pos 3))))) ∷ [];
  names = codes "y" ∷ [];
}
