-- Parts with commas between them, as the first part and what is behind it.
use Rattle.std.proofs.Common.{◌≡◌, List, [], ◌∷◌, ◌++◌, codes, refl, sym, append-nil}
use Rattle.msl_lex.specs.Printing.{Bit}
use Rattle.msl_fun_print.specs.FunText.{mark, space, listed}

-- what is behind the first part
abbrev pub later : List (List Bit) → List Bit
later [] = []
later (p ∷ ps) = mark (codes ",") ∷ space ∷ listed (p ∷ ps)

pub listed_is : (p : List Bit) (ps : List (List Bit)) → listed (p ∷ ps) ≡ p ++ later ps
listed_is p [] = sym (append-nil p)
listed_is p (q ∷ qs) = refl
