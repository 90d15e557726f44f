-- Operands and operators that are printed, level by level.
use Rattle.std.proofs.Common.{◌≡◌, ◌≢◌, List, drop, true, false, codes, Some, None, refl, sym, subst, ◌∙◌}
use Rattle.msl_lex.specs.Lexemes.{Form, Lexeme, sign, word}
use Rattle.msl_fun.specs.declared.expr.BinOp.{BinOp}
use Rattle.msl_fun.specs.declared.expr.BinOp.TheVariants.{Add, Sub, Mul, Div, Rem, Eq, Ne, Lt, Le, Gt, Ge, And, Or, Min, Max}
use Rattle.msl_fun.specs.declared.funs.Fun.{Fun}
use Rattle.msl_fun_read.specs.declared.parse.first.First.TheVariants as first
use Rattle.msl_fun_read.specs.declared.parse.level.Level.{Level}
use Rattle.msl_fun_read.specs.declared.parse.level.Level.TheVariants as level
use Rattle.msl_fun.specs.Shapes.{binary}
use Rattle.msl_base.specs.Names.{Text}
use Rattle.msl_read.specs.Reading.{says}
use Rattle.msl_read.specs.Front.{form}
use Rattle.msl_fun_read.specs.Grammar.{Then, Context, Tree, operand, more, grown, tighter, operator_in, over_two, first_in, reading}
use Rattle.msl_fun_print.specs.FunText.{operator, is_pair}
use Rattle.msl_fun_read.proofs.Descent.{operand_tighter, more_ends, more_goes}
use Rattle.msl_fun_read.proofs.Rules.{Reads}

-- a token is no operator of a level or of one that binds more tightly
abbrev EndsProduct : Form → Type 0
EndsProduct f = operator_in level.Product f ≡ None

abbrev EndsSum : Form → Type 0
EndsSum f = (operator_in level.Sum f ≡ None) × EndsProduct f

abbrev EndsComparison : Form → Type 0
EndsComparison f = (operator_in level.Comparison f ≡ None) × EndsSum f

abbrev EndsAnd : Form → Type 0
EndsAnd f = (operator_in level.And f ≡ None) × EndsComparison f

abbrev EndsOr : Form → Type 0
EndsOr f = (operator_in level.Or f ≡ None) × EndsAnd f

abbrev EndsAt : Level → Form → Type 0
EndsAt level.Unary f = Unit {0}
EndsAt level.Product f = EndsProduct f
EndsAt level.Sum f = EndsSum f
EndsAt level.Comparison f = EndsComparison f
EndsAt level.And f = EndsAnd f
EndsAt level.Or f = EndsOr f

abbrev pub IsOpen : Form → Type 0
IsOpen f = says (codes "(") f ≡ true

-- the token can't go on an expression
pub record Ends (f : Form) : Type 0 where
  pub closed : says (codes "(") f ≡ false
  pub quiet : EndsOr f

pub comma_ends : Ends (sign (codes ","))
comma_ends = record { closed = refl; quiet = (refl, (refl, (refl, (refl, refl)))) }

pub parenthesis_ends : Ends (sign (codes ")"))
parenthesis_ends = record { closed = refl; quiet = (refl, (refl, (refl, (refl, refl)))) }

pub bracket_ends : Ends (sign (codes "]"))
bracket_ends = record { closed = refl; quiet = (refl, (refl, (refl, (refl, refl)))) }

pub semicolon_ends : Ends (sign (codes ";"))
semicolon_ends = record { closed = refl; quiet = (refl, (refl, (refl, (refl, refl)))) }

pub then_ends : Ends (word (codes "then"))
then_ends = record { closed = refl; quiet = (refl, (refl, (refl, (refl, refl)))) }

pub else_ends : Ends (word (codes "else"))
else_ends = record { closed = refl; quiet = (refl, (refl, (refl, (refl, refl)))) }

pub in_ends : Ends (word (codes "in"))
in_ends = record { closed = refl; quiet = (refl, (refl, (refl, (refl, refl)))) }

-- ---- one operand

product : level.Product ≢ level.Unary
product = λ e. cc

sum : level.Sum ≢ level.Unary
sum = λ e. cc

comparison : level.Comparison ≢ level.Unary
comparison = λ e. cc

conjunction : level.And ≢ level.Unary
conjunction = λ e. cc

disjunction : level.Or ≢ level.Unary
disjunction = λ e. cc

module _ (funs : List Fun) (others : List Text) (c : Context) (ns ms : List Text) (t : Tree) (ts us : List Lexeme) where
  abbrev ReadsAt : Level → Type 0
  ReadsAt l = Reads funs others (operand l c ns) ts us ms t

  wider : (l : Level) → l ≢ level.Unary → operator_in l (form us) ≡ None → ReadsAt (tighter l) → ReadsAt l
  wider l some none r k = operand_tighter funs others c ns k l ts some ∙ (r (λ m a. more l c m a k) ∙ more_ends funs others c ms k l t us none)

  to_product : EndsProduct (form us) → ReadsAt level.Unary → ReadsAt level.Product
  to_product q r = wider level.Product product q r

  to_sum : EndsSum (form us) → ReadsAt level.Unary → ReadsAt level.Sum
  to_sum q r = wider level.Sum sum q.0 (to_product q.1 r)

  to_comparison : EndsComparison (form us) → ReadsAt level.Unary → ReadsAt level.Comparison
  to_comparison q r = wider level.Comparison comparison q.0 (to_sum q.1 r)

  to_and : EndsAnd (form us) → ReadsAt level.Unary → ReadsAt level.And
  to_and q r = wider level.And conjunction q.0 (to_comparison q.1 r)

  -- an operand alone
  pub alone : (l : Level) → EndsAt l (form us) → ReadsAt level.Unary → ReadsAt l
  alone level.Unary q r = r
  alone level.Product q r = to_product q r
  alone level.Sum q r = to_sum q r
  alone level.Comparison q r = to_comparison q r
  alone level.And q r = to_and q r
  alone level.Or q r = wider level.Or disjunction q.0 (to_and q.1 r)

  from_comparison : EndsOr (form us) → ReadsAt level.Comparison → ReadsAt level.Or
  from_comparison q r = wider level.Or disjunction q.0 (wider level.And conjunction q.1.0 r)

  from_sum : EndsOr (form us) → ReadsAt level.Sum → ReadsAt level.Or
  from_sum q r = from_comparison q (wider level.Comparison comparison q.1.1.0 r)

  widest : (l : Level) → EndsOr (form us) → ReadsAt l → ReadsAt level.Or
  widest level.Unary q r = alone level.Or q r
  widest level.Product q r = from_sum q (wider level.Sum sum q.1.1.1.0 r)
  widest level.Sum q r = from_sum q r
  widest level.Comparison q r = from_comparison q r
  widest level.And q r = wider level.Or disjunction q.0 r
  widest level.Or q r = r

-- ---- two operands

abbrev level_of : BinOp → Level
level_of Add = level.Sum
level_of Sub = level.Sum
level_of Mul = level.Product
level_of Div = level.Product
level_of Rem = level.Product
level_of And = level.And
level_of Or = level.Or
level_of _ = level.Comparison

-- what an operator between operands is to the first
record Stops (op : BinOp) (f : Form) : Type 0 where
  closed : says (codes "(") f ≡ false
  tight : EndsAt (tighter (level_of op)) f
  found : operator_in (level_of op) f ≡ Some op
  wide : level_of op ≢ level.Unary

stops : (op : BinOp) → is_pair op ≡ false → Stops op (operator op)
stops Add h = record { closed = refl; tight = refl; found = refl; wide = sum }
stops Sub h = record { closed = refl; tight = refl; found = refl; wide = sum }
stops Mul h = record { closed = refl; tight = tt; found = refl; wide = product }
stops Div h = record { closed = refl; tight = tt; found = refl; wide = product }
stops Rem h = record { closed = refl; tight = tt; found = refl; wide = product }
stops Eq h = record { closed = refl; tight = (refl, refl); found = refl; wide = comparison }
stops Ne h = record { closed = refl; tight = (refl, refl); found = refl; wide = comparison }
stops Lt h = record { closed = refl; tight = (refl, refl); found = refl; wide = comparison }
stops Le h = record { closed = refl; tight = (refl, refl); found = refl; wide = comparison }
stops Gt h = record { closed = refl; tight = (refl, refl); found = refl; wide = comparison }
stops Ge h = record { closed = refl; tight = (refl, refl); found = refl; wide = comparison }
stops And h = record { closed = refl; tight = (refl, (refl, refl)); found = refl; wide = conjunction }
stops Or h = record { closed = refl; tight = (refl, (refl, (refl, refl))); found = refl; wide = disjunction }
stops Min h = cc
stops Max h = cc

pub operator_closed : (op : BinOp) → is_pair op ≡ false → says (codes "(") (operator op) ≡ false
operator_closed op h = (stops op h).closed

pub pair_first : (op : BinOp) (behind : Form) → is_pair op ≡ true → first_in (operator op) behind ≡ first.Pair op
pair_first Min behind h = refl
pair_first Max behind h = refl
pair_first Add behind h = cc
pair_first Sub behind h = cc
pair_first Mul behind h = cc
pair_first Div behind h = cc
pair_first Rem behind h = cc
pair_first Eq behind h = cc
pair_first Ne behind h = cc
pair_first Lt behind h = cc
pair_first Le behind h = cc
pair_first Gt behind h = cc
pair_first Ge behind h = cc
pair_first And behind h = cc
pair_first Or behind h = cc

ends_by : (l : Level) (f : Form) → EndsOr f → operator_in l f ≡ None
ends_by level.Unary f q = refl
ends_by level.Product f q = q.1.1.1.1
ends_by level.Sum f q = q.1.1.1.0
ends_by level.Comparison f q = q.1.1.0
ends_by level.And f q = q.1.0
ends_by level.Or f q = q.0

module _ (funs : List Fun) (others : List Text) (c : Context) (k : Then) where
  grown_ends : (l : Level) (ns : List Text) (t : Tree) (ts : List Lexeme) → operator_in l (form ts) ≡ None → reading funs others ts (grown l c ns t k) ≡ reading funs others ts (k ns t)
  grown_ends level.Unary ns t ts h = more_ends funs others c ns k level.Unary t ts h
  grown_ends level.Product ns t ts h = more_ends funs others c ns k level.Product t ts h
  grown_ends level.Sum ns t ts h = more_ends funs others c ns k level.Sum t ts h
  grown_ends level.Comparison ns t ts h = refl
  grown_ends level.And ns t ts h = more_ends funs others c ns k level.And t ts h
  grown_ends level.Or ns t ts h = more_ends funs others c ns k level.Or t ts h

module _ (funs : List Fun) (others : List Text) (c : Context) (op : BinOp) (between : is_pair op ≡ false) (ns ms ls : List Text) (a b : Tree) (ts us vs : List Lexeme) where
  two : Stops op (form us) → EndsOr (form vs) → Reads funs others (operand level.Unary c ns) ts us ms a → Reads funs others (operand level.Unary c ms) (drop 1 us) vs ls b
      → Reads funs others (operand (level_of op) c ns) ts vs ls (over_two (binary op) a b)
  two s q first second k =
      let l : Level = level_of op in
      operand_tighter funs others c ns k l ts s.wide
      ∙ (alone funs others c ns ms a ts us (tighter l) s.tight first (λ m x. more l c m x k)
      ∙ (more_goes funs others c ms k l a op us s.found
      ∙ (alone funs others c ms ls b (drop 1 us) vs (tighter l) (tight l (form vs) q) second (λ m y. grown l c m (over_two (binary op) a y) k)
      ∙ grown_ends funs others c k l ls (over_two (binary op) a b) vs (ends_by l (form vs) q))))
    where
      tight : (l : Level) (f : Form) → EndsOr f → EndsAt (tighter l) f
      tight level.Unary f q = tt
      tight level.Product f q = tt
      tight level.Sum f q = q.1.1.1.1
      tight level.Comparison f q = q.1.1.1
      tight level.And f q = q.1.1
      tight level.Or f q = q.1

  -- an operator between two operands
  pub both_read : form us ≡ operator op → EndsOr (form vs) → Reads funs others (operand level.Unary c ns) ts us ms a → Reads funs others (operand level.Unary c ms) (drop 1 us) vs ls b
      → Reads funs others (operand level.Or c ns) ts vs ls (over_two (binary op) a b)
  both_read is q first second =
      widest funs others c ns ls (over_two (binary op) a b) ts vs (level_of op) q (two (subst (Stops op) (sym is) (stops op between)) q first second)
