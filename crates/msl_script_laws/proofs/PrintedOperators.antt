-- Reading goes on through printed operators.
use mathlib.Core.HLevel.{is_prop→PathP}
use Rattle.std.proofs.Common.{◌≡◌, ◌≤◌, ℕ, Bool, true, false, List, [], ◌∷◌, ◌++◌, Some, if◌then◌else◌, refl, ap, sym, subst, ◌∙◌, arith}
use Rattle.std.proofs.Props.{props}
use Rattle.std.specs.Prelude.{ℤ, pos, negsuc, ◌≤ℤ◌}
use Rattle.std.proofs.lemmas.Int.{ints}
use Rattle.msl_lex.specs.Lexemes.{word}
use Rattle.msl_lex.specs.Printing.{Bit, is_spellable}
use Rattle.msl_ops.specs.declared.op.Op.{Op}
use Rattle.msl_ops.specs.declared.op.OpKind.{OpKind}
use Rattle.msl_ops.specs.declared.op.OpKind.TheVariants.{Sum, Min, Max, And, Or, Xor, Gcd, AddMod, MulMod}
use Rattle.msl_ops.specs.Table.{greatest_modulus, kind_named, name_of, rows}
use Rattle.msl_fun_print.specs.FunText.{space, named}
use Rattle.msl_ops.specs.Operators.{has_modulus, as_modulus, op_of}
use Rattle.msl_program.specs.ProgramPromise.{IsOperator}
use Rattle.msl_grammar.specs.ScriptGrammar.{State, an_operator, with_modulus}
use Rattle.msl_script_print.specs.ScriptText.{integer, op_bits}
use Rattle.msl_script_print.specs.ScriptText as text
use Rattle.msl_script_laws.proofs.Printed.{Goes, spaced, one_token, number_goes}

-- operators of one kind and modulus
same_op : (o p : Op) → o.kind ≡ p.kind → o.modulus ≡ p.modulus → o ≡ p
same_op o p e f = λ i. record {
  kind = e i;
  modulus = f i;
  least = is_prop→PathP (λ j. pos 1 ≤ℤ f j) (λ j. hlevel props) o.least p.least i;
  most = is_prop→PathP (λ j. f j ≤ℤ greatest_modulus (e j)) (λ j. hlevel props) o.most p.most i;
}

-- the modulus is a number
record Modulus (op : Op) : Type 0 where
  number : ℕ
  is : op.modulus ≡ pos number
  least : 1 ≤ number
  most : pos number ≤ℤ greatest_modulus op.kind

modulus : (op : Op) → Modulus op
modulus op = by op.modulus refl
  where
    by : (z : ℤ) → op.modulus ≡ z → Modulus op
    by (pos v) is = record { number = v; is = is; least = omega (arith, ints, op.least); most = subst (λ z. z ≤ℤ greatest_modulus op.kind) is op.most }
    by (negsuc v) is = absurd (omega (arith, ints, op.least))

-- an operator without a modulus
plain : (k : OpKind) → has_modulus k ≡ false → (op : Op) → op.kind ≡ k → op.modulus ≡ pos 1 → op_of k 1 ≡ op
plain Sum h op e f = same_op _ op (sym e) (sym f)
plain Min h op e f = same_op _ op (sym e) (sym f)
plain Max h op e f = same_op _ op (sym e) (sym f)
plain And h op e f = same_op _ op (sym e) (sym f)
plain Or h op e f = same_op _ op (sym e) (sym f)
plain Xor h op e f = same_op _ op (sym e) (sym f)
plain Gcd h op e f = same_op _ op (sym e) (sym f)
plain AddMod h op e f = cc
plain MulMod h op e f = cc

name_found : (o : OpKind) → kind_named rows (name_of o) ≡ Some o
name_found Sum = refl
name_found Min = refl
name_found Max = refl
name_found And = refl
name_found Or = refl
name_found Xor = refl
name_found Gcd = refl
name_found AddMod = refl
name_found MulMod = refl

name_spelt : (o : OpKind) → is_spellable (word (name_of o)) ≡ true
name_spelt Sum = refl
name_spelt Min = refl
name_spelt Max = refl
name_spelt And = refl
name_spelt Or = refl
name_spelt Xor = refl
name_spelt Gcd = refl
name_spelt AddMod = refl
name_spelt MulMod = refl

-- the greatest modulus of an operator with one, and the operator of a modulus
with_greatest : (o : OpKind) (v : ℕ) → has_modulus o ≡ true → pos v ≤ℤ greatest_modulus o → v ≤ 1000000000000000000
with_greatest AddMod v h most = omega (arith, ints)
with_greatest MulMod v h most = omega (arith, ints)
with_greatest Sum v h most = cc
with_greatest Min v h most = cc
with_greatest Max v h most = cc
with_greatest And v h most = cc
with_greatest Or v h most = cc
with_greatest Xor v h most = cc
with_greatest Gcd v h most = cc

as_it_is : (v : ℕ) → 1 ≤ v → v ≤ 1000000000000000000 → as_modulus v ≡ v
as_it_is v least most = omega arith

modular : (o : OpKind) (v : ℕ) → has_modulus o ≡ true → 1 ≤ v → v ≤ 1000000000000000000 → (op : Op) → op.kind ≡ o → op.modulus ≡ pos v → op_of o v ≡ op
modular AddMod v h least most op e f = same_op _ op (sym e) (ap pos (as_it_is v least most) ∙ sym f)
modular MulMod v h least most op e f = same_op _ op (sym e) (ap pos (as_it_is v least most) ∙ sym f)
modular Sum v h least most op e f = cc
modular Min v h least most op e f = cc
modular Max v h least most op e f = cc
modular And v h least most op e f = cc
modular Or v h least most op e f = cc
modular Xor v h least most op e f = cc
modular Gcd v h least most op e f = cc

module _ (k : Op → State) (t : State) (bits : List Bit) (op : Op) (h : Goes (k op) (space ∷ bits) t) where
  by_modulus : (b : Bool) → has_modulus op.kind ≡ b → IsOperator op → Goes (with_modulus b op.kind k) ((if b then space ∷ integer op.modulus else []) ++ space ∷ bits) t
  by_modulus false none is = subst (λ (o : Op). Goes (k o) (space ∷ bits) t) (sym (plain op.kind none op refl (is none))) h
  by_modulus true has is =
      let m = modulus op in
      let most = with_greatest op.kind m.number has m.most in
      let last : Goes (k (op_of op.kind m.number)) (space ∷ bits) t = subst (λ (o : Op). Goes (k o) (space ∷ bits) t) (sym (modular op.kind m.number has m.least most op refl m.is)) h in
      subst (λ (z : ℤ). Goes (with_modulus true op.kind k) (space ∷ (integer z ++ space ∷ bits)) t) (sym m.is) (spaced (number_goes refl (m.least, most) refl last))

  begun : (b : Bool) → has_modulus op.kind ≡ b → Goes (with_modulus b op.kind k) ((if b then space ∷ integer op.modulus else []) ++ space ∷ bits) t
      → Goes (an_operator k) ((if b then text.spaced ((named (name_of op.kind) ∷ []) ∷ integer op.modulus ∷ []) else named (name_of op.kind) ∷ []) ++ space ∷ bits) t
  begun false is g = one_token (with_modulus false op.kind k) (name_spelt op.kind) refl (λ at end ts. rw (name_found op.kind, is) refl) g
  begun true is g = one_token (with_modulus true op.kind k) (name_spelt op.kind) refl (λ at end ts. rw (name_found op.kind, is) refl) g

  pub operator_goes : IsOperator op → Goes (an_operator k) (op_bits op ++ space ∷ bits) t
  operator_goes is = begun (has_modulus op.kind) refl (by_modulus (has_modulus op.kind) refl is)
