-- What a name finds among rows, and that each operator has a row.
use Rattle.std.specs.Prelude.{ℕ, suc, ◌≡◌, ◌≢◌, Bool, true, false, cond, List, [], ◌∷◌, All, Contains, Some, None}
use Rattle.std.specs.Str.{bytes_eq}
use Rattle.std.proofs.Common.{refl, sym, ap, ◌∙◌, arith, true≢false}
use Rattle.std.proofs.lemmas.Bool.{false_from_ne_true}
use Rattle.std.proofs.lemmas.List.Elements.{All-nil, All-cons, All-head, All-tail}
use Rattle.std.proofs.lemmas.Slice.Eq.{bytes_eq-Decides}
use Rattle.msl_ops.specs.declared.op.OpKind.{OpKind}
use Rattle.msl_ops.specs.declared.op.OpKind.TheVariants.{Sum, Min, Max, And, Or, Xor, Gcd, AddMod, MulMod}
use Rattle.msl_ops.specs.Table.{name_of, kind_named, rows}

record IsFound (kinds : List OpKind) (name : List ℕ) (kind : OpKind) : Type 0 where
  pub contained : Contains kinds kind
  pub named : name_of kind ≡ name

found_step : (k : OpKind) (ks : List OpKind) (name : List ℕ) (kind : OpKind) → (kind_named ks name ≡ Some kind → IsFound ks name kind) → (b : Bool) → bytes_eq (name_of k) name ≡ b → cond b (Some k) (kind_named ks name) ≡ Some kind → IsFound (k ∷ ks) name kind
found_step k ks name kind later true is e =
    let same : k ≡ kind = cc in
    record { contained = (0, omega arith, same); named = ap name_of (sym same) ∙ (bytes_eq-Decides (name_of k) name).0 is }
found_step k ks name kind later false is e =
    let found = later e in
    record { contained = (suc found.contained.0, omega (arith, found.contained.1), found.contained.2); named = found.named }

found : (kinds : List OpKind) (name : List ℕ) (kind : OpKind) → kind_named kinds name ≡ Some kind → IsFound kinds name kind
found [] name kind e = cc
found (k ∷ ks) name kind e = found_step k ks name kind (found ks name kind) (bytes_eq (name_of k) name) refl e

pub found_row : (kinds : List OpKind) (name : List ℕ) (kind : OpKind) → kind_named kinds name ≡ Some kind → Contains kinds kind × (name_of kind ≡ name)
found_row kinds name kind e = let h = found kinds name kind e in (h.contained, h.named)

others_step : (k : OpKind) (ks : List OpKind) (name : List ℕ) → (kind_named ks name ≡ None → All (λ kind. name_of kind ≢ name) ks) → (b : Bool) → bytes_eq (name_of k) name ≡ b → cond b (Some k) (kind_named ks name) ≡ None → All (λ kind. name_of kind ≢ name) (k ∷ ks)
others_step k ks name later true is e = cc
others_step k ks name later false is e = All-cons (λ kind. name_of kind ≢ name) k ks (λ same. true≢false (sym ((bytes_eq-Decides (name_of k) name).1 same) ∙ is)) (later e)

-- where nothing is found, no row has the name
pub others : (kinds : List OpKind) (name : List ℕ) → kind_named kinds name ≡ None → All (λ kind. name_of kind ≢ name) kinds
others [] name e = All-nil (λ kind. name_of kind ≢ name)
others (k ∷ ks) name e = others_step k ks name (others ks name) (bytes_eq (name_of k) name) refl e

-- and the other way round
pub nothing : (kinds : List OpKind) (name : List ℕ) → All (λ kind. name_of kind ≢ name) kinds → kind_named kinds name ≡ None
nothing [] name all = refl
nothing (k ∷ ks) name all =
    let differs = All-head (λ kind. name_of kind ≢ name) k ks all in
    ap (λ b. cond b (Some k) (kind_named ks name)) (false_from_ne_true (bytes_eq (name_of k) name) (λ is. differs ((bytes_eq-Decides (name_of k) name).0 is)))
    ∙ nothing ks name (All-tail (λ kind. name_of kind ≢ name) k ks all)

pub every_row : (kind : OpKind) → Contains rows kind
every_row Sum = (0, omega arith, refl)
every_row Min = (1, omega arith, refl)
every_row Max = (2, omega arith, refl)
every_row And = (3, omega arith, refl)
every_row Or = (4, omega arith, refl)
every_row Xor = (5, omega arith, refl)
every_row Gcd = (6, omega arith, refl)
every_row AddMod = (7, omega arith, refl)
every_row MulMod = (8, omega arith, refl)
