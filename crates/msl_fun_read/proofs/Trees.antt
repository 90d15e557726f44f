-- Lists of trees.
use Rattle.std.proofs.Common.{◌≡◌, ℕ, suc, ◌+◌, one-add, max, List, [], ◌∷◌, ◌++◌, Option, Some, None, option_map, refl, ap, sym, ◌∙◌, append_assoc, IfSome, unwrap_or}
use Rattle.std.specs.Option.{option_zip}
use Rattle.msl_fun.specs.declared.expr.Expr.{Expr}
use Rattle.msl_fun.specs.Checks.{greatest, depth, greatest_depth}
use Rattle.msl_fun.specs.Shapes.{calling, row}

-- all, behind those that were found
abbrev pub behind : List Expr → Option (List Expr) → Option (List Expr)
behind es None = None
behind es (Some fs) = Some (es ++ fs)

pub behind_none : (r : Option (List Expr)) → r ≡ behind [] r
behind_none None = refl
behind_none (Some es) = refl

pub behind_one : (es : List Expr) (e : Expr) (r : Option (List Expr)) → behind es (option_map (λ fs. e ∷ fs) r) ≡ behind (es ++ e ∷ []) r
behind_one es e None = refl
behind_one es e (Some fs) = ap Some (sym (append_assoc es (e ∷ []) fs))

pub row_depth : (es : List Expr) → greatest_depth (row es) ≡ greatest depth es
row_depth [] = refl
row_depth (e ∷ es) = ap (max (depth e)) (row_depth es)

pub call_depth : (f d : ℕ) (es : List Expr) (e : Expr) → d ≡ greatest depth es → e ≡ calling f es → 1 + d ≡ depth e
call_depth f d es e h is = one-add d ∙ (ap suc (h ∙ sym (row_depth es)) ∙ ap depth (sym is))

-- three trees that are there have the depths that they say
three_there : (o p q : Option Expr) (f g h : ℕ) (w : Expr × (Expr × Expr)) → IfSome o (λ e. f ≡ depth e) → IfSome p (λ e. g ≡ depth e) → IfSome q (λ e. h ≡ depth e)
    → Some w ≡ option_zip o (option_zip p q) → (f ≡ depth w.0) × (g ≡ depth w.1.0) × (h ≡ depth w.1.1)
three_there None p q f g h w i j k e = cc
three_there (Some u) None q f g h w i j k e = cc
three_there (Some u) (Some v) None f g h w i j k e = cc
three_there (Some u) (Some v) (Some z) f g h w i j k e =
    let same : (u, (v, z)) ≡ w = ap (λ (o : Option (Expr × (Expr × Expr))). unwrap_or {T = Expr × (Expr × Expr)} o w) (sym e) in
    (i ∙ ap (λ (w : Expr × (Expr × Expr)). depth w.0) same, j ∙ ap (λ (w : Expr × (Expr × Expr)). depth w.1.0) same, k ∙ ap (λ (w : Expr × (Expr × Expr)). depth w.1.1) same)

pub three_deep : (make : Expr → Expr → Expr → Expr) → ((x y z : Expr) → depth (make x y z) ≡ suc (max (depth x) (max (depth y) (depth z)))) → (o p q : Option Expr) (f g h m n : ℕ) (w : Expr × (Expr × Expr)) (r : Option (Expr × Expr)) (e : Expr)
    → IfSome o (λ e. f ≡ depth e) → IfSome p (λ e. g ≡ depth e) → IfSome q (λ e. h ≡ depth e) → r ≡ option_zip p q → Some w ≡ option_zip o r → m ≡ max g h → n ≡ max f m → e ≡ make w.0 w.1.0 w.1.1 → 1 + n ≡ depth e
three_deep make law o p q f g h m n w r e i j k s t a b is =
    let d = three_there o p q f g h w i j k (t ∙ ap (option_zip o) s) in
    rw (is, law w.0 w.1.0 w.1.1, b, a, d.0, d.1, d.2) (one-add (max (depth w.0) (max (depth w.1.0) (depth w.1.1))))
