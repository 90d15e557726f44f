use Rattle.std.proofs.Common.{rules, ◌≡◌, ◌+◌, ◌<◌, ◌^◌, ℕ, ℤ, List, Option, Some, IfSome, Result, pos, [], ◌∷◌, FitsSigned, w64, arith, sym, ap, ap₂, subst, ◌∙◌, to_z, of_z, Bor, length, slice_index_or}
use Rattle.std.specs.Global.{Vec}
use Rattle.std.proofs.lemmas.Int.{to_z-of_z, to_z_pos}
use Rattle.msl_base.specs.declared.answer.Halt.{Halt}
use Rattle.msl_lists.specs.Whole.{at, at_stage, function_of}
use Rattle.msl_local.specs.declared.elements.Elements.{Elements}
use Rattle.msl_local.specs.declared.inputs.Window.{Window}
use Rattle.msl_local.specs.Parts.{flat, lengths, start}
use Rattle.msl_local.specs.Places.{others, parts_of, taken, windows_of}
use Rattle.msl_local.specs.Outcomes.{ComesTo}
use Rattle.msl_local.specs.Cells.{cells}
use Rattle.msl_local.specs.Windows.{AreFramed, begins, cols, rows}
use Rattle.msl_local.proofs.Lists.{place_within, start_alike}
use Rattle.msl_local.proofs.Windows.{begins_is}
use Rattle.msl_local.proofs.elements.Elements.outcome.Goals as goal

first_small : (w : Bor Elements) (m first k : ℕ) → m < length (parts_of w.now.inputs) → first ≡ start (parts_of w.now.inputs) m → k < slice_index_or (lengths (parts_of w.now.inputs)) m 0 → first + k < 2 ^ 60
first_small w m first k within is inside = let h = place_within (parts_of w.now.inputs) m k within inside in omega (arith, h, is, w.now.right.few)

fits_pos : (n : ℕ) → n < 2 ^ 63 → FitsSigned w64 (pos n)
fits_pos n lt = search rules

-- a number that is read from a list
read : (numbers : List ℤ) (x : ℤ) (from first k : ℕ) → FitsSigned w64 x → x ≡ at numbers (from + k) → from ≡ first → to_z w64 (of_z w64 x) ≡ at numbers (first + k)
read numbers x from first k fit e same = to_z-of_z w64 x fit ∙ e ∙ ap (λ s. at numbers (s + k)) same

module _ (w : Elements) (m first k : ℕ) (here : first ≡ start (parts_of w.inputs) m) where
  -- the element, that of the other list, and the row or the column
  mine : (x : ℤ) (a : List (Vec ℤ)) → FitsSigned w64 x → parts_of w.inputs ≡ a → x ≡ at (flat a) (start a m + k) → to_z w64 (of_z w64 x) ≡ at (flat a) (first + k)
  mine x a fit is e = read (flat a) x (start a m) first k fit e (ap (λ parts. start parts m) (sym is) ∙ sym here)

  other : (x : ℤ) (c : List (Vec ℤ)) → FitsSigned w64 x → others w.inputs ≡ c → x ≡ at (flat c) (start c m + k) → to_z w64 (of_z w64 x) ≡ at (flat c) (first + k)
  other x c fit is e =
      read (flat c) x (start c m) first k fit e (ap (λ parts. start parts m) (sym is) ∙ start_alike (parts_of w.inputs) (others w.inputs) m w.right.alike ∙ sym here)

  side : (x : ℤ) (windows : List Window) (numbers : List ℤ) → FitsSigned w64 x → windows_of w.inputs ≡ Some windows → x ≡ at numbers (begins windows m + k) → to_z w64 (of_z w64 x) ≡ at numbers (first + k)
  side x windows numbers fit is e =
      let framed : AreFramed windows (parts_of w.inputs) = subst (λ (o : Option (List Window)). IfSome o (λ v. AreFramed v (parts_of w.inputs))) is w.right.framed in
      read numbers x (begins windows m) first k fit e (begins_is windows (parts_of w.inputs) framed m ∙ sym here)

  -- the function takes these numbers
  takes : (xs : List ℤ) (r : Result ℤ Halt) → xs ≡ taken w.inputs (first + k) → ComesTo (at_stage w.stage (function_of w.u xs)) r → ComesTo (cells w (first + k)) r
  takes xs r e h = subst (λ ys. ComesTo (at_stage w.stage (function_of w.u ys)) r) e h

pub overflow_add-i : goal.overflow_add-i
overflow_add-i c = record { fits = omega (arith, first_small c.args.self c.args.m c.args.first c.args.k c.requires.within c.requires.first c.requires.inside) }

pub overflow_cast-i : goal.overflow_cast-i
overflow_cast-i c = fits_pos (c.args.first + c.args.k) (omega (arith, first_small c.args.self c.args.m c.args.first c.args.k c.requires.within c.requires.first c.requires.inside))

pub overflow_cast-i-in-ZipIndex : goal.overflow_cast-i-in-ZipIndex
overflow_cast-i-in-ZipIndex c = fits_pos (c.args.first + c.args.k) (omega (arith, first_small c.args.self c.args.m c.args.first c.args.k c.requires.within c.requires.first c.requires.inside))

pub overflow_cast-i-in-Place : goal.overflow_cast-i-in-Place
overflow_cast-i-in-Place c = fits_pos (c.args.first + c.args.k) (omega (arith, first_small c.args.self c.args.m c.args.first c.args.k c.requires.within c.requires.first c.requires.inside))

pub returns-in-Place : goal.returns-in-Place
returns-in-Place c =
    let i = c.args.first + c.args.k in
    let below = first_small c.args.self c.args.m c.args.first c.args.k c.requires.within c.requires.first c.requires.inside in
    takes c.args.self.now c.args.m c.args.first c.args.k c.requires.first _ c.apply-in-Place.result
    (ap (λ (x : ℤ). x ∷ []) (to_z_pos w64 i (omega (arith, below))) ∙ ap (λ inputs. taken inputs i) (sym c.in-Place.is)) c.apply-in-Place.ensures

pub returns-in-MapIndex : goal.returns-in-MapIndex
returns-in-MapIndex c =
    let w = c.args.self.now in
    let i = c.args.first + c.args.k in
    let below = first_small c.args.self c.args.m c.args.first c.args.k c.requires.within c.requires.first c.requires.inside in
    let y = mine w c.args.m c.args.first c.args.k c.requires.first c.element-in-MapIndex.result c.in-MapIndex.a.now (search rules) (ap parts_of c.in-MapIndex.is) c.element-in-MapIndex.ensures in
    takes w c.args.m c.args.first c.args.k c.requires.first _ c.apply-in-MapIndex.result
    (ap₂ (λ (x z : ℤ). x ∷ z ∷ []) (to_z_pos w64 i (omega (arith, below))) y ∙ ap (λ inputs. taken inputs i) (sym c.in-MapIndex.is)) c.apply-in-MapIndex.ensures

pub returns-in-Zip : goal.returns-in-Zip
returns-in-Zip c =
    let w = c.args.self.now in
    let i = c.args.first + c.args.k in
    let y = mine w c.args.m c.args.first c.args.k c.requires.first c.element-in-Zip.result c.in-Zip.a.now (search rules) (ap parts_of c.in-Zip.is) c.element-in-Zip.ensures in
    let z = other w c.args.m c.args.first c.args.k c.requires.first c.element-in-Zip-2.result c.in-Zip.c.now (search rules) (ap others c.in-Zip.is) c.element-in-Zip-2.ensures in
    takes w c.args.m c.args.first c.args.k c.requires.first _ c.apply-in-Zip.result
    (ap₂ (λ (x y : ℤ). x ∷ y ∷ []) y z ∙ ap (λ inputs. taken inputs i) (sym c.in-Zip.is)) c.apply-in-Zip.ensures

pub returns-in-ZipIndex : goal.returns-in-ZipIndex
returns-in-ZipIndex c =
    let w = c.args.self.now in
    let i = c.args.first + c.args.k in
    let below = first_small c.args.self c.args.m c.args.first c.args.k c.requires.within c.requires.first c.requires.inside in
    let y = mine w c.args.m c.args.first c.args.k c.requires.first c.element-in-ZipIndex.result c.in-ZipIndex.a.now (search rules) (ap parts_of c.in-ZipIndex.is) c.element-in-ZipIndex.ensures in
    let z = other w c.args.m c.args.first c.args.k c.requires.first c.element-in-ZipIndex-2.result c.in-ZipIndex.c.now (search rules) (ap others c.in-ZipIndex.is) c.element-in-ZipIndex-2.ensures in
    takes w c.args.m c.args.first c.args.k c.requires.first _ c.apply-in-ZipIndex.result
    (ap₂ (λ (p : ℤ) (q : List ℤ). p ∷ q) (to_z_pos w64 i (omega (arith, below))) (ap₂ (λ (x y : ℤ). x ∷ y ∷ []) y z) ∙ ap (λ inputs. taken inputs i) (sym c.in-ZipIndex.is)) c.apply-in-ZipIndex.ensures

pub returns-in-MapCell : goal.returns-in-MapCell
returns-in-MapCell c =
    let w = c.args.self.now in
    let windows = c.in-MapCell.windows.now in
    let framed = ap windows_of c.in-MapCell.is in
    let row = side w c.args.m c.args.first c.args.k c.requires.first c.cell-row.result.0 windows (rows windows) (search rules) framed c.cell-row.ensures.row in
    let col = side w c.args.m c.args.first c.args.k c.requires.first c.cell-row.result.1 windows (cols windows) (search rules) framed c.cell-row.ensures.col in
    let y = mine w c.args.m c.args.first c.args.k c.requires.first c.element-in-MapCell.result c.in-MapCell.a.now (search rules) (ap parts_of c.in-MapCell.is) c.element-in-MapCell.ensures in
    takes w c.args.m c.args.first c.args.k c.requires.first _ c.apply-in-MapCell.result
    (ap₂ (λ (p : ℤ) (q : List ℤ). p ∷ q) row (ap₂ (λ (x y : ℤ). x ∷ y ∷ []) col y) ∙ ap (λ inputs. taken inputs (c.args.first + c.args.k)) (sym c.in-MapCell.is)) c.apply-in-MapCell.ensures

pub returns-in-ZipCell : goal.returns-in-ZipCell
returns-in-ZipCell c =
    let w = c.args.self.now in
    let windows = c.in-ZipCell.windows.now in
    let framed = ap windows_of c.in-ZipCell.is in
    let row = side w c.args.m c.args.first c.args.k c.requires.first c.cell-row-in-ZipCell.result.0 windows (rows windows) (search rules) framed c.cell-row-in-ZipCell.ensures.row in
    let col = side w c.args.m c.args.first c.args.k c.requires.first c.cell-row-in-ZipCell.result.1 windows (cols windows) (search rules) framed c.cell-row-in-ZipCell.ensures.col in
    let y = mine w c.args.m c.args.first c.args.k c.requires.first c.element-in-ZipCell.result c.in-ZipCell.a.now (search rules) (ap parts_of c.in-ZipCell.is) c.element-in-ZipCell.ensures in
    let z = other w c.args.m c.args.first c.args.k c.requires.first c.element-in-ZipCell-2.result c.in-ZipCell.c.now (search rules) (ap others c.in-ZipCell.is) c.element-in-ZipCell-2.ensures in
    takes w c.args.m c.args.first c.args.k c.requires.first _ c.apply-in-ZipCell.result
    (ap₂ (λ (p : ℤ) (q : List ℤ). p ∷ q) row (ap₂ (λ (p : ℤ) (q : List ℤ). p ∷ q) col (ap₂ (λ (x y : ℤ). x ∷ y ∷ []) y z)) ∙ ap (λ inputs. taken inputs (c.args.first + c.args.k)) (sym c.in-ZipCell.is)) c.apply-in-ZipCell.ensures
