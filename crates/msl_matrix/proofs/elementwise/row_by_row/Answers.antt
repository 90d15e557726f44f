use Rattle.std.proofs.Common.{◌≡◌, ℤ, List, sym, subst, ap, ap₂, ◌∙◌}
use Rattle.msl_lists.specs.Whole.{Extent, function_of, zip_all, zip_cells}
use Rattle.msl_matrix.specs.declared.cells.Cells.{Cells}
use Rattle.msl_matrix.specs.Cells.{first, whole}
use Rattle.msl_matrix.specs.Grids.{extent_of}
use Rattle.msl_matrix.specs.Matrices.{ComesMatrix, Matrix}
use Rattle.msl_matrix.proofs.Taken.{comes_same}
use Rattle.msl_matrix.proofs.elementwise.row_by_row.Goals as goal

pub returns-in-Zip : goal.returns-in-Zip
returns-in-Zip c =
    let f = function_of c.args.u.now in
    let stage = c.args.stage in
    let r = c.in_one_block-in-Zip.result in
    let a = c.in-Zip.field-0.now in
    let d = c.in-Zip.c.now in
    let first_is : c.first-2.result.now ≡ a = c.first-2.ensures ∙ ap first c.in-Zip.is in
    let one : c.in_ok-a.a.elements ≡ a.elements = ap (λ (d : Matrix). d.elements) c.in_ok-a.ensures ∙ ap (λ (d : Matrix). d.elements) first_is in
    let two : c.in_ok-c-in-Zip.c.elements ≡ d.elements = ap (λ (d : Matrix). d.elements) c.in_ok-c-in-Zip.ensures in
    let shape : extent_of c.shape-shape.result ≡ a.extent = c.shape-shape.ensures.extent ∙ ap (λ (d : Matrix). d.extent) (c.first.ensures ∙ ap first c.in-Zip.is) in
    subst (λ (k : Cells). ComesMatrix (first k).extent (whole f stage k) r) (sym c.in-Zip.is)
    (comes_same a.extent (extent_of c.shape-shape.result) (zip_all f stage a.elements d.elements) (zip_all f stage c.in_ok-a.a.elements c.in_ok-c-in-Zip.c.elements) r shape
    (ap₂ (λ (x y : List ℤ). zip_all f stage x y) one two) c.in_one_block-in-Zip.ensures)

pub returns : goal.returns
returns c =
    let f = function_of c.args.u.now in
    let stage = c.args.stage in
    let r = c.in_one_block-in-ZipIndex.result in
    let a = c.in-ZipIndex.field-0.now in
    let d = c.in-ZipIndex.c.now in
    let first_is : c.first-2.result.now ≡ a = c.first-2.ensures ∙ ap first c.in-ZipIndex.is in
    let one : c.in_ok-a.a.elements ≡ a.elements = ap (λ (d : Matrix). d.elements) c.in_ok-a.ensures ∙ ap (λ (d : Matrix). d.elements) first_is in
    let two : c.in_ok-c-in-ZipIndex.c.elements ≡ d.elements = ap (λ (d : Matrix). d.elements) c.in_ok-c-in-ZipIndex.ensures in
    let shape : extent_of c.shape-shape.result ≡ a.extent = c.shape-shape.ensures.extent ∙ ap (λ (d : Matrix). d.extent) (c.first.ensures ∙ ap first c.in-ZipIndex.is) in
    let cols : c.in_ok-a.a.extent.cols ≡ a.extent.cols = ap (λ (d : Matrix). d.extent.cols) c.in_ok-a.ensures ∙ ap (λ (e : Extent). e.cols) c.in_one-one.ensures ∙ ap (λ (e : Extent). e.cols) shape in
    subst (λ (k : Cells). ComesMatrix (first k).extent (whole f stage k) r) (sym c.in-ZipIndex.is)
    (comes_same a.extent (extent_of c.shape-shape.result) (zip_cells f stage a.extent.cols a.elements d.elements)
    (zip_cells f stage c.in_ok-a.a.extent.cols c.in_ok-a.a.elements c.in_ok-c-in-ZipIndex.c.elements) r shape
    (ap (λ n. zip_cells f stage n c.in_ok-a.a.elements c.in_ok-c-in-ZipIndex.c.elements) cols ∙ ap₂ (λ (x y : List ℤ). zip_cells f stage a.extent.cols x y) one two) c.in_one_block-in-ZipIndex.ensures)
