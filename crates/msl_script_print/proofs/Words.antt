-- What is printed, piece by piece.
use Rattle.std.proofs.Common.{◌≡◌, ℕ, List, [], ◌∷◌, ◌++◌, map, Result, Ok, Err, OnOk, codes, refl, ap, sym, subst, ◌∙◌, append_assoc, append-nil}
use Rattle.msl_lex.specs.Printing.{Bit, bytes_of, text_of}
use Rattle.msl_fun_print.specs.FunText.{space, mark, listed}
use Rattle.msl_script_print.specs.ScriptText.{joined, spaced, closed, indented, quoted, natural, sign_of, stage_bits, all_stage_bits, in_order, item_bits, items_bits, items_of}
use Rattle.msl_program.specs.Stages.{row}
use Rattle.msl_program.specs.ScriptPromise.{Item}
use Rattle.msl_fun.specs.declared.funs.Fun.{Fun}
use Rattle.msl_program.specs.declared.script.ItemKind.{ItemKind}
use Rattle.msl_script_print.specs.declared.order.Others.{Others}
use Rattle.msl_program.specs.declared.script.Script.{Script}
use Rattle.msl_program.specs.declared.stage.Stage.{Stage}
use Rattle.msl_program.specs.declared.stage.Stage.TheVariants.{Farm, Pipe}
use Rattle.msl_script_print.specs.Words.{Prints, stages_bits, behind}
use Rattle.msl_program.proofs.StageShapes.{farm_is, pipe_is}

text_of-append : (a b : List Bit) → text_of (a ++ b) ≡ text_of a ++ text_of b
text_of-append [] b = refl
text_of-append (x ∷ a) b = ap (λ (t : List ℕ). bytes_of x ++ t) (text_of-append a b) ∙ sym (append_assoc (bytes_of x) (text_of a) (text_of b))

-- ---- one piece behind the other

pub these : {t u : List ℕ} (bits : List Bit) → u ≡ t ++ text_of bits → Prints t bits u
these bits is = record { is = is }

pub next : {t u v : List ℕ} {a b : List Bit} → Prints t a u → Prints u b v → Prints t (a ++ b) v
next {t = t} {a = a} {b = b} p q =
    record { is = q.is ∙ (ap (λ (s : List ℕ). s ++ text_of b) p.is ∙ (append_assoc t (text_of a) (text_of b) ∙ ap (λ (s : List ℕ). t ++ s) (sym (text_of-append a b)))) }

pub same_bits : {t u : List ℕ} {a b : List Bit} → b ≡ a → Prints t a u → Prints t b u
same_bits {t = t} {u = u} is p = subst (λ (bits : List Bit). Prints t bits u) (sym is) p

-- ---- parts with the same between each two of them

-- the text of parts that are left, each behind what stands between two
abbrev pub left : List Bit → List (List Bit) → List ℕ
left between [] = []
left between (p ∷ ps) = text_of between ++ (text_of p ++ left between ps)

joined_is : (between p : List Bit) (ps : List (List Bit)) → text_of (joined between (p ∷ ps)) ≡ text_of p ++ left between ps
joined_is between p [] = sym (append-nil (text_of p))
joined_is between p (q ∷ ps) =
    text_of-append p (between ++ joined between (q ∷ ps)) ∙ ap (λ (t : List ℕ). text_of p ++ t) (text_of-append between (joined between (q ∷ ps)) ∙ ap (λ (t : List ℕ). text_of between ++ t) (joined_is between q ps))

-- all parts are printed where none is left behind the first
pub all_joined : {start mid now : List ℕ} {p : List Bit} (between : List Bit) (ps : List (List Bit)) → Prints start p mid → now ++ [] ≡ mid ++ left between ps → Prints start (joined between (p ∷ ps)) now
all_joined {start = start} {now = now} {p = p} between ps first all = record {
  is =
      sym (append-nil now) ∙ (all ∙ (ap (λ (t : List ℕ). t ++ left between ps) first.is ∙ (append_assoc start (text_of p) (left between ps) ∙ ap (λ (t : List ℕ). start ++ t) (sym (joined_is between p ps)))));
}

pub listed_is : (ps : List (List Bit)) → listed ps ≡ joined (mark (codes ",") ∷ space ∷ []) ps
listed_is [] = refl
listed_is (p ∷ []) = refl
listed_is (p ∷ q ∷ ps) = ap (λ (b : List Bit). p ++ mark (codes ",") ∷ space ∷ b) (listed_is (q ∷ ps))

-- where the last step goes well, all did
pub on_ok : {A E P Q : Type 0} (r : Result A E) → OnOk r P → (P → Q) → OnOk r Q
on_ok (Ok x) h f = f h
on_ok (Err e) h f = h

-- ---- lines

-- the text of these parts on lines of their own
abbrev pub lines_text : List (List Bit) → List ℕ
lines_text [] = []
lines_text (p ∷ ps) = text_of (indented (p ∷ [])) ++ lines_text ps

lines_text_is : (ps : List (List Bit)) → text_of (indented ps) ≡ lines_text ps
lines_text_is [] = refl
lines_text_is (p ∷ ps) =
    ap (λ (t : List ℕ). 32 ∷ 32 ∷ t) (text_of-append (closed p) (indented ps) ∙ (ap (λ (t : List ℕ). text_of (closed p) ++ t) (lines_text_is ps) ∙ ap (λ (b : List Bit). text_of b ++ lines_text ps) (sym (append-nil (closed p)))))

-- all lines are printed where none is left
pub all_lines : {start now : List ℕ} (ps : List (List Bit)) → now ++ [] ≡ start ++ lines_text ps → Prints start (indented ps) now
all_lines {start = start} {now = now} ps all = record { is = sym (append-nil now) ∙ (all ∙ ap (λ (t : List ℕ). start ++ t) (sym (lines_text_is ps))) }

pub indented-append : (ps qs : List (List Bit)) → indented (ps ++ qs) ≡ indented ps ++ indented qs
indented-append [] qs = refl
indented-append (p ∷ ps) qs = ap (λ (b : List Bit). space ∷ space ∷ (closed p ++ b)) (indented-append ps qs) ∙ ap (λ (b : List Bit). space ∷ space ∷ b) (sym (append_assoc (closed p) (indented ps) (indented qs)))

-- one word more behind three
pub one_word_more : (w : Bit) (u : List Bit) (l o : Bit) → spaced ((w ∷ []) ∷ u ∷ (l ∷ []) ∷ (o ∷ []) ∷ []) ≡ spaced ((w ∷ []) ∷ u ∷ (l ∷ []) ∷ []) ++ space ∷ o ∷ []
one_word_more w u l o = ap (λ (b : List Bit). w ∷ space ∷ b) (sym (append_assoc u (space ∷ l ∷ []) (space ∷ o ∷ [])))

-- ---- stages

stages_of_row : (s : Script) (ss : List Stage) → all_stage_bits s (row ss) ≡ map (stage_bits s) ss
stages_of_row s [] = refl
stages_of_row s (st ∷ ss) = ap (λ (ps : List (List Bit)). stage_bits s st ∷ ps) (stages_of_row s ss)

pub farm_bits : (s : Script) (n : ℕ) (st : Stage) → stage_bits s (Farm n st) ≡ spaced (quoted "farm" ∷ natural n ∷ sign_of "{" ∷ stage_bits s st ∷ sign_of "}" ∷ [])
farm_bits s n st = ap (stage_bits s) (farm_is n st)

pub pipe_bits : (s : Script) (ss : List Stage) → stage_bits s (Pipe ss) ≡ spaced (quoted "pipe" ∷ sign_of "{" ∷ stages_bits s ss ∷ sign_of "}" ∷ [])
pipe_bits s ss =
    ap (stage_bits s) (pipe_is ss) ∙ ap (λ (ps : List (List Bit)). spaced (quoted "pipe" ∷ sign_of "{" ∷ joined (mark (codes ";") ∷ space ∷ []) ps ∷ sign_of "}" ∷ [])) (stages_of_row s ss)

-- ---- items

abbrev pub items_text : List Fun → List Item → List ℕ
items_text funs [] = []
items_text funs (i ∷ is) = text_of (item_bits funs i) ++ items_text funs is

items_text_is : (funs : List Fun) (is : List Item) → text_of (items_bits funs is) ≡ items_text funs is
items_text_is funs [] = refl
items_text_is funs (i ∷ is) = text_of-append (item_bits funs i) (items_bits funs is) ∙ ap (λ (t : List ℕ). text_of (item_bits funs i) ++ t) (items_text_is funs is)

-- all items are printed where none is left
all_items : {start now : List ℕ} (funs : List Fun) (is : List Item) → now ++ [] ≡ start ++ items_text funs is → Prints start (items_bits funs is) now
all_items {start = start} {now = now} funs is all = record { is = sym (append-nil now) ∙ (all ∙ ap (λ (t : List ℕ). start ++ t) (sym (items_text_is funs is))) }

-- all items of a script are printed where none of these is left
pub items_done : (s : Script) (start now : List ℕ) (funs : List Fun) (kinds : List ItemKind) (r : Others) (left : List Item) → funs ≡ s.funs → kinds ≡ s.order → behind kinds r ≡ in_order kinds s.funs s.datas s.filters s.divcons s.bnbs → left ≡ []
    → now ++ items_text funs left ≡ start ++ items_text funs (behind kinds r) → Prints start (items_bits s.funs (items_of s)) now
items_done s start now funs kinds r left same ordered is none all =
    all_items s.funs (items_of s)
    (ap (λ (js : List Item). now ++ items_text s.funs js) (sym none) ∙ (ap (λ (fs : List Fun). now ++ items_text fs left) (sym same) ∙ (all ∙ (λ i. start ++ items_text (same i) (is i))
    ∙ ap (λ (ks : List ItemKind). start ++ items_text s.funs (in_order ks s.funs s.datas s.filters s.divcons s.bnbs)) ordered)))
