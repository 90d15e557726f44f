-- What is printed, and what stands between two blanks.
use Rattle.std.specs.Prelude.{◌≡◌, ℕ, List, [], ◌∷◌, ◌++◌, map, codes}
use Rattle.msl_lex.specs.Printing.{Bit, text_of}
use Rattle.msl_base.specs.Names as names
use Rattle.msl_fun_print.specs.FunText.{space, named, mark}
use Rattle.msl_program.specs.declared.data.DataLine.{DataLine}
use Rattle.msl_program.specs.declared.script.ItemKind.{ItemKind}
use Rattle.msl_program.specs.declared.script.Script.{Script}
use Rattle.msl_program.specs.declared.stage.Stage.{Stage}
use Rattle.msl_script_print.specs.declared.order.ItemRef.{ItemRef}
use Rattle.msl_script_print.specs.declared.order.ItemRef.TheVariants as ref
use Rattle.msl_script_print.specs.declared.order.Others.{Others}
use Rattle.msl_script_print.specs.declared.printer.Word.{Word}
use Rattle.msl_script_print.specs.declared.printer.Word.TheVariants.{Text, Number, Integer}
use Rattle.msl_program.specs.ScriptPromise.{Item, fun_item, data_item, filter_item, divcon_item, bnb_item}
use Rattle.msl_script_print.specs.ScriptText.{natural, integer, name_at, line_end, indented, joined, spaced, quoted, sign_of, closed, number_bits, stage_bits, in_order}

-- a text with these bits behind it
pub record Prints (before : List ℕ) (bits : List Bit) (text : List ℕ) : Type 0 where
  pub is : text ≡ before ++ text_of bits

abbrev pub word_bits : Word → List Bit
word_bits (Text w) = named w.now ∷ []
word_bits (Number n) = natural n
word_bits (Integer z) = integer z

-- the first line of a definition
abbrev pub opening : names.Text → names.Text → List Bit
opening word name = named word ∷ space ∷ named name ∷ space ∷ mark (codes "{") ∷ line_end ∷ []

-- a clause that names the function at a place
abbrev pub function_clause : List names.Text → names.Text → ℕ → List Bit
function_clause funs word f = indented (((named word ∷ []) ++ space ∷ name_at funs f) ∷ [])

abbrev pub names_in : List DataLine → List names.Text
names_in lines = map (λ l. l.name) lines

abbrev pub stages_bits : Script → List Stage → List Bit
stages_bits s stages = joined (mark (codes ";") ∷ space ∷ []) (map (stage_bits s) stages)

-- a definition and how many members work on it
abbrev pub members : names.Text → List names.Text → ℕ → ℕ → List Bit
members word ns d on = spaced ((named word ∷ []) ∷ name_at ns d ∷ quoted "on" ∷ natural on ∷ [])

-- ---- items

abbrev pub item_at : ItemRef → Item
item_at (ref.Fun f) = fun_item f.now
item_at (ref.Data d) = data_item d.now
item_at (ref.Filter f) = filter_item f.now
item_at (ref.DivCon d) = divcon_item d.now
item_at (ref.Bnb b) = bnb_item b.now

-- the items of these kinds, from those that are still to come
abbrev pub behind : List ItemKind → Others → List Item
behind ks r = in_order ks r.funs.now r.datas.now r.filters.now r.divcons.now r.bnbs.now

abbrev pub headline : ℕ → List Bit
headline version = closed (number_bits "muesli" version)

abbrev pub mainline : Script → List Bit
mainline s = closed (spaced (quoted "main" ∷ sign_of "=" ∷ stage_bits s s.main ∷ []))
