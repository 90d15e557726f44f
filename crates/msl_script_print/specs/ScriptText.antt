-- The one text of a script in its canonical form, as tokens and the blanks between them.
use Prim.Native.String.{String}
use Rattle.std.specs.Prelude.{ℕ, suc, ℤ, pos, negsuc, List, [], ◌∷◌, ◌++◌, map, slice_index_or, if◌then◌else◌, codes}
use Rattle.msl_lex.specs.Lexemes.{number}
use Rattle.msl_lex.specs.Printing.{Bit, token, blank}
use Rattle.msl_ops.specs.declared.op.Op.{Op}
use Rattle.msl_ops.specs.Table.{name_of}
use Rattle.msl_fun.specs.declared.funs.Fun.{Fun}
use Rattle.msl_base.specs.Names.{Text}
use Rattle.msl_fun.specs.Checks.{names_of}
use Rattle.msl_fun_print.specs.FunText.{space, named, mark, in_parentheses, listed, fun_bits, OpensFew}
use Rattle.msl_program.specs.declared.data.Arg.{Arg}
use Rattle.msl_program.specs.declared.data.Arg.TheVariants as arg
use Rattle.msl_program.specs.declared.data.UseSpec.{UseSpec}
use Rattle.msl_program.specs.declared.data.DataStep.{DataStep}
use Rattle.msl_program.specs.declared.data.DataStep.TheVariants.{Array, ArrayAt, Matrix, Map, MapIndex, Zip, ZipIndex, Fold, Scan, Foldl, PermutePartition, Permute, BroadcastPartition, RotateRows, RotateCols, Transpose}
use Rattle.msl_program.specs.declared.data.DataLine.{DataLine}
use Rattle.msl_program.specs.declared.data.DataProg.{DataProg}
use Rattle.msl_program.specs.declared.script.FilterSpec.{FilterSpec}
use Rattle.msl_program.specs.declared.script.DivCon as divcon
use Rattle.msl_program.specs.declared.script.BnbSpec.{BnbSpec}
use Rattle.msl_program.specs.declared.script.ItemKind.{ItemKind}
use Rattle.msl_program.specs.declared.script.ItemKind.TheVariants as kind
use Rattle.msl_program.specs.declared.script.Script.{Script}
use Rattle.msl_program.specs.declared.stage.Stage.{Stage, Row_of-Stage, end_of-Stage, more_of-Stage}
use Rattle.msl_program.specs.declared.stage.Stage.TheVariants.{Atomic, Filter, Data, DivCon, Bnb, Pipe'}
use Rattle.msl_ops.specs.Operators.{has_modulus}
use Rattle.msl_program.specs.ScriptPromise.{Item, fun_item, data_item, filter_item, divcon_item, bnb_item}
use Rattle.msl_program.specs.Stages.{farm}

-- ---- bits

abbrev pub line_end : Bit
line_end = blank 10

abbrev pub quoted : String → List Bit
quoted s = named (codes s) ∷ []

abbrev pub sign_of : String → List Bit
sign_of s = mark (codes s) ∷ []

abbrev pub natural : ℕ → List Bit
natural n = token (number n) ∷ []

abbrev pub integer : ℤ → List Bit
integer (pos n) = natural n
integer (negsuc n) = mark (codes "-") ∷ natural (suc n)

-- the name at a place
abbrev pub name_at : List Text → ℕ → List Bit
name_at names k = named (slice_index_or names k []) ∷ []

-- parts with the same between each two of them
abbrev pub joined : List Bit → List (List Bit) → List Bit
joined between [] = []
joined between (p ∷ []) = p
joined between (p ∷ q ∷ ps) = p ++ (between ++ joined between (q ∷ ps))

-- one space between words
abbrev pub spaced : List (List Bit) → List Bit
spaced = joined (space ∷ [])

-- a part on a line of its own, up to its semicolon
abbrev pub closed : List Bit → List Bit
closed p = p ++ mark (codes ";") ∷ line_end ∷ []

-- these parts after two spaces each
abbrev pub indented : List (List Bit) → List Bit
indented [] = []
indented (p ∷ ps) = space ∷ space ∷ closed p ++ indented ps

-- a definition with its clauses
abbrev pub block : String → Text → List (List Bit) → List Bit
block word name clauses = spaced (quoted word ∷ (named name ∷ []) ∷ sign_of "{" ∷ []) ++ line_end ∷ indented clauses ++ mark (codes "}") ∷ line_end ∷ []

-- ---- definitions in the order of the text

abbrev pub in_order : List ItemKind → List Fun → List DataProg → List FilterSpec → List divcon.DivCon → List BnbSpec → List Item
in_order (kind.Fun ∷ ks) (f ∷ fs) ds gs vs bs = fun_item f ∷ in_order ks fs ds gs vs bs
in_order (kind.Data ∷ ks) fs (d ∷ ds) gs vs bs = data_item d ∷ in_order ks fs ds gs vs bs
in_order (kind.Filter ∷ ks) fs ds (g ∷ gs) vs bs = filter_item g ∷ in_order ks fs ds gs vs bs
in_order (kind.DivCon ∷ ks) fs ds gs (v ∷ vs) bs = divcon_item v ∷ in_order ks fs ds gs vs bs
in_order (kind.Bnb ∷ ks) fs ds gs vs (b ∷ bs) = bnb_item b ∷ in_order ks fs ds gs vs bs
in_order _ _ _ _ _ _ = []

abbrev pub items_of : Script → List Item
items_of s = in_order s.order s.funs s.datas s.filters s.divcons s.bnbs

-- ---- steps of data programs

abbrev pub op_bits : Op → List Bit
op_bits op = if has_modulus op.kind then spaced ((named (name_of op.kind) ∷ []) ∷ integer op.modulus ∷ []) else named (name_of op.kind) ∷ []

-- over the names of the functions and of the lines
module _ (funs lines : List Text) where
  abbrev pub arg_bits : Arg → List Bit
  arg_bits (arg.Number k) = name_at lines k
  arg_bits (arg.Lit z) = integer z

  abbrev pub args_bits : List Arg → List Bit
  args_bits [] = []
  args_bits args = in_parentheses (listed (map arg_bits args))

  abbrev pub use_bits : UseSpec → List Bit
  use_bits u = name_at funs u.fun ++ args_bits u.args

  abbrev pub step_bits : DataStep → List Bit
  step_bits (Array b) = spaced (quoted "array" ∷ natural b ∷ [])
  step_bits (ArrayAt b at len) = spaced (quoted "array" ∷ natural b ∷ quoted "at" ∷ natural at ∷ quoted "len" ∷ natural len ∷ [])
  step_bits (Matrix r c gr gc at) = spaced (quoted "matrix" ∷ natural r ∷ natural c ∷ quoted "grid" ∷ natural gr ∷ natural gc ∷ quoted "at" ∷ natural at ∷ [])
  step_bits (Map u k) = spaced (quoted "map" ∷ use_bits u ∷ name_at lines k ∷ [])
  step_bits (MapIndex u k) = spaced (quoted "mapIndex" ∷ use_bits u ∷ name_at lines k ∷ [])
  step_bits (Zip u k l) = spaced (quoted "zip" ∷ use_bits u ∷ name_at lines k ∷ name_at lines l ∷ [])
  step_bits (ZipIndex u k l) = spaced (quoted "zipIndex" ∷ use_bits u ∷ name_at lines k ∷ name_at lines l ∷ [])
  step_bits (Fold op k) = spaced (quoted "fold" ∷ op_bits op ∷ name_at lines k ∷ [])
  step_bits (Scan op k) = spaced (quoted "scan" ∷ op_bits op ∷ name_at lines k ∷ [])
  step_bits (Foldl u first k) = spaced (quoted "foldl" ∷ use_bits u ∷ arg_bits first ∷ name_at lines k ∷ [])
  step_bits (PermutePartition u k) = spaced (quoted "permutePartition" ∷ use_bits u ∷ name_at lines k ∷ [])
  step_bits (Permute u k) = spaced (quoted "permute" ∷ use_bits u ∷ name_at lines k ∷ [])
  step_bits (BroadcastPartition j k) = spaced (quoted "broadcastPartition" ∷ natural j ∷ name_at lines k ∷ [])
  step_bits (RotateRows u k) = spaced (quoted "rotateRows" ∷ use_bits u ∷ name_at lines k ∷ [])
  step_bits (RotateCols u k) = spaced (quoted "rotateCols" ∷ use_bits u ∷ name_at lines k ∷ [])
  step_bits (Transpose k) = spaced (quoted "transpose" ∷ name_at lines k ∷ [])

  abbrev pub line_bits : DataLine → List Bit
  line_bits l = spaced ((named l.name ∷ []) ∷ sign_of "=" ∷ step_bits l.step ∷ [])

-- ---- definitions

abbrev pub number_bits : String → ℕ → List Bit
number_bits word n = spaced (quoted word ∷ natural n ∷ [])

module _ (funs : List Text) where
  abbrev pub data_bits : DataProg → List Bit
  data_bits d =
      let lines = map (λ l. l.name) d.lines in
      block "data" d.name (map (line_bits funs lines) d.lines ++ spaced (quoted "give" ∷ name_at lines d.give ∷ []) ∷ [])

  -- a word and the function that it names
  abbrev pub clause_bits : String → ℕ → List Bit
  clause_bits word f = spaced (quoted word ∷ name_at funs f ∷ [])

  abbrev pub filter_bits : FilterSpec → List Bit
  filter_bits f =
      block "filter" f.name
      (spaced (quoted "state" ∷ listed (map integer f.state) ∷ []) ∷ clause_bits "count" f.count ∷ clause_bits "item" f.item ∷ clause_bits "next" f.next ∷ clause_bits "flush" f.flush ∷ clause_bits "last" f.last ∷ [])

  abbrev pub divcon_bits : divcon.DivCon → List Bit
  divcon_bits d =
      block "divcon" d.name
      (number_bits "parts" d.parts ∷ number_bits "cutoff" d.cutoff ∷ clause_bits "simple" d.simple ∷ clause_bits "solve" d.solve ∷ clause_bits "divide" d.divide ∷ clause_bits "combine" d.combine ∷ [])

  abbrev pub bnb_bits : BnbSpec → List Bit
  bnb_bits b =
      block "bnb" b.name
      (clause_bits "bound" b.bound ∷ clause_bits "solved" b.solved ∷ clause_bits "value" b.value ∷ clause_bits "count" b.count ∷ clause_bits "branch" b.branch ∷ [])

abbrev pub item_bits : List Fun → Item → List Bit
item_bits funs (fun_item f) = fun_bits funs f ++ line_end ∷ []
item_bits funs (data_item d) = data_bits (names_of funs) d
item_bits funs (filter_item f) = filter_bits (names_of funs) f
item_bits funs (divcon_item d) = divcon_bits (names_of funs) d
item_bits funs (bnb_item b) = bnb_bits (names_of funs) b

abbrev pub items_bits : List Fun → List Item → List Bit
items_bits funs [] = []
items_bits funs (i ∷ is) = item_bits funs i ++ items_bits funs is

-- ---- stages

module _ (s : Script) where
  -- a definition and how many members work on it
  abbrev pub members_bits : String → List Text → ℕ → ℕ → List Bit
  members_bits word names d on = spaced (quoted word ∷ name_at names d ∷ quoted "on" ∷ natural on ∷ [])

  abbrev mutual
    pub stage_bits : Stage → List Bit
    stage_bits (Atomic f) = spaced (quoted "atomic" ∷ name_at (names_of s.funs) f ∷ [])
    stage_bits (Filter i) = spaced (quoted "filter" ∷ name_at (map (λ d. d.name) s.filters) i ∷ [])
    stage_bits (Data d on) = members_bits "data" (map (λ d. d.name) s.datas) d on
    stage_bits (DivCon d on) = members_bits "divcon" (map (λ d. d.name) s.divcons) d on
    stage_bits (Bnb d on) = members_bits "bnb" (map (λ d. d.name) s.bnbs) d on
    stage_bits (farm n st) = spaced (quoted "farm" ∷ natural n ∷ sign_of "{" ∷ stage_bits st ∷ sign_of "}" ∷ [])
    stage_bits (Pipe' _ sts) = spaced (quoted "pipe" ∷ sign_of "{" ∷ joined (mark (codes ";") ∷ space ∷ []) (all_stage_bits sts) ∷ sign_of "}" ∷ [])

    pub all_stage_bits : {n : _} → Row_of-Stage n → List (List Bit)
    all_stage_bits end_of-Stage = []
    all_stage_bits (more_of-Stage st sts) = stage_bits st ∷ all_stage_bits sts

-- ---- scripts

abbrev pub script_bits : Script → List Bit
script_bits s =
    closed (number_bits "muesli" s.version) ++
    (items_bits s.funs (items_of s) ++
    closed (spaced (quoted "main" ∷ sign_of "=" ∷ stage_bits s s.main ∷ [])))

abbrev pub AllOpenFew : List Fun → Type 0
AllOpenFew [] = Unit {0}
AllOpenFew (f ∷ fs) = OpensFew f × AllOpenFew fs

-- the text of no function opens too much
abbrev pub OpensFewIn : Script → Type 0
OpensFewIn s = AllOpenFew s.funs
