-- How a script is read, token by token, with the tests that are due at each. Functions are read as msl_muscle says.
--
--     script = "muesli" num ";" { item } "main" "=" stage ";"
--     item   = fun | data | filter | divcon | bnb
--     data   = "data" name "{" { name "=" step ";" } "give" name ";" "}"
--     step   = "array" num [ "at" num "len" num ]
--            | "matrix" num num "grid" num num "at" num
--            | ("map" | "mapIndex") use name
--            | ("zip" | "zipIndex") use name name
--            | ("fold" | "scan") op name
--            | "foldl" use arg name
--            | ("permutePartition" | "permute") use name
--            | "broadcastPartition" num name
--            | ("rotateRows" | "rotateCols") use name
--            | "transpose" name
--     use    = name [ "(" arg { "," arg } ")" ]
--     arg    = name | int
--     int    = [ "-" ] num
--     op     = word [ num ]
--     filter = "filter" name "{" "state" int { "," int } ";" "count" name ";"
--              "item" name ";" "next" name ";" "flush" name ";" "last" name ";" "}"
--     divcon = "divcon" name "{" "parts" num ";" "cutoff" num ";" "simple" name ";"
--              "solve" name ";" "divide" name ";" "combine" name ";" "}"
--     bnb    = "bnb" name "{" "bound" name ";" "solved" name ";" "value" name ";"
--              "count" name ";" "branch" name ";" "}"
--     stage  = "atomic" name | "filter" name
--            | ("data" | "divcon" | "bnb") name "on" num
--            | "farm" num "{" stage "}" | "pipe" "{" stage { ";" stage } "}"
use Rattle.std.specs.Prelude.{◌≡◌, ℕ, ◌+◌, ◌-◌, ◌*◌, Bool, true, false, not, ◌&&◌, ◌==◌, nat_lt, nat_le, ℤ, pos, neg_ℤ, List, [], ◌∷◌, ◌++◌, length, Option, Some, None, Result, Ok, Err, if◌then◌else◌, codes}
use Rattle.msl_base.specs.declared.limits.TheConstants.{LEAST_PARTS, MOST_BLOCKS, MOST_CUTOFF, MOST_DATA_LINES, MOST_DEFINITIONS, MOST_FILTERS, MOST_MEMBERS, MOST_NESTED, MOST_NUMBERS, MOST_PARAMS, MOST_PARTS, MOST_PRIMITIVES, MOST_STATE}
use Rattle.msl_lex.specs.declared.token.LexFault.{LexFault}
use Rattle.msl_lex.specs.declared.token.LexFault.TheVariants as fault
use Rattle.msl_lex.specs.declared.kind.Kind.TheVariants as kind
use Rattle.msl_lex.specs.Computing.{lexemes}
use Rattle.msl_lex.specs.Layout as layout
use Rattle.msl_lex.specs.Lexemes.{Form, Lexeme, word, number, close}
use Rattle.msl_ops.specs.declared.op.Op.{Op}
use Rattle.msl_ops.specs.declared.op.OpKind.{OpKind}
use Rattle.msl_ops.specs.declared.op.OpKind.TheVariants.{Sum}
use Rattle.msl_ops.specs.Table.{rows, kind_named}
use Rattle.msl_fun.specs.declared.funs.Fun.{Fun}
use Rattle.msl_base.specs.Names.{Text, is_among}
use Rattle.msl_fun.specs.Checks.{names_of}
use Rattle.msl_read.specs.Reading.{Refusal, Test, test, Move, takes, ends, stops, read, says}
use Rattle.msl_read.specs.Front.{name_in}
use Rattle.msl_fun_read.specs.Grammar as fun_grammar
use Rattle.msl_program.specs.declared.data.Arg.{Arg}
use Rattle.msl_program.specs.declared.data.Arg.TheVariants as arg
use Rattle.msl_program.specs.declared.data.UseSpec.{UseSpec}
use Rattle.msl_program.specs.declared.data.DataStep.{DataStep}
use Rattle.msl_program.specs.declared.data.DataStep.TheVariants as step
use Rattle.msl_program.specs.declared.data.DataProg.{DataProg}
use Rattle.msl_program.specs.declared.script.FilterSpec.{FilterSpec}
use Rattle.msl_program.specs.declared.script.DivCon as divcon
use Rattle.msl_program.specs.declared.script.BnbSpec.{BnbSpec}
use Rattle.msl_program.specs.Script.{Script}
use Rattle.msl_program.specs.declared.stage.Stage.{Stage}
use Rattle.msl_program.specs.declared.stage.Stage.TheVariants.{Atomic, Filter, Data, DivCon, Bnb}
use Rattle.msl_program.specs.declared.width.Width.{Width}
use Rattle.msl_program.specs.declared.width.Width.TheVariants.{Any, Exactly, AtLeast, AtMost, Shared}
use Rattle.msl_program.specs.declared.shape.Shape.{Shape}
use Rattle.msl_program.specs.declared.shape.Shape.TheVariants as shape
use Rattle.msl_program.specs.declared.shape.Need.{Need}
use Rattle.msl_program.specs.declared.shape.Need.TheVariants as need
use Rattle.msl_grammar.specs.declared.used.Used.{Used}
use Rattle.msl_program.specs.declared.nest.Nest.{Nest}
use Rattle.msl_program.specs.declared.nest.Counts.{Counts}
use Rattle.msl_program.specs.Stages.{farm, pipe}
use Rattle.msl_ops.specs.Operators.{has_modulus, op_of}
use Rattle.msl_program.specs.Known.{Known, nothing_known, data_names, filter_names, divcon_names, bnb_names, is_declared, with_fun, with_data, with_filter, with_divcon, with_bnb, script_of}
use Rattle.msl_grammar.specs.Known.{place}
use Rattle.msl_fun.specs.Meaning.{params_of, results_of}
use Rattle.msl_program.specs.Widths.{allows}
use Rattle.msl_program.specs.Programs.{Program, no_lines, with_line, line_names, suits, turned, blocks_of, given}
use Rattle.msl_grammar.specs.Uses.{shape_of, used, with_arg, use_spec, use_fits}

-- ---- what is still to come

-- A part says what follows it, by what it is.
pub data State : Type 0 where
  -- a quoted token
  token : Text → State → State
  -- the number of the language's version
  version : State → State
  -- a function that is being read
  a_fun : Known → fun_grammar.State → (Fun → State) → State
  -- a name that is not declared yet
  fresh : Known → (Text → State) → State
  -- a function with so many parameters and results
  a_function : Known → Width → Width → (ℕ → State) → State
  -- a definition among those of these names
  a_definition : Known → List Text → (ℕ → State) → State
  -- a number from one to another, both included
  a_number : ℕ → ℕ → (ℕ → State) → State
  -- any number, and one with its place
  a_natural : (ℕ → State) → State
  a_placed_number : (ℕ × ℕ → State) → State
  an_integer : (ℤ → State) → State
  items : Known → State
  -- one more state number than these, and behind these more of them or the end of the list
  a_state_number : List ℤ → (ℤ → State) → State
  more_state_numbers : List ℤ → (List ℤ → State) → State
  -- lines behind these, and the one that is given
  lines : Known → Program → (Program × ℕ → State) → State
  a_step : Known → Program → (DataStep × Shape → State) → State
  -- behind `array` and its blocks: maybe the part of the record
  maybe_part : ℕ → (DataStep × Shape → State) → State
  -- a size whose product with the one before it has a limit
  a_size : ℕ → ℕ → (ℕ → State) → State
  -- the name of a function that a step uses, and behind it maybe arguments
  a_use_name : Known → (Used → State) → State
  maybe_args : Program → Used → (Used → State) → State
  more_args : Program → Used → (Used → State) → State
  an_arg : Program → (Arg → State) → State
  -- an earlier line that is such
  a_line : Program → Need → (ℕ × Shape → State) → State
  -- the first line that a step works on, at which its function is tested
  a_container : Known → Program → Used → Need → ℕ → ℕ → (ℕ × Shape → State) → State
  -- an array that has a block of this number
  a_block_of : Program → ℕ × ℕ → (ℕ × Shape → State) → State
  an_operator : (Op → State) → State
  a_stage : Known → Nest → Counts → (Counts × Stage → State) → State
  more_stages : Known → Nest → Counts → List Stage → (Counts × Stage → State) → State
  finish : Script → State

abbrev pub Turn : Type 0
Turn = Move State Script

abbrev pub go : State → Turn
go s = takes [] s

-- ---- filters, divisions and searches, behind their first word

-- a word, a function with so many parameters and results, and `;`
abbrev pub clause : Known → Text → Width → Width → (ℕ → State) → State
clause m text params results k = token text (a_function m params results (λ f. token (codes ";") (k f)))

-- a word, a number in a range, and `;`
abbrev pub numbered : Text → ℕ → ℕ → (ℕ → State) → State
numbered text low high k = token text (a_number low high (λ v. token (codes ";") (k v)))

abbrev pub state_numbers : (List ℤ → State) → State
state_numbers k = an_integer (λ z. more_state_numbers (z ∷ []) k)

abbrev pub filter_rule : Known → (FilterSpec → State) → State
filter_rule m k =
    fresh m (λ name. token (codes "{") (token (codes "state") (state_numbers (λ state.
    clause m (codes "count") (AtLeast (length state + 1)) (Exactly 1) (λ count.
    clause m (codes "item") (Exactly (params_of m.funs count + 1)) Any (λ item.
    clause m (codes "next") (Exactly (params_of m.funs count)) (Exactly (length state)) (λ next.
    clause m (codes "flush") (Exactly (length state)) (Exactly 1) (λ flush.
    clause m (codes "last") (Exactly (length state + 1)) Any (λ last.
    token (codes "}") (k (record { name = name; state = state; count = count; item = item; next = next; flush = flush; last = last })))))))))))

abbrev pub divcon_rule : Known → (divcon.DivCon → State) → State
divcon_rule m k =
    fresh m (λ name. token (codes "{")
    (numbered (codes "parts") LEAST_PARTS MOST_PARTS (λ parts.
    numbered (codes "cutoff") 0 MOST_CUTOFF (λ cutoff.
    clause m (codes "simple") Any (Exactly 1) (λ simple.
    clause m (codes "solve") (Exactly (params_of m.funs simple)) (Shared parts) (λ solve.
    clause m (codes "divide") (Exactly (params_of m.funs simple + 1)) (Exactly (params_of m.funs simple)) (λ divide.
    clause m (codes "combine") (Exactly (parts * results_of m.funs solve)) (Exactly (results_of m.funs solve)) (λ combine.
    token (codes "}") (k (record { name = name; parts = parts; cutoff = cutoff; simple = simple; solve = solve; divide = divide; combine = combine }))))))))))

abbrev pub bnb_rule : Known → (BnbSpec → State) → State
bnb_rule m k =
    fresh m (λ name. token (codes "{")
    (clause m (codes "bound") (AtMost (MOST_PARAMS - 1)) (Exactly 1) (λ bound.
    clause m (codes "solved") (Exactly (params_of m.funs bound)) (Exactly 1) (λ solved.
    clause m (codes "value") (Exactly (params_of m.funs bound)) (Exactly 1) (λ value.
    clause m (codes "count") (Exactly (params_of m.funs bound)) (Exactly 1) (λ count.
    clause m (codes "branch") (Exactly (params_of m.funs bound + 1)) (Exactly (params_of m.funs bound)) (λ branch.
    token (codes "}") (k (record { name = name; bound = bound; solved = solved; value = value; count = count; branch = branch })))))))))

-- ---- data programs, behind their first word

abbrev pub data_rule : Known → (DataProg → State) → State
data_rule m k = fresh m (λ name. token (codes "{") (lines m no_lines (λ r. token (codes "}") (k (record { name = name; lines = (r.0).lines; give = r.1 })))))

abbrev pub give_rule : Program → (Program × ℕ → State) → State
give_rule p k = a_line p need.Any (λ l. token (codes ";") (k (p, l.0)))

-- behind the name of a line
abbrev pub line_rest : Known → Program → Text → (Program → State) → State
line_rest m p n k = token (codes "=") (a_step m p (λ r. token (codes ";") (k (with_line p n r.0 r.1))))

abbrev pub one_arg : Program → Used → (Used → State) → State
one_arg p u k = an_arg p (λ a. more_args p (with_arg u a) k)

-- a function, maybe with arguments
abbrev pub a_use : Known → Program → (Used → State) → State
a_use m p k = a_use_name m (λ u. maybe_args p u k)

-- ---- steps, behind their first word

abbrev pub Step : Type 0
Step = DataStep × Shape

abbrev pub part_rule : ℕ → (Step → State) → State
part_rule b k = a_number 0 MOST_NUMBERS (λ at. token (codes "len") (a_number 0 MOST_NUMBERS (λ len. k (step.ArrayAt b at len, shape.Array b))))

abbrev pub array_rule : (Step → State) → State
array_rule k = a_number 1 MOST_BLOCKS (λ b. maybe_part b k)

abbrev pub matrix_rule : (Step → State) → State
matrix_rule k =
    a_number 1 MOST_NUMBERS (λ r. a_size MOST_NUMBERS r (λ c. token (codes "grid")
    (a_number 1 MOST_NUMBERS (λ p. a_size MOST_BLOCKS p (λ q. token (codes "at")
    (a_number 0 MOST_NUMBERS (λ at. k (step.Matrix r c p q at, shape.Matrix r c p q))))))))

-- a function and the line that it works on
abbrev pub with_one : Known → Program → Need → ℕ → ℕ → (UseSpec → ℕ → DataStep) → (Step → State) → State
with_one m p needed for_array for_matrix make k =
    a_use m p (λ u. a_container m p u needed for_array for_matrix (λ l. k (make (use_spec u) l.0, l.1)))

-- a function and the two lines that it works on
abbrev pub with_two : Known → Program → ℕ → ℕ → (UseSpec → ℕ → ℕ → DataStep) → (Step → State) → State
with_two m p for_array for_matrix make k =
    a_use m p (λ u. a_container m p u need.Container for_array for_matrix (λ l. a_line p (need.Like l.1) (λ o. k (make (use_spec u) l.0 o.0, l.1))))

abbrev pub fold_rule : Program → (Step → State) → State
fold_rule p k = an_operator (λ op. a_line p need.Container (λ l. k (step.Fold op l.0, shape.Number)))

abbrev pub scan_rule : Program → (Step → State) → State
scan_rule p k = an_operator (λ op. a_line p need.Array (λ l. k (step.Scan op l.0, l.1)))

abbrev pub foldl_rule : Known → Program → (Step → State) → State
foldl_rule m p k = a_use m p (λ u. an_arg p (λ first. a_container m p u need.Array 2 2 (λ l. k (step.Foldl (use_spec u) first l.0, shape.Number))))

abbrev pub broadcast_rule : Program → (Step → State) → State
broadcast_rule p k = a_placed_number (λ b. a_block_of p b (λ l. k (step.BroadcastPartition b.0 l.0, l.1)))

abbrev pub transpose_rule : Program → (Step → State) → State
transpose_rule p k = a_line p need.Matrix (λ l. k (step.Transpose l.0, turned l.1))

-- what follows the first word of a step
abbrev pub step_by : Form → Known → Program → (Step → State) → Turn
step_by f m p k =
    if says (codes "array") f then go (array_rule k)
    else if says (codes "matrix") f then go (matrix_rule k)
    else if says (codes "map") f then go (with_one m p need.Container 1 1 step.Map k)
    else if says (codes "mapIndex") f then go (with_one m p need.Container 2 3 step.MapIndex k)
    else if says (codes "zip") f then go (with_two m p 2 2 step.Zip k)
    else if says (codes "zipIndex") f then go (with_two m p 3 4 step.ZipIndex k)
    else if says (codes "fold") f then go (fold_rule p k)
    else if says (codes "scan") f then go (scan_rule p k)
    else if says (codes "foldl") f then go (foldl_rule m p k)
    else if says (codes "permutePartition") f then go (with_one m p need.Array 1 1 step.PermutePartition k)
    else if says (codes "permute") f then go (with_one m p need.Array 1 1 step.Permute k)
    else if says (codes "broadcastPartition") f then go (broadcast_rule p k)
    else if says (codes "rotateRows") f then go (with_one m p need.Matrix 1 1 step.RotateRows k)
    else if says (codes "rotateCols") f then go (with_one m p need.Matrix 1 1 step.RotateCols k)
    else if says (codes "transpose") f then go (transpose_rule p k)
    else stops

-- ---- operators

abbrev pub with_modulus : Bool → OpKind → (Op → State) → State
with_modulus true o k = a_number 1 1000000000000000000 (λ v. k (op_of o v))
with_modulus false o k = k (op_of o 1)

abbrev pub operator_by : Option OpKind → ℕ → (Op → State) → Turn
operator_by None at k = takes (test kind.Unknown at false ∷ []) (k (op_of Sum 1))
operator_by (Some o) at k = go (with_modulus (has_modulus o) o k)

-- any word may name an operator
abbrev pub operator_turn : Form → ℕ → (Op → State) → Turn
operator_turn (word w) at k = operator_by (kind_named rows w) at k
operator_turn _ at k = stops

-- ---- stages

abbrev pub one_primitive : Counts → Counts
one_primitive c = record c { primitives = c.primitives + 1 }

abbrev pub one_filter : Counts → Counts
one_filter c = record { primitives = c.primitives + 1; filters = c.filters + 1 }

abbrev pub one_deeper : Nest → Nest
one_deeper nest = record nest { opened = nest.opened + 1 }

abbrev pub in_farm : Nest → Nest
in_farm nest = record { opened = nest.opened + 1; in_farm = true }

abbrev pub few_primitives : Counts → ℕ → Test
few_primitives c at = test kind.Many at (nat_lt c.primitives MOST_PRIMITIVES)

abbrev pub nest_test : Nest → ℕ → List Test
nest_test nest at = test kind.Deep at (nat_lt nest.opened MOST_NESTED) ∷ []

-- a definition and how many members work on it
abbrev pub on_members : Known → List Text → (ℕ → ℕ → Stage) → (Stage → State) → State
on_members m names make k = a_definition m names (λ d. token (codes "on") (a_number 1 MOST_MEMBERS (λ v. k (make d v))))

abbrev pub atomic_rule : Known → (Stage → State) → State
atomic_rule m k = a_function m Any Any (λ f. k (Atomic f))

abbrev pub filter_stage_rule : Known → (Stage → State) → State
filter_stage_rule m k = a_definition m (filter_names m) (λ f. k (Filter f))

abbrev pub farm_rule : Known → Nest → Counts → (Counts × Stage → State) → State
farm_rule m nest c k = a_number 1 MOST_MEMBERS (λ v. token (codes "{") (a_stage m (in_farm nest) c (λ r. token (codes "}") (k (r.0, farm v r.1)))))

abbrev pub pipe_rule : Known → Nest → Counts → (Counts × Stage → State) → State
pipe_rule m nest c k = token (codes "{") (a_stage m (one_deeper nest) c (λ r. more_stages m (one_deeper nest) r.0 (r.1 ∷ []) k))

abbrev pub stage_turn : Known → Nest → Counts → Lexeme → (Counts × Stage → State) → Turn
stage_turn m nest c t k =
    if says (codes "atomic") t.form then takes (few_primitives c t.at ∷ []) (atomic_rule m (λ s. k (one_primitive c, s)))
    else if says (codes "filter") t.form then
    takes (test kind.InFarm t.at (not nest.in_farm) ∷ few_primitives c t.at ∷ test kind.Many t.at (nat_lt c.filters MOST_FILTERS) ∷ []) (filter_stage_rule m (λ s. k (one_filter c, s)))
    else if says (codes "data") t.form then takes (few_primitives c t.at ∷ []) (on_members m (data_names m) Data (λ s. k (one_primitive c, s)))
    else if says (codes "divcon") t.form then takes (few_primitives c t.at ∷ []) (on_members m (divcon_names m) DivCon (λ s. k (one_primitive c, s)))
    else if says (codes "bnb") t.form then takes (few_primitives c t.at ∷ []) (on_members m (bnb_names m) Bnb (λ s. k (one_primitive c, s)))
    else if says (codes "farm") t.form then takes (nest_test nest t.at) (farm_rule m nest c k)
    else if says (codes "pipe") t.form then takes (nest_test nest t.at) (pipe_rule m nest c k)
    else stops

-- ---- items

abbrev pub few_items : ℕ → ℕ → List Test
few_items n at = test kind.Many at (nat_lt n MOST_DEFINITIONS) ∷ []

-- a turn of a function, in a script
abbrev pub of_fun : Known → Move fun_grammar.State Fun → (Fun → State) → (Fun → Turn) → Turn
of_fun m (takes due x) k behind = takes due (a_fun m x k)
of_fun m (ends f) k behind = behind f
of_fun m stops k behind = stops

abbrev pub outermost : Nest
outermost = record { opened = 0; in_farm = false }

abbrev pub no_stages : Counts
no_stages = record { primitives = 0; filters = 0 }

abbrev pub main_rule : Known → State
main_rule m = token (codes "=") (a_stage m outermost no_stages (λ r. token (codes ";") (finish (script_of m r.1))))

abbrev pub items_turn : Known → Lexeme → Lexeme → Turn
items_turn m t behind =
    if says (codes "fun") t.form then of_fun m (fun_grammar.on m.funs m.others fun_grammar.fun t behind) (λ f. items (with_fun m f)) (λ f. stops)
    else if says (codes "data") t.form then takes (few_items (length m.datas) t.at) (data_rule m (λ d. items (with_data m d)))
    else if says (codes "filter") t.form then takes (few_items (length m.filters) t.at) (filter_rule m (λ f. items (with_filter m f)))
    else if says (codes "divcon") t.form then takes (few_items (length m.divcons) t.at) (divcon_rule m (λ d. items (with_divcon m d)))
    else if says (codes "bnb") t.form then takes (few_items (length m.bnbs) t.at) (bnb_rule m (λ b. items (with_bnb m b)))
    else if says (codes "main") t.form then go (main_rule m)
    else stops

-- ---- the turns

-- a name under tests
abbrev pub name_turn : (Text → List Test) → Option Text → (Text → State) → Turn
name_turn due None k = stops
name_turn due (Some n) k = takes (due n) (k n)

-- a number under tests
abbrev pub number_turn : (ℕ → List Test) → Form → (ℕ → State) → Turn
number_turn due (number v) k = takes (due v) (k v)
number_turn due _ k = stops

-- an integer, with tests at its first token
abbrev pub integer_turn : List Test → Form → (ℤ → State) → Turn
integer_turn due f k = if says (codes "-") f then takes due (a_natural (λ v. k (neg_ℤ (pos v)))) else number_turn (λ v. due) f (λ v. k (pos v))

abbrev pub is_between : ℕ → ℕ → ℕ → Bool
is_between low high v = nat_le low v && nat_le v high

-- a definition of one kind
abbrev pub of_kind : Known → List Text → ℕ → Text → List Test
of_kind m names at n = test kind.Unknown at (is_declared m n) ∷ test kind.WrongKind at (is_among names n) ∷ []

abbrev pub fun_place : Known → Text → ℕ
fun_place m n = place (names_of m.funs) n

abbrev pub function_tests : Known → Width → Width → ℕ → Text → List Test
function_tests m params results at n =
    of_kind m (names_of m.funs) at n ++ test kind.Width at (allows params (params_of m.funs (fun_place m n)) && allows results (results_of m.funs (fun_place m n))) ∷ []

abbrev pub line_tests : Program → Need → ℕ → Text → List Test
line_tests p needed at n = test kind.Unknown at (is_among (line_names p) n) ∷ test kind.WrongKind at (suits needed (shape_of p n)) ∷ []

abbrev pub line_found : Program → Text → ℕ × Shape
line_found p n = (place (line_names p) n, shape_of p n)

abbrev pub arg_turn : Option Text → Program → Lexeme → (Arg → State) → Turn
arg_turn (Some n) p t k = takes (line_tests p need.Number t.at n) (k (arg.Number (place (line_names p) n)))
arg_turn None p t k = integer_turn [] t.form (λ z. k (arg.Lit z))

abbrev pub close_turn : Form → Script → Turn
close_turn close s = ends s
close_turn _ s = stops

abbrev pub on : State → Lexeme → Lexeme → Turn
on (token text s) t behind = if says text t.form then go s else stops
on (version s) t behind = number_turn (λ v. test kind.Version t.at (v == 1) ∷ []) t.form (λ v. s)
on (a_fun m x k) t behind = of_fun m (fun_grammar.on m.funs m.others x t behind) k (λ f. on (k f) t behind)
on (fresh m k) t behind = name_turn (λ n. test kind.Twice t.at (not (is_declared m n)) ∷ []) (name_in t.form) k
on (a_function m params results k) t behind = name_turn (function_tests m params results t.at) (name_in t.form) (λ n. k (fun_place m n))
on (a_definition m names k) t behind = name_turn (of_kind m names t.at) (name_in t.form) (λ n. k (place names n))
on (a_number low high k) t behind = number_turn (λ v. test kind.Range t.at (is_between low high v) ∷ []) t.form k
on (a_natural k) t behind = number_turn (λ v. []) t.form k
on (a_placed_number k) t behind = number_turn (λ v. []) t.form (λ v. k (v, t.at))
on (an_integer k) t behind = integer_turn [] t.form k
on (items m) t behind = items_turn m t behind
on (a_state_number zs k) t behind = integer_turn (test kind.Many t.at (nat_lt (length zs) MOST_STATE) ∷ []) t.form k
on (more_state_numbers zs k) t behind =
    if says (codes ",") t.form then go (a_state_number zs (λ z. more_state_numbers (zs ++ z ∷ []) k))
    else if says (codes ";") t.form then go (k zs)
    else stops
on (lines m p k) t behind =
    if says (codes "give") t.form then go (give_rule p k)
    else
    name_turn (λ n. test kind.Many t.at (nat_lt (length p.lines) MOST_DATA_LINES) ∷ test kind.Twice t.at (not (is_among (line_names p) n)) ∷ []) (name_in t.form)
    (λ n. line_rest m p n (λ q. lines m q k))
on (a_step m p k) t behind = step_by t.form m p k
on (maybe_part b k) t behind = if says (codes "at") t.form then go (part_rule b k) else on (k (step.Array b, shape.Array b)) t behind
on (a_size most before k) t behind = number_turn (λ v. test kind.Range t.at (is_between 1 MOST_NUMBERS v && nat_le (before * v) most) ∷ []) t.form k
on (a_use_name m k) t behind = name_turn (of_kind m (names_of m.funs) t.at) (name_in t.form) (λ n. k (used (fun_place m n) t.at))
on (maybe_args p u k) t behind = if says (codes "(") t.form then go (one_arg p u k) else on (k u) t behind
on (more_args p u k) t behind =
    if says (codes ",") t.form then go (one_arg p u k) else if says (codes ")") t.form then go (k u) else stops
on (an_arg p k) t behind = arg_turn (name_in t.form) p t k
on (a_line p needed k) t behind = name_turn (line_tests p needed t.at) (name_in t.form) (λ n. k (line_found p n))
on (a_container m p u needed for_array for_matrix k) t behind =
    name_turn (λ n. line_tests p needed t.at n ++ test kind.Width u.at (use_fits m.funs u (given for_array for_matrix (shape_of p n))) ∷ []) (name_in t.form)
    (λ n. k (line_found p n))
on (a_block_of p b k) t behind =
    name_turn (λ n. line_tests p need.Array t.at n ++ test kind.Range b.1 (nat_lt b.0 (blocks_of (shape_of p n))) ∷ []) (name_in t.form) (λ n. k (line_found p n))
on (an_operator k) t behind = operator_turn t.form t.at k
on (a_stage m nest c k) t behind = stage_turn m nest c t k
on (more_stages m nest c ss k) t behind =
    if says (codes ";") t.form then go (a_stage m nest c (λ r. more_stages m nest r.0 (ss ++ r.1 ∷ []) k))
    else if says (codes "}") t.form then go (k (c, pipe ss))
    else stops
on (finish s) t behind = close_turn t.form s

-- ---- a script

-- what these tokens are read as from a state on
abbrev pub reading : List Lexeme → State → Result (Script × List Lexeme) Refusal
reading ts s = read State Script on ts s

abbrev pub script_rule : State
script_rule = token (codes "muesli") (version (token (codes ";") (items nothing_known)))

abbrev pub whole : Result (Script × List Lexeme) Refusal → Result Script Refusal
whole (Ok r) = Ok r.0
whole (Err e) = Err e

abbrev pub of_tokens : Result (List Lexeme) LexFault → Result Script Refusal
of_tokens (Ok ts) = whole (reading ts script_rule)
of_tokens (Err (fault.Byte at)) = Err (kind.Byte, at)
of_tokens (Err (fault.LongName at)) = Err (kind.LongName, at)
of_tokens (Err (fault.Number at)) = Err (kind.Number, at)
of_tokens (Err fault.NoMemory) = Err (kind.Byte, 0)

-- a text is read as a script, or has this first refusal: by the lexemes that it is laid out as
pub record ReadsTo (text : List ℕ) (r : Result Script Refusal) : Type 0 where
  pub said : Result (List Lexeme) LexFault
  pub laid : layout.ReadsAs 0 text said
  pub read : of_tokens said ≡ r

abbrev pub ReadsAs : List ℕ → Script → Type 0
ReadsAs text s = ReadsTo text (Ok s)

-- the same computed, for worked examples
abbrev pub script_of_text : List ℕ → Result Script Refusal
script_of_text text = of_tokens (lexemes text)
