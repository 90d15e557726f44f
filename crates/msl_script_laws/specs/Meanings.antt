-- Scripts of the worked examples of meanings, what they make of streams, and what they need.
use Rattle.std.specs.Prelude.{ℕ, zero, suc, ℤ, List, [], ◌∷◌, ◌++◌, codes, Option, Some, None, Result, Ok, Err}
use Rattle.msl_base.specs.Streams.{Record, Outcome, Stream, stream, done}
use Rattle.msl_fun.specs.declared.funs.Fun.{Fun}
use Rattle.msl_program.specs.declared.script.BnbSpec.{BnbSpec}
use Rattle.msl_program.specs.Script.{Script}
use Rattle.msl_grammar.specs.ScriptGrammar.{script_of_text}
use Rattle.msl_read.specs.Reading.{Refusal}
use Rattle.msl_program.specs.Runs.{seq_run}
use Rattle.msl_program.specs.Need.{need}
use Rattle.msl_program.specs.Searches.{BestOf, IsDroppable}

abbrev pub made : Result Script Refusal → Stream → Stream
made (Ok s) X = seq_run s 1 s.main X
made (Err e) X = stream [] done

abbrev pub needed : Result Script Refusal → Option ℕ
needed (Ok s) = Some (need s)
needed (Err e) = None

-- what `seq` makes of a stream by the script that the text is
abbrev pub made_of : List ℕ → Stream → Stream
made_of text X = made (script_of_text text) X

-- and of a whole one
abbrev pub made_by : List ℕ → List Record → Stream
made_by text X = made_of text (stream X done)

-- how many processes the script that the text is needs
abbrev pub needed_by : List ℕ → Option ℕ
needed_by text = needed (script_of_text text)

abbrev pub totals : List ℕ
totals = codes "muesli 1;\ndata t { a = array 2; b = fold sum a; give b; }\nmain = data t on 1;\n"

abbrev pub moved : List ℕ
moved =
    codes "muesli 1;\nfun nxt(i) = (i + 1) % 3;\ndata t { a = array 3; b = permutePartition nxt a; give b; }\nmain = data t on 2;\n"

abbrev pub deviations : List ℕ
deviations =
    codes "muesli 1;\nfun dev(s, x) = 4 * x - s;\ndata d { a = array 2; s = fold sum a; b = map dev(s) a; give b; }\nmain = farm 2 { data d on 2 };\n"

abbrev pub turned : List ℕ
turned =
    codes "muesli 1;\nfun neg(i) = -i;\ndata t { a = matrix 4 4 grid 2 2 at 0; b = rotateRows neg a; give b; }\nmain = data t on 2;\n"

abbrev pub squares_in_turn : List ℕ
squares_in_turn =
    codes "muesli 1;\nfun sq(x) = x * x;\nmain = pipe { atomic sq; atomic sq };\n"

abbrev pub range : List ℕ
range =
    codes "muesli 1;\nfun tiny(a, b) = b - a <= 1;\nfun one(a, b) = if b - a == 1 then a else 0;\nfun half(a, b, j) = [if j == 0 then a else (a + b) / 2, if j == 0 then (a + b) / 2 else b];\nfun add(x, y) = x + y;\ndivcon range { parts 2; cutoff 3; simple tiny; solve one; divide half; combine add; }\nmain = divcon range on 2;\n"

-- all but the main stage
abbrev pub picking : List ℕ
picking =
    codes "muesli 1;\nfun cost(i) = if i == 0 then 3 else if i == 1 then 5 else if i == 2 then 4 else 7;\nfun gain(i) = if i == 0 then 2 else if i == 1 then 4 else if i == 2 then 3 else 6;\nfun low(i, c, g, r) = c;\nfun ok(i, c, g, r) = g >= r;\nfun kids(i, c, g, r) = if i == 4 then 0 else 2;\nfun step(i, c, g, r, k) = [i + 1, c + k * cost(i), g + k * gain(i), r];\nbnb pick { bound low; solved ok; value low; count kids; branch step; }\n"

abbrev pub pick : List ℕ
pick = picking ++ codes "main = bnb pick on 2;\n"

abbrev pub broken : List ℕ
broken =
    codes "muesli 1;\nfun low(x) = -x;\nfun ok(x) = x == 2;\nfun val(x) = 0;\nfun kids(x) = if x < 2 then 1 else 0;\nfun step(x, k) = x + 1;\nbnb bad { bound low; solved ok; value val; count kids; branch step; }\nmain = bnb bad on 1;\n"

abbrev pub pairs : List ℕ
pairs =
    codes "muesli 1;\nfun cnt(h, v, x) = h;\nfun both(h, v, x, k) = [v, x];\nfun turn(h, v, x) = [1 - h, x];\nfun rest(h, v) = h;\nfun held(h, v, k) = v;\nfilter pairs { state 0, 0; count cnt; item both; next turn; flush rest; last held; }\nmain = filter pairs;\n"

abbrev pub mixed : List ℕ
mixed =
    codes "muesli 1;\nfun mix(a, b) = [a + b, a * b, a - b];\ndata tot { a = array 2; s = scan sum a; give s; }\nmain = pipe { farm 2 { atomic mix }; data tot on 1 };\n"

-- it cannot make the last part of a record that has one more than it can
abbrev pub copies : List ℕ
copies =
    codes "muesli 1;\nfun cnt(s, x) = x;\nfun part(s, x, k) = 7 / (2 - x * k);\nfun same(s, x) = s;\nfun none(s) = 0;\nfun held(s, k) = s;\nfilter copies { state 0; count cnt; item part; next same; flush none; last held; }\nmain = filter copies;\n"

-- nothing is simple
abbrev pub endless : List ℕ
endless =
    codes "muesli 1;\nfun no(x) = 0;\nfun one(x) = x;\nfun same(x, j) = x;\nfun add(a, b) = a + b;\ndivcon endless { parts 2; cutoff 0; simple no; solve one; divide same; combine add; }\nmain = divcon endless on 1;\n"

-- 7 is simple and has no value; of anything else part 0 is 7, and part 1 is none
abbrev pub halves : List ℕ
halves =
    codes "muesli 1;\nfun seven(x) = x == 7;\nfun long(x) = x + 9223372036854775807;\nfun cut(x, j) = 7 / (1 - j);\nfun add(a, b) = a + b;\ndivcon halves { parts 2; cutoff 0; simple seven; solve long; divide cut; combine add; }\nmain = divcon halves on 1;\n"

abbrev pub zeros : ℕ → List ℕ
zeros zero = []
zeros (suc n) = 0 ∷ zeros n

-- ---- searches

abbrev pub funs_in : Result Script Refusal → List Fun
funs_in (Ok s) = s.funs
funs_in (Err e) = []

abbrev pub search_of : List BnbSpec → BnbSpec
search_of (b ∷ bs) = b
search_of [] = record { name = []; bound = 0; solved = 0; value = 0; count = 0; branch = 0 }

-- the first search
abbrev pub search_in : Result Script Refusal → BnbSpec
search_in (Ok s) = search_of s.bnbs
search_in (Err e) = search_of []

-- what the search of the script that the text is may answer, and which nodes it may drop
abbrev pub MayAnswer : List ℕ → Record → Outcome → Type 0
MayAnswer text x r = BestOf (funs_in (script_of_text text)) (search_in (script_of_text text)) 1 x r

abbrev pub MayDrop : List ℕ → Record → List ℕ → ℤ → Type 0
MayDrop text x q v = IsDroppable (funs_in (script_of_text text)) (search_in (script_of_text text)) 1 x q v

-- two solutions below the root, 1 and 2, with the value 5 each
abbrev pub two : List ℕ
two =
    codes "muesli 1;\nfun low(x) = 0;\nfun ok(x) = x > 0;\nfun val(x) = 5;\nfun kids(x) = if x == 0 then 2 else 0;\nfun step(x, k) = k + 1;\nbnb two { bound low; solved ok; value val; count kids; branch step; }\nmain = bnb two on 1;\n"

-- two nodes below the root: 1 is a solution with the value 3, and 2 has the bound b, as has 3, the one node below it, which has a fault
abbrev pub faulty : List ℕ
faulty =
    codes "muesli 1;\nfun low(x, b) = if x > 1 then b else 0;\nfun ok(x, b) = x == 1;\nfun val(x, b) = 3;\nfun kids(x, b) = if x == 0 then 2 else 1 / (3 - x);\nfun step(x, b, k) = [if x == 0 then k + 1 else 3, b];\nbnb faulty { bound low; solved ok; value val; count kids; branch step; }\nmain = bnb faulty on 1;\n"
