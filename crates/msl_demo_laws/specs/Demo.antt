-- The demonstration: the records that it makes, the script that they are run through, and the line that it writes.
--     demo_records n       the first n records
--     DemoGives n line     the script may make records of them, of which this is the line
use Rattle.std.specs.Prelude.{◌≡◌, ℕ, ◌*◌, ◌%◌, ℤ, pos, ◌+ℤ◌, List, [], ◌∷◌, ◌++◌, length, map, flat_map, fold, codes, decimal}
use Rattle.std.specs.Fmt.{signed_decimal}
use Rattle.std.specs.List.{range_with_len}
use Rattle.msl_base.specs.Streams.{Record, done, stream}
use Rattle.msl_program.specs.Script.{Script}
use Rattle.msl_program.specs.Runs.{RunsMain}
use Rattle.msl_grammar.specs.ScriptGrammar.{ReadsAs}

-- ---- its input

-- record k, from 0
abbrev pub demo_record : ℕ → Record
demo_record k = pos (k % 1000) ∷ pos ((7 * k) % 1000) ∷ []

abbrev pub demo_records : ℕ → List Record
demo_records n = map demo_record (range_with_len 0 n)

abbrev pub demo_text : List ℕ
demo_text = codes "muesli 1;\nfun mix(a, b) = [a + b, a * b, a - b];\ndata tot {\n  a = array 2;\n  s = scan sum a;\n  give s;\n}\nmain = pipe { farm 2 { atomic mix }; data tot on 1 };\n"

-- ---- its line

-- the numbers of records, one after the other
abbrev pub numbers : List Record → List ℤ
numbers records = flat_map (λ r. r) records

abbrev pub total : List ℤ → ℤ
total zs = fold ◌+ℤ◌ (pos 0) zs

-- n records went in, and these came out
abbrev pub demo_line : ℕ → List Record → List ℕ
demo_line n outs =
    codes "demo: " ++ decimal n
    ++ codes " records in, " ++ decimal (length outs)
    ++ codes " records out, " ++ decimal (length (numbers outs))
    ++ codes " numbers, sum " ++ signed_decimal (total (numbers outs))
    ++ codes "\n"

-- ---- what it writes

-- the line of records that the script may make of the first n
pub record DemoGives (n : ℕ) (line : List ℕ) : Type 0 where
  pub script : Script
  pub reads : ReadsAs demo_text script
  pub outs : List Record
  pub run : RunsMain script (stream (demo_records n) done) (stream outs done)
  pub says : line ≡ demo_line n outs
