-- The words that are names.
use Rattle.std.specs.Prelude.{Bool, not, ◌&&◌, nat_le, List, [], ◌∷◌, length, map, codes}
use Rattle.msl_base.specs.Names.{Text, is_among}
use Rattle.msl_lex.specs.Layout.{is_word}
use Rattle.msl_lex.specs.Lexemes.{longest_name}

-- the words that the grammar quotes
abbrev pub reserved : List Text
reserved =
    map codes ("muesli" ∷ "main" ∷ "fun" ∷ "data" ∷ "filter" ∷ "divcon" ∷ "bnb" ∷ "if" ∷ "then" ∷ "else" ∷ "let" ∷ "in" ∷ "loop" ∷ "below" ∷ "or" ∷ "and" ∷ "not" ∷ "min" ∷ "max" ∷
    "give" ∷ "array" ∷ "at" ∷ "len" ∷ "matrix" ∷ "grid" ∷ "map" ∷ "mapIndex" ∷ "zip" ∷ "zipIndex" ∷ "fold" ∷ "scan" ∷ "foldl" ∷ "permutePartition" ∷ "permute" ∷ "broadcastPartition" ∷ "rotateRows" ∷ "rotateCols" ∷ "transpose" ∷
    "state" ∷ "count" ∷ "item" ∷ "next" ∷ "flush" ∷ "last" ∷ "parts" ∷ "cutoff" ∷ "simple" ∷ "solve" ∷ "divide" ∷ "combine" ∷ "bound" ∷ "solved" ∷ "value" ∷ "branch" ∷ "atomic" ∷ "on" ∷ "farm" ∷ "pipe" ∷ [])

-- a word of at most 64 bytes that is no reserved one
abbrev pub is_name : Text → Bool
is_name n = is_word n && nat_le (length n) longest_name && not (is_among reserved n)
