-- The text of the first records, one record after the other.
use Rattle.std.proofs.Common.{arith, ◌≡◌, ℕ, ◌+◌, List, [], ◌∷◌, ◌++◌, ap, ◌∙◌, append-nil}
use Rattle.std.proofs.lemmas.Grind.{flat_map-append}
use Rattle.std.proofs.lemmas.List.FromFn.{map-range_with_len_more}
use Rattle.msl_io.specs.Text.{text, text_of}
use Rattle.msl_demo_laws.specs.Demo.{demo_record, demo_records}
use Rattle.msl_demo_laws.specs.Laws.{demo_input}

pub input_more : (k : ℕ) → demo_input (k + 1) ≡ demo_input k ++ text_of (demo_record k)
input_more k =
    ap text (map-range_with_len_more demo_record 0 k k (omega arith)) ∙ flat_map-append text_of (demo_records k) (demo_record k ∷ [])
    ∙ ap (λ (t : List ℕ). demo_input k ++ t) (append-nil (text_of (demo_record k)))
