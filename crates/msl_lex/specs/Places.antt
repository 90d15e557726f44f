-- Where the tokens of a text stand, and how they are spelt.
use Rattle.std.specs.Prelude.{◌≡◌, ◌≢◌, ◌↔◌, ℕ, ◌+◌, ◌<◌, ◌≤◌, List, [], ◌∷◌, length, IsTrue, slice_index_or, slice_range}
use Rattle.msl_lex.specs.declared.token.Token.{Token}
use Rattle.msl_lex.specs.declared.token.TokenKind.TheVariants.{Close}
use Rattle.msl_lex.specs.Layout.{spells, IsInLimits}

-- the places from a place on never go back, and each token but the last has a byte; the last is Close, at the end
abbrev pub AreInOrder : ℕ → ℕ → List Token → Type 0
AreInOrder at end [] = ⊥
AreInOrder at end (t ∷ []) = (t.kind ≡ Close) × (at ≤ end) × (t.from ≡ end) × (t.to ≡ end)
AreInOrder at end (t ∷ u ∷ ts) = (t.kind ≢ Close) × (at ≤ t.from) × (t.from < t.to) × (t.to ≤ end) × AreInOrder t.to end (u ∷ ts)

abbrev pub LiesWithin : ℕ → Token → Type 0
LiesWithin end t = (t.from ≤ t.to) × (t.to ≤ end)

-- the last token, and no other, is Close
abbrev pub ClosesLast : List Token → Type 0
ClosesLast tokens = (k : ℕ) (d : Token) → k < length tokens → ((slice_index_or tokens k d).kind ≡ Close) ↔ (k + 1 ≡ length tokens)

-- the bytes of a token but the last are a spelling of its kind, within the limits
abbrev pub IsSpelt : List ℕ → Token → Type 0
IsSpelt text t =
    let spelling = slice_range text t.from t.to in t.kind ≢ Close → IsTrue (spells t.kind spelling) × IsInLimits t.kind spelling
