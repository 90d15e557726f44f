-- The tokens of a text from a place on, as a cursor has them.
use Rattle.std.proofs.Common.{ℕ, zero, suc, ◌<◌, List, [], ◌∷◌, length, drop, get_or, arith}
use Rattle.msl_lex.specs.declared.token.Token.{Token}
use Rattle.msl_lex.specs.Layout.{AreTokensOf}
use Rattle.msl_lex.specs.Places.{AreInOrder, IsSpelt}
use Rattle.msl_lex.proofs.Orders.{tokens_in_order}
use Rattle.msl_lex.proofs.Spellings.{tokens_spelt}
use Rattle.msl_read.specs.Front.{AreOpen}

module _ (text : List ℕ) where
  all_open : (at : ℕ) (ts : List Token) → AreInOrder at (length text) ts → ((k : ℕ) (d : Token) → k < length ts → IsSpelt text (get_or ts k d)) → AreOpen text ts
  all_open at [] order spelt = absurd order
  all_open at (t ∷ []) order spelt = (order.0, (omega (arith, order.2, order.3), omega (arith, order.3)))
  all_open at (t ∷ u ∷ ts) order spelt =
      (order.0, (omega (arith, order.2), order.3), spelt 0 t (omega arith), all_open t.to (u ∷ ts) order.4 (λ k d lt. spelt (suc k) d (omega arith)))

  open_behind : (ts : List Token) (from : ℕ) → AreOpen text ts → from < length ts → AreOpen text (drop from ts)
  open_behind ts zero h lt = h
  open_behind [] (suc from) h lt = absurd h
  open_behind (t ∷ []) (suc from) h lt = absurd (omega arith)
  open_behind (t ∷ u ∷ ts) (suc from) h lt = open_behind (u ∷ ts) from h.3 (omega arith)

  pub open_from : (tokens : List Token) (from : ℕ) → AreTokensOf text tokens → from < length tokens → AreOpen text (drop from tokens)
  open_from tokens from h lt = open_behind tokens from (all_open 0 tokens (tokens_in_order text tokens h) (tokens_spelt text tokens h)) lt
