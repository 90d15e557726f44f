use Rattle.std.proofs.Common.{◌<◌, ℕ, List, [], ◌∷◌, arith, length, subst, sym}
use Rattle.msl_lex.proofs.Orders.{tokens_in_order}
use Rattle.msl_lex.specs.declared.token.Token.{Token}
use Rattle.msl_lex.specs.Layout.{AreTokensOf}
use Rattle.msl_read.specs.Front.{AreOpen}
use Rattle.msl_read.proofs.Opens.{open_from}
use Rattle.msl_lex.proofs.Spelt.{of_layout}
use Rattle.msl_script_read.proofs.read.read_script.Goals as goal

some_tokens : (text : List ℕ) (toks : List Token) → AreTokensOf text toks → 0 < length toks
some_tokens text [] h = absurd (tokens_in_order text [] h)
some_tokens text (t ∷ toks) h = omega arith

pub new-requires : goal.new-requires
new-requires c =
    let text = c.args.text.now in
    let toks = c.in_ok-tokens.tokens in
    record { «open» = subst (AreOpen text) (sym c.as_slice.ensures) (open_from text toks 0 c.in_ok-tokens.ensures.tokens (some_tokens text toks c.in_ok-tokens.ensures.tokens)) }

pub read_tokens-requires : goal.read_tokens-requires
read_tokens-requires c =
    let spelt = of_layout 0 c.args.text.now _ c.in_ok-tokens.ensures.tokens.said in
    rw (c.new.ensures, c.as_slice.ensures) spelt
