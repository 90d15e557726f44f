use Rattle.std.proofs.Common.{◌≡◌, ◌<◌, ℕ, [], List, length, get_or, arith, ap, ◌∙◌}
use Rattle.std.proofs.lemmas.Grind.{get_or_default_zero}
use Rattle.msl_fun.specs.declared.funs.Fun.{Fun}
use Rattle.msl_fun.specs.Checks.{ranks_from}
use Rattle.msl_fun.proofs.Ranks.{length-ranks}
use Rattle.msl_fun.proofs.funs.Funs.rank.Goals as goal

-- there is a rank for each function
within : (ranks : List ℕ) (funs : List Fun) (at : ℕ) → ranks ≡ ranks_from [] funs → at < length funs → at < length ranks
within ranks funs at is lt = omega (arith, ap (length {A = ℕ}) is, length-ranks [] funs)

pub index-requires : goal.index-requires
index-requires c = omega (arith, within _ c.args.self.now _ (c.self.invariant.ranks ∙ ap (ranks_from []) c.self.view_is) c.requires)

pub returns : goal.returns
returns c =
    let at = c.args.at in
    let is = c.self.invariant.ranks ∙ ap (ranks_from []) c.self.view_is in
    c.index.ensures ∙ get_or_default_zero _ at _ (within _ c.args.self.now at is c.requires) ∙ ap (λ (ranks : List ℕ). get_or ranks at 0) is
