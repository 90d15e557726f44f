use Rattle.std.proofs.Common.{refl, Bool, ◌||◌, ap, sym, ◌∙◌}
use Rattle.msl_base.specs.Names.{is_among}
use Rattle.msl_fun.specs.Checks.{names_of}
use Rattle.msl_base.proofs.Names.{among_is}
use Rattle.msl_grammar.proofs.known.Known.declares.Goals as goal

pub returns-then-is_some : goal.returns-then-is_some
returns-then-is_some c =
    let m = c.args.self.now in
    let named = among_is (names_of m.funs) (names_of m.funs) c.args.name.now _ refl c.find.ensures c.is_some.result c.is_some.ensures ∙ c.if-is_some.true in
    c.if-is_some.true ∙ ap (λ (b : Bool). b || is_among m.others c.args.name.now) (sym named)

pub returns-else-is_some : goal.returns-else-is_some
returns-else-is_some c =
    let m = c.args.self.now in
    let named = among_is (names_of m.funs) (names_of m.funs) c.args.name.now _ refl c.find.ensures c.is_some.result c.is_some.ensures ∙ c.if-is_some.false in
    let other = among_is m.others c.others.result.now c.args.name.now _ c.others.ensures c.position_among.ensures _ c.is_some-else-is_some.ensures in
    sym other ∙ ap (λ (b : Bool). b || is_among m.others c.args.name.now) (sym named)
