use Rattle.std.proofs.Common.{Bool, ◌||◌, refl, ap, sym, ◌∙◌}
use Rattle.msl_base.specs.Names.{is_among}
use Rattle.msl_fun.specs.Checks.{names_of}
use Rattle.msl_base.proofs.Names.{among_is}
use Rattle.msl_fun_read.proofs.parse.declared.Declared.declares.Goals as goal

pub returns-then-is_some : goal.returns-then-is_some
returns-then-is_some c =
    let named = among_is (names_of c.args.self.now.funs.now) (names_of c.args.self.now.funs.now) c.args.name.now _ refl c.find.ensures c.is_some.result c.is_some.ensures ∙ c.if-is_some.true in
    c.if-is_some.true ∙ ap (λ (b : Bool). b || is_among c.args.self.now.others.now c.args.name.now) (sym named)

pub returns-else-is_some : goal.returns-else-is_some
returns-else-is_some c =
    let named = among_is (names_of c.args.self.now.funs.now) (names_of c.args.self.now.funs.now) c.args.name.now _ refl c.find.ensures c.is_some.result c.is_some.ensures ∙ c.if-is_some.false in
    let other = among_is c.args.self.now.others.now c.args.self.now.others.now c.args.name.now _ refl c.position_among.ensures _ c.is_some-else-is_some.ensures in
    sym other ∙ ap (λ (b : Bool). b || is_among c.args.self.now.others.now c.args.name.now) (sym named)
