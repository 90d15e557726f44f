use Rattle.std.proofs.Common.{Bool, if◌then◌else◌, refl, ap, sym, ◌∙◌}
use Rattle.msl_lex.specs.declared.kind.Kind.TheVariants as kind
use Rattle.msl_base.proofs.Names.{among_is}
use Rattle.msl_fun_read.proofs.parse.declared.Declared.unknown.Goals as goal

pub returns-then-is_some : goal.returns-then-is_some
returns-then-is_some c =
    let others = c.args.self.now.others.now in
    let there = among_is others others c.args.name.now _ refl c.position_among.ensures c.is_some.result c.is_some.ensures ∙ c.if-is_some.true in
    ap (λ (b : Bool). if b then kind.WrongKind else kind.Unknown) (sym there)

pub returns-else-is_some : goal.returns-else-is_some
returns-else-is_some c =
    let others = c.args.self.now.others.now in
    let absent = among_is others others c.args.name.now _ refl c.position_among.ensures c.is_some.result c.is_some.ensures ∙ c.if-is_some.false in
    ap (λ (b : Bool). if b then kind.WrongKind else kind.Unknown) (sym absent)
