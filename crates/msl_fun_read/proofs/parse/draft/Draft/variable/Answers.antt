use Rattle.std.proofs.Common.{sym, subst, refl, ap, ◌∙◌}
use Rattle.msl_read.specs.Front.{form, form_behind}
use Rattle.msl_base.specs.Names.{place_among}
use Rattle.msl_fun_read.proofs.Namings.{BeginsName, named}
use Rattle.msl_read.proofs.Cursors.{name_is}
use Rattle.msl_base.proofs.Names.{place_is}
use Rattle.msl_fun_read.proofs.parse.draft.Draft.variable.Goals as goal

pub unreachable-requires : goal.unreachable-requires
unreachable-requires c =
    let name = named (form c.args.self.now.cursor) (form_behind c.args.self.now.cursor) (subst BeginsName (sym c.requires) tt) in
    cc (name, c.in_default.ensures.name)

pub returns-in-Some-position_among : goal.returns-in-Some-position_among
returns-in-Some-position_among c =
    let word = name_is (form c.args.self.now.cursor) c.in-Some.name.now c.in-Some.ensures.name in
    let found = place_is c.args.self.now.scope c.as_slice.result.now c.in-Some.name.now _ c.as_slice.ensures c.position_among.ensures in
    record {
      at = c.in-Some-position_among.at;
      found = ap (place_among c.args.self.now.scope) word ∙ sym found ∙ c.in-Some-position_among.is;
      tree = c.leaf.ensures;
      cursor = c.advance.ensures;
      scope = refl;
      names = refl;
    }

pub returns-in-None : goal.returns-in-None
returns-in-None c =
    let word = name_is (form c.args.self.now.cursor) c.in-Some.name.now c.in-Some.ensures.name in
    let found = place_is c.args.self.now.scope c.as_slice.result.now c.in-Some.name.now _ c.as_slice.ensures c.position_among.ensures in
    (ap (place_among c.args.self.now.scope) word ∙ sym found ∙ c.in-None.is, c.refusal.ensures)
