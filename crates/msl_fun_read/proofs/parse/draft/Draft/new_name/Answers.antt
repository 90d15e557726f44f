use Rattle.std.proofs.Common.{[], ◌∷◌, ◌++◌, refl, ap, sym, subst, ◌∙◌, arith}
use Rattle.msl_base.specs.Names.{Text}
use Rattle.msl_fun_read.specs.Naming.{IsNoName}
use Rattle.msl_base.proofs.Names.{among_is}
use Rattle.msl_fun_read.proofs.parse.draft.Draft.new_name.Goals as goal

pub returns-then-is_some : goal.returns-then-is_some
returns-then-is_some c =
    let taken = among_is c.args.self.now.scope c.as_slice.result.now c.in-Some.name.now _ c.as_slice.ensures c.position_among.ensures c.is_some.result c.is_some.ensures ∙ c.if-is_some.true in
    record { name = subst (IsNoName c.args.self.now) (sym c.refusal-then-is_some.ensures) ((c.in-Some.name.now, record { name = c.in-Some.ensures.name; few = omega arith; taken = taken }), refl) }

pub returns : goal.returns
returns c =
    let free = among_is c.args.self.now.scope c.as_slice.result.now c.in-Some.name.now _ c.as_slice.ensures c.position_among.ensures c.is_some.result c.is_some.ensures ∙ c.if-is_some.false in
    record {
      name = record {
        name = c.in-Some.ensures.name;
        is_name = c.in-Some.ensures.is_name;
        few = omega arith;
        is_new = free;
        cursor = c.advance.ensures;
        scope = refl;
        names = c.in_ok-push.ensures.ok ∙ ap (λ (n : Text). c.args.self.now.names ++ n ∷ []) c.in_ok-of.ensures;
      };
    }
