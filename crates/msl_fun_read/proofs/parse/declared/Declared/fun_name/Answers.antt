use Rattle.std.proofs.Common.{[], IsTrue, codes, ap, refl, sym, subst, ◌∙◌}
use Rattle.msl_lex.specs.Names.{is_name}
use Rattle.msl_base.specs.Names.{is_among}
use Rattle.msl_fun.specs.Checks.{names_of}
use Rattle.msl_fun_read.specs.Grammar.{token, fun_name, param, reading}
use Rattle.msl_fun_read.specs.Declaring.{head}
use Rattle.msl_read.specs.Refusals.{IsRefused}
use Rattle.msl_fun_read.proofs.Declarings.{is_new, fun_name_taken, fun_name_twice}
use Rattle.msl_fun_read.proofs.parse.declared.Declared.fun_name.Goals as goal

pub returns-then-declares : goal.returns-then-declares
returns-then-declares c =
    let funs = c.args.self.now.funs.now in
    let others = c.args.self.now.others.now in
    subst (IsRefused (reading funs others c.args.d.now.cursor fun_name)) (sym c.refusal.ensures)
    (fun_name_twice funs others c.args.d.now.cursor c.in-Some.name.now c.in-Some.ensures.name (sym c.declares.ensures ∙ c.if-declares.true))

pub returns : goal.returns
returns c =
    let funs = c.args.self.now.funs.now in
    let others = c.args.self.now.others.now in
    let new = sym c.declares.ensures ∙ c.if-declares.false in
    record {
      is_name = subst (λ n. IsTrue (is_name n)) (sym c.in_ok-name.ensures) c.in-Some.ensures.is_name;
      is_new = ap (is_among (names_of funs)) c.in_ok-name.ensures ∙ is_new funs others c.in-Some.name.now new;
      goes = fun_name_taken funs others c.args.d.now.cursor c.in-Some.name.now c.in-Some.ensures.name new
          ∙ (λ i. reading funs others (sym c.advance.ensures i) (token (codes "(") (param (head (sym c.in_ok-name.ensures i) (sym c.place-at.ensures i) []))));
      scope = refl;
      names = refl;
    }
