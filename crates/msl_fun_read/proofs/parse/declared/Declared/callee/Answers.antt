use Rattle.std.proofs.Common.{subst, sym, ◌∙◌, arith}
use Rattle.msl_read.specs.Front.{form, form_behind}
use Rattle.msl_fun.specs.Meaning.{params_of, results_of}
use Rattle.msl_fun_read.proofs.Namings.{BeginsName, named}
use Rattle.msl_fun_read.proofs.Callees.{unfound, deep, wide, passed, is_callee, callee_is}
use Rattle.msl_fun_read.proofs.parse.declared.Declared.callee.Goals as goal

pub unreachable-requires : goal.unreachable-requires
unreachable-requires c =
    let name = named (form c.args.d.now.cursor) (form_behind c.args.d.now.cursor) (subst BeginsName (sym c.requires) tt) in
    cc (name, c.in_default.ensures.name)

pub returns-in_default-find-clause-tests : goal.returns-in_default-find-clause-tests
returns-in_default-find-clause-tests c =
    unfound c.args.self.now.funs.now c.args.self.now.others.now c.args.d.now.cursor _ _ c.place-at.ensures c.in-Some.ensures.name
    _ (sym c.find.ensures ∙ c.in_default-find.is) c.unknown.ensures

pub returns-then-rank-ge-MOST_RANK-clause-tests : goal.returns-then-rank-ge-MOST_RANK-clause-tests
returns-then-rank-ge-MOST_RANK-clause-tests c =
    deep c.args.self.now.funs.now c.args.self.now.others.now c.args.d.now.cursor _ _ c.place-at.ensures c.in-Some.ensures.name
    _ (sym c.find.ensures ∙ c.in-Some-find.is) (omega (arith, c.rank.ensures))

pub returns-then-results-ne1-clause-tests : goal.returns-then-results-ne1-clause-tests
returns-then-results-ne1-clause-tests c =
    let results = c.widths-params.ensures.results ∙ (λ i. results_of (c.muscle.ensures.funs i) (c.muscle.ensures.at i)) in
    wide c.args.self.now.funs.now c.args.self.now.others.now c.args.d.now.cursor _ _ c.place-at.ensures c.in-Some.ensures.name
    _ (sym c.find.ensures ∙ c.in-Some-find.is) (omega (arith, c.rank.ensures)) (λ one. c.if-results-ne1.true (results ∙ one))

pub returns-clause-tests : goal.returns-clause-tests
returns-clause-tests c =
    let results = c.widths-params.ensures.results ∙ (λ i. results_of (c.muscle.ensures.funs i) (c.muscle.ensures.at i)) in
    passed c.args.self.now.funs.now c.args.self.now.others.now c.args.d.now.cursor _ _ c.place-at.ensures c.in-Some.ensures.name
    _ (sym c.find.ensures ∙ c.in-Some-find.is) (omega (arith, c.rank.ensures)) (sym results ∙ c.if-results-ne1.false)

pub returns-clause-callee : goal.returns-clause-callee
returns-clause-callee c =
    let results = c.widths-params.ensures.results ∙ (λ i. results_of (c.muscle.ensures.funs i) (c.muscle.ensures.at i)) in
    let params = c.widths-params.ensures.params ∙ (λ i. params_of (c.muscle.ensures.funs i) (c.muscle.ensures.at i)) in (
      is_callee c.args.self.now.funs.now c.args.self.now.others.now c.args.d.now.cursor _ _ c.place-at.ensures c.in-Some.ensures.name
          _ (sym c.find.ensures ∙ c.in-Some-find.is) _ params (omega (arith, c.rank.ensures)) (sym results ∙ c.if-results-ne1.false),
      callee_is c.args.self.now.funs.now c.args.self.now.others.now c.args.d.now.cursor _ _ c.place-at.ensures c.in-Some.ensures.name
          _ (sym c.find.ensures ∙ c.in-Some-find.is) c.widths-params.result.0,
    )
