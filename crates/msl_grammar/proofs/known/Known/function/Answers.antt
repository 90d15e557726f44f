use Rattle.std.proofs.Common.{◌≡◌, Bool, true, false, ◌&&◌, ◌∙◌, refl, sym}
use Rattle.msl_base.proofs.Names.{place_within}
use Rattle.msl_fun.specs.declared.funs.Fun.{Fun}
use Rattle.msl_fun.specs.Checks.{names_of}
use Rattle.msl_program.specs.Widths.{allows}
use Rattle.msl_fun.specs.Meaning.{params_of, results_of}
use Rattle.msl_grammar.specs.ScriptGrammar.{a_function, function_tests, fun_place, reading}
use Rattle.msl_grammar.proofs.Leaves.{name_passes, name_fails, function_absent, function_found, placed}
use Rattle.msl_grammar.proofs.known.Known.function.Goals as goal

pub returns-in_default-find-clause-read : goal.returns-in_default-find-clause-read
returns-in_default-find-clause-read c =
    let m = c.args.self.now in
    rw (c.refusal.ensures, c.unknown.ensures)
    (λ k. name_fails (a_function m c.args.params c.args.results k) (function_tests m c.args.params c.args.results) (λ at n. k (fun_place m n)) (λ t behind. refl) c.args.c.now c.in-Some.name.now _ c.in-Some.ensures.name
    (function_absent m c.args.params c.args.results _ c.in-Some.name.now (sym c.find.ensures ∙ c.in_default-find.is)))

pub returns-then-not-fits-clause-read : goal.returns-then-not-fits-clause-read
returns-then-not-fits-clause-read c =
    let m = c.args.self.now in
    rw c.refusal-then-not-fits.ensures
    (λ k. name_fails (a_function m c.args.params c.args.results k) (function_tests m c.args.params c.args.results) (λ at n. k (fun_place m n)) (λ t behind. refl) c.args.c.now c.in-Some.name.now _ c.in-Some.ensures.name
    (function_found m c.args.params c.args.results _ c.in-Some.name.now c.in-Some-find.fun false (sym c.find.ensures ∙ c.in-Some-find.is) (sym c.fits.ensures ∙ c.if-not-fits.true)))

pub returns-clause-read : goal.returns-clause-read
returns-clause-read c =
    let m = c.args.self.now in
    let some = sym c.find.ensures ∙ c.in-Some-find.is in
    λ k. name_passes (a_function m c.args.params c.args.results k) (function_tests m c.args.params c.args.results) (λ at n. k (fun_place m n)) (λ t behind. refl) c.args.c.now c.in-Some.name.now c.in-Some.ensures.name
    (function_found m c.args.params c.args.results _ c.in-Some.name.now c.in-Some-find.fun true some (sym c.fits.ensures ∙ c.if-not-fits.false))
    ∙ (λ i. reading (sym c.advance.ensures i) (k (placed (names_of m.funs) c.in-Some.name.now c.in-Some-find.fun some i)))

both : (a b : Bool) → (a && b) ≡ true → (a ≡ true) × (b ≡ true)
both true b h = (refl, h)
both false b h = cc

pub returns-clause-is : goal.returns-clause-is
returns-clause-is c =
    let m = c.args.self.now in
    let f = c.in-Some-find.fun in
    let fit = both (allows c.args.params (params_of m.funs f)) (allows c.args.results (results_of m.funs f)) (sym c.fits.ensures ∙ c.if-not-fits.false) in
    record { within = place_within (λ (f : Fun). f.name) m.funs c.in-Some.name.now f (sym c.find.ensures ∙ c.in-Some-find.is); params = fit.0; results = fit.1 }
