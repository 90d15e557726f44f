use Rattle.std.proofs.Common.{refl, sym, ◌∙◌}
use Rattle.msl_fun.specs.Checks.{names_of}
use Rattle.msl_grammar.specs.Uses.{used}
use Rattle.msl_grammar.specs.ScriptGrammar.{a_use_name, of_kind, fun_place, reading}
use Rattle.msl_grammar.proofs.Leaves.{name_passes, name_fails, kind_absent, kind_found, placed}
use Rattle.msl_data_read.proofs.ProgramLeaves.{fun_declared}
use Rattle.msl_data_read.proofs.scope.Scope.use_name.Goals as goal

pub returns-in_default-find-clause-read : goal.returns-in_default-find-clause-read
returns-in_default-find-clause-read c =
    let m = c.args.self.now.known.now in
    rw (c.refusal.ensures, c.unknown.ensures)
    (λ k. name_fails (a_use_name m k) (of_kind m (names_of m.funs)) (λ at n. k (used (fun_place m n) at)) (λ t behind. refl) c.args.c.now c.in-Some.name.now _ c.in-Some.ensures.name
    (kind_absent m (names_of m.funs) _ c.in-Some.name.now (sym c.find.ensures ∙ c.in_default-find.is)))

pub returns-clause-read : goal.returns-clause-read
returns-clause-read c =
    let m = c.args.self.now.known.now in
    let n = c.in-Some.name.now in
    let fun = c.in-Some-find.fun in
    let some = sym c.find.ensures ∙ c.in-Some-find.is in
    λ k. name_passes (a_use_name m k) (of_kind m (names_of m.funs)) (λ at n. k (used (fun_place m n) at)) (λ t behind. refl) c.args.c.now n c.in-Some.ensures.name
    (kind_found m (names_of m.funs) _ n fun some (fun_declared m n fun some))
    ∙ (λ i. reading (sym c.advance.ensures i) (k (record { fun = placed (names_of m.funs) n fun some i; at = sym c.place-at.ensures i; args = sym c.new.ensures i })))
