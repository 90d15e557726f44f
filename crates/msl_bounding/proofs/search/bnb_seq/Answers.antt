use Rattle.std.proofs.Common.{◌≡◌, length, [], None, Ok, Err, sym, ap, subst, ◌∙◌, rules}
use Rattle.msl_base.specs.declared.answer.Halt.{Halt}
use Rattle.msl_fun.specs.Meaning.{params_of}
use Rattle.msl_lists.specs.Whole.{◌>>=◌}
use Rattle.msl_program.specs.Along.{Path}
use Rattle.msl_program.specs.Searches.{node}
use Rattle.msl_bounding.specs.Nodes.{Leaves}
use Rattle.msl_bounding.specs.Visits.{answer_of, best_after, visits}
use Rattle.msl_bounding.specs.declared.bounding.Bounding.{Bounding}
use Rattle.msl_bounding.proofs.Visits.{outcome_is}
use Rattle.msl_bounding.proofs.search.bnb_seq.Goals as goal

pub returns-in-Ok-answer : goal.returns-in-Ok-answer
returns-in-Ok-answer c =
    let s = c.new.result in
    let x = c.args.xs.now in
    let wide : length x ≡ params_of c.args.funs.now c.args.b.now.bound = search rules in
    let visited = subst (λ (q : Path). best_after s None (visits s q (node x None)) ≡ Ok c.visit.new.self.best) c.root.ensures c.in-Ok.ensures.best in
    c.in-Ok-answer.ensures
    ∙ ap (λ (n : Bounding). answer_of n c.visit.new.self.best) c.in-Ok.ensures.same
    ∙ sym (outcome_is s c.args.funs.now c.args.b.now c.args.stage x c.new.ensures.funs c.new.ensures.spec c.new.ensures.stage wide ∙ ap (λ r. r >>= answer_of s) visited)

pub returns-in-Fault : goal.returns-in-Fault
returns-in-Fault c =
    let s = c.new.result in
    let x = c.args.xs.now in
    let wide : length x ≡ params_of c.args.funs.now c.args.b.now.bound = search rules in
    let Left : Path → Halt → Type 0 = λ q why. Leaves {B = Unit {0}} (best_after s None (visits s q (node x None))) c.visit.new.self.best (Err c.in-Err.field-0) why in
    let visited : best_after s None (visits s [] (node x None)) ≡ Err c.in-Fault.fault = subst (λ why. Left [] why) c.in-Fault.is (subst (λ q. Left q c.visit.new.why) c.root.ensures c.in-Err.ensures.best) in
    sym (outcome_is s c.args.funs.now c.args.b.now c.args.stage x c.new.ensures.funs c.new.ensures.spec c.new.ensures.stage wide ∙ ap (λ r. r >>= answer_of s) visited)
