use Rattle.std.proofs.Common.{List, length, get_or, refl, ◌∙◌, ap}
use Rattle.std.proofs.lemmas.Option.{slice_get_read}
use Rattle.msl_fun.specs.declared.funs.Fun.{Fun}
use Rattle.msl_fun.proofs.muscle.Muscle.get.Goals as goal

pub returns-clause-found : goal.returns-clause-found
returns-clause-found c =
    let at = c.args.self.now.at in
    let within = c.args.self.now.within in
    let f = c.index-as_slice-self.result in
    slice_get_read c.args.self.now.funs.now (length c.args.self.now.funs.now) at f refl within (c.index-as_slice-self.is ∙ ap (λ (fs : List Fun). get_or fs at f) c.as_slice.ensures.list)

pub returns-clause-rules : goal.returns-clause-rules
returns-clause-rules c = c.as_slice.ensures.funs.each c.args.self.now.at c.index-as_slice-self.result (returns-clause-found c)
