use Rattle.std.proofs.Common.{◌≡◌, List, flat_map, take, sym, ap, ◌∙◌, subst, arith}
use Rattle.std.proofs.lemmas.List.{take_all}
use Rattle.msl_base.specs.Streams.{Record, Outcome}
use Rattle.msl_local.specs.Outcomes.{Stops}
use Rattle.msl_program.specs.Calls.{run}
use Rattle.msl_division.proofs.division.Division.combine.Goals as goal

pub returns-in-Ok-clause-combined : goal.returns-in-Ok-clause-combined
returns-in-Ok-clause-combined c =
    let here = c.args.self.now in
    let all : take c.loop-value.value-index c.args.values.now ≡ c.args.values.now = take_all c.loop-value.value-index c.args.values.now (omega arith) in
    let numbers : take c.loop-value.n c.loop-value.numbers ≡ flat_map (λ (r : Record). r) c.args.values.now = c.loop-value.invariant.so_far ∙ ap (λ (vs : List Record). flat_map (λ (r : Record). r) vs) all in
    sym (ap (run here.calls here.stage here.spec.now.combine) numbers) ∙ c.in-Ok.ensures.results here.stage

pub returns-in-Err-clause-combined : goal.returns-in-Err-clause-combined
returns-in-Err-clause-combined c =
    let here = c.args.self.now in
    let all : take c.loop-value.value-index c.args.values.now ≡ c.args.values.now = take_all c.loop-value.value-index c.args.values.now (omega arith) in
    let numbers : take c.loop-value.n c.loop-value.numbers ≡ flat_map (λ (r : Record). r) c.args.values.now = c.loop-value.invariant.so_far ∙ ap (λ (vs : List Record). flat_map (λ (r : Record). r) vs) all in
    subst (λ (r : Outcome). Stops r c.halted.new.why) (sym (sym (ap (run here.calls here.stage here.spec.now.combine) numbers) ∙ c.in-Err.ensures.results here.stage)) c.halted.ensures
