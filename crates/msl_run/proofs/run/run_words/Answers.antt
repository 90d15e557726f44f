use Rattle.std.proofs.Common.{◌≡◌, Option, Some, List, ℕ, ap, sym, subst, refl, inr, ◌∙◌}
use Rattle.msl_io.specs.Known.{Told}
use Rattle.msl_program.specs.Runs.{RunsMain}
use Rattle.msl_stage.specs.Endings.{ends}
use Rattle.msl_io.proofs.Told.{told_same}
use Rattle.msl_run.specs.TopCall.{AsksFor, ByGiven, Checks, IsAsked, OfCommand, OfFile}
use Rattle.msl_words.specs.declared.command_line.Command.{Command}
use Rattle.msl_words.specs.declared.command_line.Command.TheVariants.{Rounds, Check, Demo}
use Rattle.msl_words.proofs.Ranges.{is_in_range}
use Rattle.msl_run.proofs.run.run_words.Goals as goal

pub rounds_file-requires-after_bounds : goal.rounds_file-requires-after_bounds
rounds_file-requires-after_bounds g c κs within = is_in_range c.args.words.now (Rounds _ c.in-Ok-Rounds.have) (c.in-Ok-Rounds.ensures.ok ∙ ap Some c.in-Ok-Rounds.field-0-is)

pub demonstrate-requires-after_bounds : goal.demonstrate-requires-after_bounds
demonstrate-requires-after_bounds g c κs within = (is_in_range c.args.words.now (Demo c.in-Ok-Demo.records c.in-Ok-Demo.have) (c.in-Ok-Demo.ensures.ok ∙ ap Some c.in-Ok-Demo.field-0-is)).0

pub returns-in-Ok-Check-clause-ran : goal.returns-in-Ok-Check-clause-ran
returns-in-Ok-Check-clause-ran g c =
    let left = g.S.Source.left c.args.src.now in
    let after = ends left left (g.K.Sink.held c.args.out.now) (g.K.Sink.held c.check_file.new.out) in
    let checked = subst (λ (n : List ℕ). OfFile (ByGiven c.in-Ok-Check.have Checks) (g.L.Library.file c.args.lib.now n) after c.check_file.result) c.as_str-in-Ok-Check.ensures (c.check_file.ensures.checked left) in
    subst (λ (m : Option Command). OfCommand m (g.L.Library.file c.args.lib.now) after c.check_file.result) (sym (c.in-Ok-Check.ensures.ok ∙ ap Some c.in-Ok-Check.field-0-is)) checked

pub returns-in-Ok-Demo-clause-ran : goal.returns-in-Ok-Demo-clause-ran
returns-in-Ok-Demo-clause-ran g c =
    let left = g.S.Source.left c.args.src.now in
    let after = ends left left (g.K.Sink.held c.args.out.now) (g.K.Sink.held c.demonstrate.new.out) in
    subst (λ (m : Option Command). OfCommand m (g.L.Library.file c.args.lib.now) after c.demonstrate.result) (sym (c.in-Ok-Demo.ensures.ok ∙ ap Some c.in-Ok-Demo.field-0-is)) (inr (c.demonstrate.ensures.demonstrated left))

pub returns-in-Ok-Seq-clause-asked : goal.returns-in-Ok-Seq-clause-asked
returns-in-Ok-Seq-clause-asked g c =
    let told = subst (λ (n : List ℕ). Told (g.L.Library.asked c.args.lib.now) (g.L.Library.asked c.run_file.new.lib) (IsAsked n)) c.as_str.ensures c.run_file.ensures.asked in
    subst (λ (m : Option Command). Told (g.L.Library.asked c.args.lib.now) (g.L.Library.asked c.run_file.new.lib) (AsksFor m)) (sym (c.in-Ok-Seq.ensures.ok ∙ ap Some c.in-Ok-Seq.field-0-is)) told

pub returns-in-Ok-Check-clause-asked : goal.returns-in-Ok-Check-clause-asked
returns-in-Ok-Check-clause-asked g c =
    let told = subst (λ (n : List ℕ). Told (g.L.Library.asked c.args.lib.now) (g.L.Library.asked c.check_file.new.lib) (IsAsked n)) c.as_str-in-Ok-Check.ensures c.check_file.ensures.asked in
    subst (λ (m : Option Command). Told (g.L.Library.asked c.args.lib.now) (g.L.Library.asked c.check_file.new.lib) (AsksFor m)) (sym (c.in-Ok-Check.ensures.ok ∙ ap Some c.in-Ok-Check.field-0-is)) told

pub returns-in-Ok-Demo-clause-asked : goal.returns-in-Ok-Demo-clause-asked
returns-in-Ok-Demo-clause-asked g c =
    subst (λ (m : Option Command). Told (g.L.Library.asked c.args.lib.now) (g.L.Library.asked c.args.lib.now) (AsksFor m)) (sym (c.in-Ok-Demo.ensures.ok ∙ ap Some c.in-Ok-Demo.field-0-is)) (told_same _ (g.L.Library.asked c.args.lib.now) (λ x. refl))
