use Rattle.std.proofs.Common.{◌≡◌, List, [], ◌∷◌, ◌++◌, ap, sym, ◌∙◌}
use Rattle.msl_grammar.specs.ScriptGrammar.{a_stage, more_stages, reading}
use Rattle.msl_program.specs.declared.stage.Stage.{Stage}
use Rattle.msl_grammar.proofs.Exits.{is_err}
use Rattle.msl_script_read.proofs.StageLeaves.{along, read_from, farm_goes, pipe_goes, more_goes, more_ends}
use Rattle.msl_script_read.proofs.stage.StageReader.+stage.Goals as goal

-- ---- a farm

pub farm-returns-in_err-workers-clause-read : goal.farm-returns-in_err-workers-clause-read
farm-returns-in_err-workers-clause-read t c =
    rw (is_err c.from_residual-in_err-workers.result c.from_residual-in_err-workers.ensures.1)
    (λ k. along _ _ _ (farm_goes c.args.self.now.known.now c.args.nest c.args.counts k c.args.c.now c.deeper.new.c c.in_ok-inner.inner c.in_ok-inner.ensures.tested c.requires.said) (c.in_err-workers.ensures.read _))

pub farm-returns-in_err-quoted-clause-read : goal.farm-returns-in_err-quoted-clause-read
farm-returns-in_err-quoted-clause-read t c =
    rw (is_err c.from_residual-in_err-quoted.result c.from_residual-in_err-quoted.ensures.1)
    (λ k. along _ _ _ (farm_goes c.args.self.now.known.now c.args.nest c.args.counts k c.args.c.now c.deeper.new.c c.in_ok-inner.inner c.in_ok-inner.ensures.tested c.requires.said ∙ c.in_ok-workers.ensures.read _) (c.in_err-quoted.ensures.read _))

pub farm-returns-in_err-counts-clause-read : goal.farm-returns-in_err-counts-clause-read
farm-returns-in_err-counts-clause-read t c =
    rw (is_err c.from_residual-in_err-counts.result c.from_residual-in_err-counts.ensures.1)
    (λ k. along _ _ _ (farm_goes c.args.self.now.known.now c.args.nest c.args.counts k c.args.c.now c.deeper.new.c c.in_ok-inner.inner c.in_ok-inner.ensures.tested c.requires.said ∙ c.in_ok-workers.ensures.read _ ∙ c.in_ok-quoted.ensures.read _) (c.in_err-counts.ensures.read _))

pub farm-returns-in_err-quoted-2-clause-read : goal.farm-returns-in_err-quoted-2-clause-read
farm-returns-in_err-quoted-2-clause-read t c =
    rw (is_err c.from_residual-in_err-quoted-2.result c.from_residual-in_err-quoted-2.ensures.1)
    (λ k. along _ _ _ (farm_goes c.args.self.now.known.now c.args.nest c.args.counts k c.args.c.now c.deeper.new.c c.in_ok-inner.inner c.in_ok-inner.ensures.tested c.requires.said ∙ c.in_ok-workers.ensures.read _ ∙ c.in_ok-quoted.ensures.read _ ∙ c.in_ok-counts.ensures.read _) (c.in_err-quoted-2.ensures.read _))

-- ---- a pipe

pub pipe-returns-in_err-quoted-clause-read : goal.pipe-returns-in_err-quoted-clause-read
pipe-returns-in_err-quoted-clause-read t c =
    rw (is_err c.from_residual-in_err-quoted.result c.from_residual-in_err-quoted.ensures.1)
    (λ k. along _ _ _ (pipe_goes c.args.self.now.known.now c.args.nest c.args.counts k c.args.c.now c.deeper.new.c c.in_ok-inner.inner c.in_ok-inner.ensures.tested c.requires.said) (c.in_err-quoted.ensures.read _))

pub pipe-returns-in_err-counts-clause-read : goal.pipe-returns-in_err-counts-clause-read
pipe-returns-in_err-counts-clause-read t c =
    rw (is_err c.from_residual-in_err-counts.result c.from_residual-in_err-counts.ensures.1)
    (λ k. along _ _ _ (pipe_goes c.args.self.now.known.now c.args.nest c.args.counts k c.args.c.now c.deeper.new.c c.in_ok-inner.inner c.in_ok-inner.ensures.tested c.requires.said ∙ c.in_ok-quoted.ensures.read _) (c.in_err-counts.ensures.read _))

pub pipe-returns-clause-read : goal.pipe-returns-clause-read
pipe-returns-clause-read t c =
    let m = c.args.self.now.known.now in
    let inner = c.in_ok-inner.inner in
    let now = c.in_ok-counts.counts in
    let one : c.push.new.self ≡ c.in_ok-counts.stage ∷ [] = c.in_ok-push.ensures.ok ∙ ap (λ (ss : List Stage). ss ++ c.in_ok-counts.stage ∷ []) c.new-stages.ensures in
    read_from c.args.c.now c.stage.new.c c.more_stages.new.c (a_stage m c.args.nest c.args.counts) (more_stages m inner now c.push.new.self)
    (λ k. pipe_goes m c.args.nest c.args.counts k c.args.c.now c.deeper.new.c inner c.in_ok-inner.ensures.tested c.requires.said ∙ c.in_ok-quoted.ensures.read _ ∙ c.in_ok-counts.ensures.read _
    ∙ ap (λ (ss : List Stage). reading c.stage.new.c (more_stages m inner now ss k)) (sym one))
    c.more_stages.result c.more_stages.ensures.read

-- ---- the rest of a pipe

pub more_stages-returns-in_err-more-clause-read : goal.more_stages-returns-in_err-more-clause-read
more_stages-returns-in_err-more-clause-read t c =
    rw (is_err c.from_residual.result c.from_residual.ensures.1)
    (λ k. along _ _ _ (c.loop-nest.invariant.reads k ∙ more_goes c.args.self.now.known.now c.args.nest c.loop-nest.counts k c.loop-nest.c c.loop-nest.stages c.take.new.self (sym c.loop-nest-test.ensures.said) c.loop-nest-test.ensures.taken)
    (c.in_err-more.ensures.read _))

pub more_stages-returns-in_err-quoted-clause-read : goal.more_stages-returns-in_err-quoted-clause-read
more_stages-returns-in_err-quoted-clause-read t c =
    rw (is_err c.from_residual-in_err-quoted.result c.from_residual-in_err-quoted.ensures.1)
    (λ k. along _ _ _ (c.loop-nest.invariant.reads k ∙ more_ends c.args.self.now.known.now c.args.nest c.loop-nest.counts k c.loop-nest.c c.loop-nest.stages c.take.new.self (sym c.loop-nest-test.ensures.said) c.loop-nest-test.ensures.taken)
    (c.in_err-quoted.ensures.read _))
