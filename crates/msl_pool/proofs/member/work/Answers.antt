use Rattle.std.proofs.lemmas.Result.{IfOk-weaker}
use Rattle.msl_pool.proofs.Keeping.{worked}
use Rattle.msl_pool.specs.Turning.{paths_in}
use Rattle.msl_pool.proofs.member.work.Goals as goal

pub returns-in-Some-clause-works : goal.returns-in-Some-clause-works
returns-in-Some-clause-works g c =
    let search = g.S.Search in
    IfOk-weaker c.work.result _ _
    (λ _ works. worked (search.is_node c.work.new.self) (search.has c.args.search.now) (search.has c.work.new.self) c.in-Some.at.path (paths_in c.args.member.now) c.take.new.member.mail c.take.new.member.held.items c.work.new.held.items c.in-Some.ensures.paths works)
    c.work.ensures.works
