use Rattle.std.proofs.Common.{subst}
use Rattle.std.specs.Result.{OnOk, OnErr}
use Rattle.std.specs.Io.KnownBytes.{Appends}
use Rattle.msl_io.specs.Text.{AppendsPart}
use Rattle.msl_io.proofs.Appending.{text_of-first}
use Rattle.msl_io.proofs.write.RecWriter.write.Goals as goal

pub returns-in-len1-up-clause-ok : goal.returns-in-len1-up-clause-ok
returns-in-len1-up-clause-ok g c =
    subst (λ t. OnOk c.write_others.result (Appends (g.K.Sink.held c.args.sink.now) (g.K.Sink.held c.write_others.new.sink) t))
    (text_of-first c.args.xs.now c.clear.new.self c.push_number.new.self c.in-len1-up.len_at_least c.clear.ensures c.push_number.ensures.text) c.write_others.ensures.ok

pub returns-in-len1-up-clause-err : goal.returns-in-len1-up-clause-err
returns-in-len1-up-clause-err g c =
    subst (λ t. OnErr c.write_others.result (AppendsPart (g.K.Sink.held c.args.sink.now) (g.K.Sink.held c.write_others.new.sink) t))
    (text_of-first c.args.xs.now c.clear.new.self c.push_number.new.self c.in-len1-up.len_at_least c.clear.ensures c.push_number.ensures.text) c.write_others.ensures.err
