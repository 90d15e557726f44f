use Rattle.std.proofs.Common.{◌-◌, List}
use Rattle.msl_base.specs.Streams.{Record}
use Rattle.msl_demo.specs.Reading.{HasCome}
use Rattle.msl_demo.specs.Tallies.{IsTallyOf}
use Rattle.msl_demo.proofs.count.tally_of.Given as goal

abbrev pub invariant-records : goal.invariant-records
invariant-records l = record {
  counted : (front : List Record) × HasCome l.fn.text front l.reader l.src × IsTallyOf front l.tally;
}

abbrev pub decreases-records : goal.decreases-records
decreases-records l = l.reader.lines - l.reader.read
