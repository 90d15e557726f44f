use Rattle.msl_demo.proofs.Running.{is_whole, are_few, gives}
use Rattle.msl_demo.proofs.run.demo_line.Goals as goal

pub tally_of-requires-clause-whole : goal.tally_of-requires-clause-whole
tally_of-requires-clause-whole g c = is_whole c.args.records c.requires c.in_ok-output.output c.in_ok-output.ensures

pub tally_of-requires-clause-few : goal.tally_of-requires-clause-few
tally_of-requires-clause-few g c = are_few c.args.records c.requires c.in_ok-output.output c.in_ok-output.ensures

pub returns : goal.returns
returns g c = gives c.args.records c.requires c.in_ok-output.output c.in_ok-output.ensures c.in_ok-tally.tally c.line.result c.in_ok-tally.ensures c.line.ensures
