use Rattle.msl_data.proofs.context.Context.value.Goals as goal

pub returns-in-Map-clause-value : goal.returns-in-Map-clause-value
returns-in-Map-clause-value g c = rw c.in-Map.is c.map.ensures.value

pub returns-in-Zip-clause-value : goal.returns-in-Zip-clause-value
returns-in-Zip-clause-value g c = rw c.in-Zip.is c.zip.ensures.value
