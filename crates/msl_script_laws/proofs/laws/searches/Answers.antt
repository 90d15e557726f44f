use Rattle.msl_script_laws.proofs.Searched.{first_of_two, second_of_two, below_dropped, its_fault, not_below_dropped, broken_stays}
use Rattle.msl_script_laws.proofs.laws.searches.Goals as goal

pub returns : goal.returns
returns c = record { first = first_of_two; second = second_of_two; below_dropped = below_dropped; fault = its_fault; not_below_dropped = not_below_dropped; broken = broken_stays }
