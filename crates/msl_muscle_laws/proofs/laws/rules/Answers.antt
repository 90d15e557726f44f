use Rattle.msl_muscle_laws.proofs.Examples.{rules_of_g, rules_of_h, rules_of_f, rules_of_b, rules_of_c}
use Rattle.msl_muscle_laws.proofs.laws.rules.Goals as goal

pub returns : goal.returns
returns c = record { g = rules_of_g; h = rules_of_h; f = rules_of_f; b = rules_of_b; c = rules_of_c }
