use Rattle.std.proofs.Common.{pos, [], ◌∷◌, refl}
use Rattle.std.proofs.lemmas.List.Sorted.{IsPermutation-reverse}
use Rattle.msl_base.specs.Examples.{first_of}
use Rattle.msl_base.specs.Streams.{Trial, trial_of}
use Rattle.msl_base.proofs.laws.records_of_a_farm.Goals as goal

abbrev three : Trial
three = trial_of first_of (pos 3 ∷ [])

abbrev five : Trial
five = trial_of first_of (pos 5 ∷ [])

pub returns-clause-turned : goal.returns-clause-turned
returns-clause-turned c = record {
  trials = three ∷ five ∷ [];
  order = five ∷ three ∷ [];
  rest = [];
  all = (refl, (refl, tt));
  reordered = IsPermutation-reverse (three ∷ five ∷ []);
  from = refl;
  to = refl;
  ends = (refl, refl);
}

pub returns-clause-fault : goal.returns-clause-fault
returns-clause-fault c = record {
  trials = three ∷ trial_of first_of [] ∷ five ∷ [];
  order = five ∷ trial_of first_of [] ∷ three ∷ [];
  rest = [];
  all = (refl, (refl, (refl, tt)));
  reordered = IsPermutation-reverse (three ∷ trial_of first_of [] ∷ five ∷ []);
  from = refl;
  to = refl;
  ends = refl;
}
