use Rattle.msl_base.proofs.Codes.{code_positive, code_below, code_distinct}
use Rattle.msl_base.proofs.laws.a_code_is_of_one_path.Goals as goal

pub returns : goal.returns
returns c = record {
  range = λ bits path h. (code_positive bits path, code_below bits path h);
  distinct = λ bits p q some h k e. code_distinct bits some p q h.steps k.steps e;
}
