use Rattle.std.proofs.Common.{arith, []}
use Rattle.msl_base.proofs.Codes.{root_decodes, one_further, none_between}
use Rattle.msl_base.proofs.laws.codes_with_2_bits.Goals as goal

pub returns-clause-read : goal.returns-clause-read
returns-clause-read c = one_further 2 (omega arith) 6 (omega arith) [] (omega arith) (root_decodes 2)

pub returns-clause-within : goal.returns-clause-within
returns-clause-within c = none_between 2 2 (omega arith) (omega arith) (omega arith)

pub returns-clause-zero : goal.returns-clause-zero
returns-clause-zero c = none_between 2 0 (omega arith) (omega arith) (omega arith)
