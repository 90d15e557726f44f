use Rattle.msl_base.proofs.Codes.{read_back, made_back}
use Rattle.msl_base.proofs.laws.codes_are_undone.Goals as goal

pub returns : goal.returns
returns c = record { read = λ bits path found some h d. read_back bits some path found h d; made = made_back }
