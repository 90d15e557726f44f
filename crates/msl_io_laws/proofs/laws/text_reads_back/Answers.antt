use Rattle.msl_io_laws.proofs.Texts.{reads_back, begins_so, is_of_one}
use Rattle.msl_io_laws.proofs.laws.text_reads_back.Goals as goal

pub returns : goal.returns
returns c = record { whole = reads_back; part = begins_so; one = is_of_one }
