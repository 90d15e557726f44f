use Rattle.msl_demo_laws.proofs.OneLine.{line_is_closed, gives_the_line, gives_only_the_line, gives_one_line}
use Rattle.msl_demo_laws.proofs.laws.line_is_one.Goals as goal

pub returns : goal.returns
returns c = record { closed = line_is_closed; given = gives_the_line; only = gives_only_the_line; one = gives_one_line }
