use Rattle.msl_base.proofs.path.Path.+of_code.Given as goal

abbrev pub decreases-of_code : goal.decreases-of_code
decreases-of_code l = l.code
