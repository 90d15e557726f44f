use Rattle.msl_pruning.proofs.rounds.bnb_rounds.Given as goal

abbrev pub ghosts-in_turns : goal.ghosts-in_turns
ghosts-in_turns a = record { funs = a.funs.now; spec = a.b.now; stage = a.stage; root = a.root }
