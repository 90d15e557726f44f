use Rattle.std.proofs.Common.{◌≡◌, false, drop}
use Rattle.msl_words.specs.Progress.{takes, takes_after}
use Rattle.msl_words.specs.declared.progress.Stage.TheVariants.{Absent}
use Rattle.msl_words.proofs.progress.progress_over.Given as goal

-- the words that are left may follow where all may follow
abbrev pub invariant-loop-word : goal.invariant-loop-word
invariant-loop-word l = takes l.verb l.progress (drop l.word-index l.words) ≡ takes_after l.verb false Absent l.words
