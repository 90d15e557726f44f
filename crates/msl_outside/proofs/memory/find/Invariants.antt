use Rattle.std.proofs.Common.{◌≡◌, drop}
use Rattle.msl_outside.specs.Fetching.{bytes_under}
use Rattle.msl_outside.proofs.memory.find.Given as goal

abbrev pub invariant-loop-file : goal.invariant-loop-file
invariant-loop-file l = bytes_under (drop l.file-index l.files) l.name ≡ bytes_under l.files l.name
