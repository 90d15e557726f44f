-- What a run leaves behind. The table of its endings is `Ran` of `Endings` in `msl_stage`:
--     Ran means input left written end
-- says it of a run that found `input` at its source and left `left` there, where `written` is what its sink grew by, and
-- `means` relates a stream to each stream that the script may make of it. This page says which ending a status tells.
use Rattle.std.specs.Prelude.{IsSomeAnd, Option, Some, None}
use Rattle.msl_base.specs.Streams.{Stream}
use Rattle.msl_base.specs.declared.fault.End.{End}
use Rattle.msl_base.specs.declared.fault.End.TheVariants as run
use Rattle.msl_stage.specs.Endings.{Ends, RanTold as EndedTold}
use Rattle.msl_run.specs.declared.status.Status.{Status}
use Rattle.msl_run.specs.declared.status.Status.TheVariants.{Done, Usage, Library, ScriptLong, Script, Need, Stream as Faulted, Read, Write, Memory}

abbrev pub end_of : Status → Option End
end_of Done = Some run.Done
end_of (Faulted fault) = Some (run.Fault fault)
end_of Read = Some run.Read
end_of Write = Some run.Write
end_of Memory = Some run.Memory
-- no run began
end_of Usage = None
end_of Library = None
end_of ScriptLong = None
end_of (Script kind at) = None
end_of (Need need have) = None

-- A run began, and the sink only grew. Where the source tells its bytes, what is left is an end of what was there, and
-- `Ran` holds of the ending that the status tells.
abbrev pub RanTold : (Stream → Stream → Type 0) → Ends → Status → Type 0
RanTold means e status = IsSomeAnd (end_of status) (EndedTold means e)
