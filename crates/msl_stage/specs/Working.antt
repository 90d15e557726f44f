-- What a step has done so far, between the stream that it got and the stream that it sent. A cut stream is one whose end
-- hasn't come yet. R is what the step makes of a stream, and R' what it makes of what follows.
use Rattle.std.specs.Prelude.{◌≡◌, Bool, true, false, List}
use Rattle.msl_base.specs.Streams.{Record, Ending, done, failed, unread, cut, Stream, stream, before, Sound}
use Rattle.msl_stage.specs.Feeding.{GoesOn}

abbrev pub continued_by : Ending → List Record → Stream → Stream
continued_by done X rest = stream X done
continued_by (failed f) X rest = stream X (failed f)
continued_by unread X rest = stream X unread
continued_by cut X rest = before X rest

-- a stream, which goes on so where it is cut
abbrev pub continued : Stream → Stream → Stream
continued X rest = continued_by X.ending X.records rest

-- it has sent its end: whatever stream begins with what it got, what it sent is sound
abbrev pub HasEnded : (Stream → Stream → Type 0) → Stream → Stream → Type 0
HasEnded R got sent = (rest : Stream) → Sound R (continued got rest) sent

-- it goes on, or it has ended
abbrev pub HasWorked : (Stream → Stream → Type 0) → (Stream → Stream → Type 0) → Bool → Stream → Stream → Type 0
HasWorked R' R false got sent = (got.ending ≡ cut) × (sent.ending ≡ cut) × GoesOn R' R got.records sent.records
HasWorked R' R true got sent = HasEnded R got sent
