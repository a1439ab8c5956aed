-- The calls of a job while its stream comes, and why they stop.
use Rattle.std.specs.Prelude.{ℕ, List, [], ⊤}
use Rattle.press_stream.specs.declared.fault.JobError.{JobError}
use Rattle.press_stream.specs.declared.fault.JobError.TheVariants as errors
use Rattle.press_stream.specs.declared.calls.Call.{Call}
use Rattle.press_stream.specs.declared.calls.Call.TheVariants.{Push, Feed, Step}

-- the bytes that a call hands in
abbrev pub bytes_of : Call → List ℕ
bytes_of (Push piece) = piece.now
bytes_of (Feed piece) = piece.now
bytes_of Step = []

-- Why a stream is not printed of which all bytes are handed in: a sink had a fault, or memory ran out. Nothing is read, so no read fails.
abbrev pub StopsHanded : JobError → Type 0
StopsHanded errors.SinkFault = ⊤
StopsHanded errors.ReplyFault = ⊤
StopsHanded errors.NoMemory = ⊤
StopsHanded errors.ReadFault = ⊥
StopsHanded errors.Failed = ⊥
StopsHanded errors.AfterEnd = ⊥

-- The same where a reader has its rest: that is not read on, or as before.
abbrev pub StopsRead : JobError → Type 0
StopsRead errors.ReadFault = ⊤
StopsRead why = StopsHanded why
