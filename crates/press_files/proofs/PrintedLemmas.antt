-- What printing a stream left, where no job is handed back.
use Rattle.std.proofs.Common.{ℕ, List, Option, Some, None}
use Rattle.press_sink.specs.SinkLog.{SinkLog, under}
use Rattle.press_sink.specs.Sending.{ForMemory, HandsOut}
use Rattle.press_stream.specs.declared.fault.JobError.TheVariants as errors
use Rattle.press_stream.specs.Chain.{PrintsAll}
use Rattle.press_stream.specs.Printed.{Printed}
use Rattle.press_stream.proofs.ChainLemmas.{Printed-stopped, PrintedTo-none}

-- no memory at the beginning
pub Printed-no_memory : PrintsAll → (front : List ℕ) (known : Option (List ℕ)) (tag : ℕ) (told : SinkLog)
    → HandsOut ForMemory (Printed front known known (Some errors.NoMemory) None) (under tag told told)
Printed-no_memory prints front known tag told =
    Printed-stopped front known tag errors.NoMemory None told told (PrintedTo-none prints front tag told)
