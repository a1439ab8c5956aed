-- What the refusals of a job leave, and what they tell of the sinks.
use Rattle.std.proofs.Common.{◌≡◌, ℕ, List, Option, None, IsSome, OnErr, Result, Ok, Err, false, arith}
use Rattle.press_engine.specs.declared.machine.Machine.{Machine}
use Rattle.press_sink.specs.SinkLog.{SinkLog, SinkUse, under}
use Rattle.press_sink.specs.Sending.{Output, HandsOut}
use Rattle.press_stream.specs.declared.fault.JobError.{JobError}
use Rattle.press_stream.specs.declared.fault.JobError.TheVariants as errors
use Rattle.press_stream.specs.State.{JobState}
use Rattle.press_stream.specs.Answers.{Faults, CarriesOrStops, Answered, IsEarly, ending_by, fault_of}
use Rattle.press_stream.proofs.Carries.{same_fault}
use Rattle.press_stream.proofs.Faults.{Faults-now}

-- A call of a job that runs is not refused, and a fault leaves a job that has failed.
pub record NotRefused {X : Type 0} (result : Result X JobError) (new : JobState) : Type 0 where
  pub later : IsEarly result → ⊥
  pub lost : OnErr result (new.machine ≡ None)

no_machine : (machine : Option Machine) → IsSome machine → machine ≡ None → ⊥
no_machine machine some none = cc

is_early : (error : JobError) → error ≡ errors.Failed → IsEarly {X = Unit {0}} (Err error)
is_early errors.Failed is = tt
is_early errors.AfterEnd is = tt
is_early errors.SinkFault is = absurd cc
is_early errors.ReplyFault is = absurd cc
is_early errors.ReadFault is = absurd cc
is_early errors.NoMemory is = absurd cc

-- what a job answers then
Answered-by : (old new : JobState) (result : Result (Unit {0}) JobError) (Is : List Output → Type 0) (sinks : SinkUse) → IsSome old.machine
    → ((went : List Output) → Is went → NotRefused result new) → HandsOut (ending_by (fault_of result)) Is sinks
    → Answered old result new sinks.before sinks.after
Answered-by old new (Ok done) Is sinks running not hands = grind (arith, no_machine)
Answered-by old new (Err error) Is sinks running not hands = grind (arith, no_machine, is_early, same_fault)

-- a job that had these bytes behind what it held
Faults-lost : (old new : JobState) (bytes : List ℕ) (error : JobError) (went : List Output) → IsSome old.machine → Faults old bytes error new went
    → NotRefused {X = Unit {0}} (Err error) new
Faults-lost old new bytes errors.SinkFault went running faults = record { later = λ early. early; lost = faults.0 }
Faults-lost old new bytes errors.ReplyFault went running faults = record { later = λ early. early; lost = faults.0 }
Faults-lost old new bytes errors.NoMemory went running faults = record { later = λ early. early; lost = faults.0 }
Faults-lost old new bytes errors.Failed went running faults = absurd (no_machine old.machine running faults.0)
Faults-lost old new bytes errors.ReadFault went running faults = absurd faults.1.goes
Faults-lost old new bytes errors.AfterEnd went running faults = absurd faults.1.goes

-- a job that takes more bytes
pub CarriesOrStops-lost : (old new : JobState) (bytes : List ℕ) (result : Result (Unit {0}) JobError) (went : List Output) → IsSome old.machine
    → old.held.ended ≡ false → CarriesOrStops old bytes result new went → NotRefused result new
CarriesOrStops-lost old new bytes (Ok done) went running going goes = record { later = λ early. early; lost = tt }
CarriesOrStops-lost old new bytes (Err error) went running going faults = Faults-lost old new bytes error went running (Faults-now old new bytes error went going faults)

pub Answered-goes : (old new : JobState) (bytes : List ℕ) (result : Result (Unit {0}) JobError) (tag : ℕ) (before after : SinkLog) → IsSome old.machine
    → old.held.ended ≡ false → HandsOut (ending_by (fault_of result)) (CarriesOrStops old bytes result new) (under tag before after)
    → Answered old result new before after
Answered-goes old new bytes result tag before after running going =
    Answered-by old new result (CarriesOrStops old bytes result new) (under tag before after) running (λ went goes. CarriesOrStops-lost old new bytes result went running going goes)
