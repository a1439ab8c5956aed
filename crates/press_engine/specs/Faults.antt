-- The numbers of the faults of an engine (this profile).
use Rattle.std.specs.Prelude.{ℕ, Option, Some, None}
use Rattle.press_engine.specs.declared.fault.EngineError.{EngineError}
use Rattle.press_engine.specs.declared.fault.EngineError.TheVariants as errors

-- a fault of a sink, or that the engine had one before; none where memory ran out
abbrev pub fault_number : EngineError → Option ℕ
fault_number errors.SinkFault = Some 301
fault_number errors.ReplyFault = Some 302
fault_number errors.Failed = Some 303
fault_number errors.NoMemory = None
