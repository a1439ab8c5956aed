-- The trace of a stream, so far and at its end.
use Rattle.std.specs.Prelude.{◌≡◌, ℕ, List}
use Rattle.press_cmd.specs.Token.{Token}
use Rattle.press_cmd.specs.ParserState.{ParserState}
use Rattle.press_cmd.specs.Split.{Split, Closed}
use Rattle.press_engine.specs.Machine.{StepResult, power_on}
use Rattle.press_engine.specs.Trace.{trace}
use Rattle.press_stream.specs.Meaning.{with_exit}

-- The items of the trace of a stream of these bytes so far: those of the commands of their split.
abbrev pub IsTraceSoFar : List ℕ → List StepResult → Type 0
IsTraceSoFar bytes items =
    (commands : List Token) × (mode : ParserState) × (rest : List ℕ) × Split bytes commands mode rest × (items ≡ trace commands power_on)

-- The items of the trace of a stream of these bytes that ends here: those of its commands, and of one universal exit more.
abbrev pub IsTraceOf : List ℕ → List StepResult → Type 0
IsTraceOf bytes items = (commands : List Token) × Closed bytes commands × (items ≡ trace (with_exit commands) power_on)
