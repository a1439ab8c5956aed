-- What is told of a session, in one line.
use Rattle.std.specs.Prelude.{ℕ, List, Option, Some, None}
use Rattle.press_units.specs.Faults.{fault_text}
use Rattle.press_core.specs.TurnErrors.{bad_engines, turn_number}
use Rattle.press_sink.specs.Faults.{template_number}
use Rattle.press_devices.specs.Telling.{output_text}
use Rattle.press_sessions.specs.declared.session_error.SessionError.{SessionError}
use Rattle.press_sessions.specs.declared.session_error.SessionError.TheVariants as sessions
use Rattle.press_files.specs.JobFaults.{told_of_job}

abbrev pub told_of_session : SessionError → Option (List ℕ)
told_of_session (sessions.Engines error) = Some (fault_text (Some bad_engines))
told_of_session (sessions.Template error) = Some (fault_text (template_number error))
told_of_session (sessions.File error) = told_of_job error
told_of_session (sessions.Turn error) = Some (fault_text (turn_number error))
told_of_session (sessions.Output error) = Some output_text
told_of_session sessions.NoMemory = Some (fault_text None)
