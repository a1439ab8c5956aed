-- A job at a place of its items. No public clause cites this.
use Rattle.std.specs.Prelude.{◌≡◌, ◌≤◌, ◌<◌, ◌+◌, ℕ, List, length, drop, if◌then◌else◌, Some}
use Rattle.press_units.specs.Limits.{greatest_of_64_bits}
use Rattle.press_bits.specs.Page.{Page}
use Rattle.press_engine.specs.Machine.{StepResult}
use Rattle.press_bits.specs.PrintedSheet.{PrintedSheet}
use Rattle.press_stream.specs.Left.{LeftWith}
use Rattle.press_stream.specs.State.{JobState}
use Rattle.press_writer.specs.Left.{HasImages, bytes_left}
use Rattle.press_core.specs.declared.work.RunningJob.{RunningJob}
use Rattle.press_core.specs.Turns.{IsJobOf, machine_at, sheets_from, progress_in_job}
use Rattle.press_core.specs.Work.{Work, at_progress}

-- The job has done so many of the items as it took steps, and with the bytes that its writer has still to give, of these images,
-- the others are left of it.
pub record IsAt (items : List StepResult) (images : List Page) (running : RunningJob) : Type 0 where
  pub within : running.steps ≤ length items
  pub machine : running.job.machine ≡ Some (machine_at running.steps items)
  pub left : LeftWith running.job (bytes_left running.writer images) (drop running.steps items)
  pub has_images : HasImages (length images) running.writer
  pub fits : length items ≤ greatest_of_64_bits

-- how much may still be handed to a job: the bytes that its writer has, and their end
abbrev pub end_to_come : JobState → ℕ
end_to_come job = if job.held.ended then 0 else 1

abbrev pub still_to_come : RunningJob → List Page → ℕ
still_to_come running images = length (bytes_left running.writer images) + end_to_come running.job

-- A job was handed the next piece of it, or its end, and stands where it stood.
pub record IsSupplied (images : List Page) (old new : RunningJob) : Type 0 where
  pub stands : (items : List StepResult) → IsAt items images old → IsAt items images new
  pub steps : new.steps ≡ old.steps
  pub fewer : still_to_come new images < still_to_come old images

-- a job took the next step, and these were its sheets
pub record JobGoesOn (items : List StepResult) (images : List Page) (old new : RunningJob) (sheets : List PrintedSheet) : Type 0 where
  pub at : IsAt items images new
  pub next : new.steps ≡ old.steps + 1
  pub sheets_are : sheets ≡ sheets_from old.steps 1 items

-- a work's job took the next step, and these were its sheets
abbrev pub Advances : (old new : Work) → List PrintedSheet → Type 0
Advances old new sheets =
    (items : List StepResult) → IsJobOf old items
    → (new ≡ at_progress (progress_in_job old + 1) old) × (sheets ≡ sheets_from (progress_in_job old) 1 items)
