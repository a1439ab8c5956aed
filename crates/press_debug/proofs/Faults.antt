-- A step for which memory ran out, now or before.
use Rattle.std.proofs.Common.{◌≡◌, ◌∙◌, None, Err, ap}
use Rattle.press_stream.specs.declared.fault.JobError.{JobError}
use Rattle.press_stream.specs.declared.fault.JobError.TheVariants as errors
use Rattle.press_stream.specs.Answers.{TakesStep}
use Rattle.press_stream.specs.State.{JobState}

-- the job has failed
pub no_machine : (old : JobState) (error : JobError) (new : JobState) → TakesStep old (Err error) new → new.machine ≡ None
no_machine old errors.NoMemory new takes = takes.1
no_machine old errors.Failed new takes = ap (λ (job : JobState). job.machine) takes.1 ∙ takes.0
no_machine old errors.SinkFault new takes = absurd takes
no_machine old errors.ReplyFault new takes = absurd takes
no_machine old errors.ReadFault new takes = absurd takes
no_machine old errors.AfterEnd new takes = absurd takes
