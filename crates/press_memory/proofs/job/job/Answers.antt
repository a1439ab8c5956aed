use Rattle.std.proofs.Common.{◌∙◌, Some, ap, inr}
use Rattle.press_memory.specs.Faults.{fault_of}
use Rattle.press_memory.proofs.WrittenLemmas.{ticket-refused}
use Rattle.press_memory.proofs.job.job.Goals as goal

pub returns-in-Err : goal.returns-in-Err
returns-in-Err c =
    ticket-refused c.args.ticket.now c.args.images.now c.nothing.result.bytes.items _ _ c.in-Err.error c.nothing.result.fault
    (ap (λ device. Some device.now) c.new.ensures.device)
    (c.nothing.ensures.fault ∙ c.fault_of.ensures ∙ ap fault_of c.job_number.ensures) c.nothing.ensures.bytes c.in-Err.ensures.refused

pub returns : goal.returns
returns c =
    inr (
      c.in-Err-images_in.error,
      (c.nothing-in-Err-images_in.ensures.fault ∙ c.fault_of-in-Err-images_in.ensures ∙ ap fault_of c.job_number-in-Err-images_in.ensures),
      c.nothing-in-Err-images_in.ensures.bytes,
      inr c.in-Err-images_in.ensures.refused,
    )
