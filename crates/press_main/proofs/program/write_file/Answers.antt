use Rattle.std.proofs.Common.{refl, inl, arith}
use Rattle.press_ticket.specs.declared.fault.TicketError.TheVariants as ticket_fault
use Rattle.press_files.specs.declared.jobs.JobFileError.TheVariants as fault
use Rattle.press_main.proofs.program.write_file.Goals as goal

pub returns-in_default-clause-writes : goal.returns-in_default-clause-writes
returns-in_default-clause-writes g c = (
  record {
    done = λ zero. absurd (omega (arith, c.report.ensures.status, zero));
    stops = λ other. (c.report.ensures.status, fault.Ticket ticket_fault.NoMemory, c.report.ensures.told, (inl (record { refused = tt; unwritten = refl }), tt));
  },
  refl,
)

pub returns-clause-writes : goal.returns-clause-writes
returns-clause-writes g c = rw (← c.in-Ok.ensures, ← c.deref.ensures.value) c.job_file.ensures.ended
