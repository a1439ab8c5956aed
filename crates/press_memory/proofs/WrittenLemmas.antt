-- What is written of bytes in memory, whatever names the reader has for them.
use Rattle.std.proofs.Common.{◌≡◌, ℕ, List, [], Option, Some, subst, inr, arith}
use Rattle.press_forms.specs.Assembly.{TextRefused}
use Rattle.press_forms.specs.declared.assembly.TextError.{TextError}
use Rattle.press_files.specs.Jobs.{TicketRefused}
use Rattle.press_files.specs.declared.jobs.JobFileError.{JobFileError}
use Rattle.press_memory.specs.Faults.{fault_of, job_number, text_number}
use Rattle.press_memory.specs.Written.{JobOf, StreamOf}

-- a text that is refused, and a ticket
pub text-refused : (text written : List ℕ) (had left : Option (List ℕ)) (why : TextError) (fault : ℕ) → had ≡ Some text → fault ≡ fault_of (text_number why)
    → written ≡ [] → TextRefused had left why → StreamOf text fault written
text-refused text written had left why fault same is none refused =
    (left, inr (why, is, none, subst (λ (had : Option (List ℕ)). TextRefused had left why) same refused))

pub ticket-refused : (text files written : List ℕ) (had left : Option (List ℕ)) (why : JobFileError) (fault : ℕ) → had ≡ Some text
    → fault ≡ fault_of (job_number why) → written ≡ [] → TicketRefused had left why → JobOf text files fault written
ticket-refused text files written had left why fault same is none refused = grind arith
