-- What is so of every status of an entry.
use Rattle.std.proofs.Common.{◌≡◌, ◌&&◌, ◌||◌, Bool, true, false, not, arith}
use Rattle.press_queue.specs.declared.status.Status.{Status}
use Rattle.press_queue.specs.declared.status.Status.TheVariants as statuses

abbrev pub every_status : (Status → Bool) → Bool
every_status p =
    (p statuses.Waiting && (p statuses.Held && p statuses.Running)) && (p statuses.Suspended && (p statuses.Completed && p statuses.Aborted))

pub and-first : (b c : Bool) → b && c ≡ true → b ≡ true
and-first b c h = grind arith

pub and-second : (b c : Bool) → b && c ≡ true → c ≡ true
and-second b c h = grind arith

-- of two tests the first implies the second
pub implied : (p q : Status → Bool) → every_status (λ status. not (p status) || q status) ≡ true → (status : Status) → p status ≡ true → q status ≡ true
implied p q all status is = grind arith

-- the first excludes the second
pub excluded : (p q : Status → Bool) → every_status (λ status. not (p status) || not (q status)) ≡ true → (status : Status) → p status ≡ true → q status ≡ false
excluded p q all status is = at (q status) (implied p (λ status. not (q status)) all status is)
  where
    at : (b : Bool) → not b ≡ true → b ≡ false
    at b h = grind arith
