-- Entries and their works, where what stands under one number changes.
use Rattle.std.proofs.Common.{◌≡◌, ℕ, not, true, false, List, Option, Some, None, is_some, nat_eq, sym, ap, ◌∙◌, arith}
use Rattle.std.specs.Map.{lookup, set_value}
use Rattle.press_page.specs.Environment.{changed_by}
use Rattle.press_queue.specs.declared.entry.Entry.{Entry}
use Rattle.press_queue.specs.Entries.{entry_numbered, with_entry}
use Rattle.press_queue.specs.Rows as rows
use Rattle.press_queue.specs.State.{QueueState}
use Rattle.press_queue.specs.Status.{has_ended, is_in_flight, is_running}
use Rattle.press_core.specs.Inside.{AreTogether, GoTogether, IsSound}
use Rattle.press_core.specs.Work.{Work, without_job}
use Rattle.press_core.specs.World.{works_without_job}
use Rattle.press_core.proofs.EntryLemmas.{SetsOne, kept_lookup, set_lookup}

-- What stands under one number is another, and all else is as it was.
pub IsSound-at : (number : ℕ) (old new : QueueState) (works after : List (ℕ × Work)) (entry : Option Entry) (work : Option Work)
    → SetsOne number entry old.entries new.entries → SetsOne number work works after → GoTogether entry work → IsSound old works → IsSound new after
IsSound-at number old new works after entry work entries_are works_are here sound = grind arith

-- ---- an entry and its work

-- The work of an entry that is listed.
pub record HasWork (works : List (ℕ × Work)) (number : ℕ) (entry : Entry) : Type 0 where
  pub work : Work
  pub is : lookup (nat_eq number) works ≡ Some work
  pub together : AreTogether entry work

pub has_work : (queue : QueueState) (works : List (ℕ × Work)) (number : ℕ) (entry : Entry) → entry_numbered number queue.entries ≡ Some entry → IsSound queue works
    → HasWork works number entry
has_work queue works number entry there sound = grind arith

-- ---- a work that changes, an entry that does, and both

pub set_both : (number : ℕ) (queue : QueueState) (works : List (ℕ × Work)) (old new : Entry) (was work : Work) → entry_numbered number queue.entries ≡ Some old
    → lookup (nat_eq number) works ≡ Some was → AreTogether new work → IsSound queue works
    → IsSound (rows.with_entries (with_entry number new queue.entries) queue) (set_value (nat_eq number) works work)
set_both number queue works old new was work there was_is together sound = grind (arith, IsSound-at, set_lookup, is_some)

-- Another entry may stand for one.
pub record StandsFor (old new : Entry) : Type 0 where
  pub in_flight : is_in_flight new ≡ is_in_flight old
  pub ended : has_ended new.status ≡ has_ended old.status
  pub begun : is_running new.status ≡ true → new.begun ≡ true

pub changed_entry : (number : ℕ) (old new : Entry) (queue after : QueueState) (works : List (ℕ × Work)) → entry_numbered number queue.entries ≡ Some old → StandsFor old new
    → SetsOne number (Some new) queue.entries after.entries → IsSound queue works → IsSound after works
changed_entry number old new queue after works there stands are sound =
    let has = has_work queue works number old there sound in
    IsSound-at number queue after works works (Some new) (Some has.work) are
    (kept_lookup number (Some has.work) works has.is)
    (record {
      in_flight = has.together.in_flight ∙ sym stands.in_flight;
      kept = has.together.kept ∙ sym (ap not stands.ended);
      begun = stands.begun;
    }) sound

-- ---- a work without its job

pub ended_together : (entry : Entry) (work : Work) → has_ended entry.status ≡ true → is_running entry.status ≡ false → work.progress ≡ None → work.kept ≡ false
    → AreTogether entry work
ended_together entry work ended still none gone = grind arith

pub without_job_is : (number : ℕ) (works : List (ℕ × Work)) (work : Work) → lookup (nat_eq number) works ≡ Some work
    → works_without_job number works ≡ set_value (nat_eq number) works (without_job work)
without_job_is number works work is = ap (λ o. changed_by o (λ w all. set_value (nat_eq number) all (without_job w)) works) is

-- an entry that is listed ends, and its work is without its job
pub ended_entry : (number : ℕ) (old new : Entry) (queue after : QueueState) (works : List (ℕ × Work)) → entry_numbered number queue.entries ≡ Some old → has_ended new.status ≡ true
    → is_running new.status ≡ false → SetsOne number (Some new) queue.entries after.entries
    → IsSound queue works → IsSound after (works_without_job number works)
ended_entry number old new queue after works there ended still are sound = grind (arith, has_work, without_job_is, IsSound-at, set_lookup, ended_together)
