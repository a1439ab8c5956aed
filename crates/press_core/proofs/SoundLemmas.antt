-- What rows of the queue leave of a press: entries and their works go together.
use Rattle.std.proofs.Common.{◌≡◌, ℕ, ℤ, ◌+◌, ◌⊎◌, inl, inr, Bool, true, false, List}
use Rattle.std.proofs.Common.{[], ◌∷◌, ◌++◌, Option, Some, None, Ok, Err, is_some, nat_eq}
use Rattle.std.proofs.Common.{sym, ap, ◌∙◌, arith, IsTrue, cond, true≢false}
use Rattle.std.specs.List.{IsDistinct}
use Rattle.std.specs.Map.{keys_of, lookup, set_value}
use Rattle.std.proofs.lemmas.Bool.{eqb-true}
use Rattle.std.proofs.lemmas.Cmp.{nat_eq_equiv}
use Rattle.std.proofs.lemmas.Map.Entries.{lookup-filter-keys, lookup-filter-values, option_filter}
use Rattle.press_queue.specs.declared.entry.Entry.{Entry}
use Rattle.press_queue.specs.declared.status.End.{End}
use Rattle.press_queue.specs.declared.refusal.SubmitError.{SubmitError}
use Rattle.press_queue.specs.Answers.{Submits}
use Rattle.press_queue.specs.Entries.{entry_numbered, put}
use Rattle.press_queue.specs.Rows as rows
use Rattle.press_queue.specs.State.{QueueState}
use Rattle.press_queue.specs.Status.{has_ended, is_running, new_entry, status_at_end}
use Rattle.press_core.specs.Inside.{IsSound}
use Rattle.press_core.specs.Work.{Work}
use Rattle.press_core.specs.World.{is_listed, works_listed, works_without_job}
use Rattle.press_core.proofs.EngineLemmas.{runs_in}
use Rattle.press_core.proofs.EntryLemmas.{SetsOne, added_lookup, inserted_lookup, set_lookup}
use Rattle.press_core.proofs.WorkLemmas.{ended_entry, ended_together, has_work}

-- ---- entries that end

-- an entry that ended does not run
pub still_at_end : (end : End) → is_running (status_at_end end) ≡ false
still_at_end end = grind arith

pub over_at_end : (end : End) → has_ended (status_at_end end) ≡ true
over_at_end end = grind arith

-- The entry of a number that runs.
pub record RunsAs (number : ℕ) (queue : QueueState) : Type 0 where
  pub entry : Entry
  pub there : entry_numbered number queue.entries ≡ Some entry
  pub runs : is_running entry.status ≡ true

pub runs_as : (number : ℕ) (queue : QueueState) → IsTrue (rows.entry_runs number queue) → RunsAs number queue
runs_as number queue runs = grind arith

pub finish-sets : (number : ℕ) (end : End) (entry : Entry) (queue : QueueState) → entry_numbered number queue.entries ≡ Some entry
    → SetsOne number (Some (record entry { status = status_at_end end })) queue.entries (rows.finish_entry number end queue).entries
finish-sets number end entry queue there = grind (arith, set_lookup, is_some)

-- it ends, and its work is without its job
pub IsSound-finished : (number : ℕ) (end : End) (queue : QueueState) (works : List (ℕ × Work)) → IsTrue (rows.entry_runs number queue) → IsSound queue works
    → IsSound (rows.finish_entry number end queue) (works_without_job number works)
IsSound-finished number end queue works runs sound =
    let it = runs_as number queue runs in
    ended_entry number it.entry (record it.entry { status = status_at_end end }) queue (rows.finish_entry number end queue) works it.there
    (over_at_end end) (still_at_end end) (finish-sets number end it.entry queue it.there) sound

-- it ends, and another work without a job stands for its own
pub IsSound-ended : (number : ℕ) (end : End) (queue : QueueState) (works : List (ℕ × Work)) (work : Work) → IsTrue (rows.entry_runs number queue) → work.progress ≡ None
    → work.kept ≡ false → IsSound queue works → IsSound (rows.finish_entry number end queue) (set_value (nat_eq number) works work)
IsSound-ended number end queue works work runs none gone sound = grind (arith, runs_as, has_work, finish-sets, set_lookup, ended_together, over_at_end, still_at_end)

-- ---- entries that leave the list

pub kept_work : (new : QueueState) (works : List (ℕ × Work)) (n : ℕ) → lookup (nat_eq n) (works_listed new works) ≡ cond (is_listed n new) (lookup (nat_eq n) works) None
kept_work new works n =
    lookup-filter-keys (nat_eq n) (λ k. is_listed k new) (is_listed n new) (λ k same. ap (λ m. is_listed m new) (sym (eqb-true n k same))) works

pub some_not : {X : Type 0} {x : X} → None ≡ Some x → ⊥
some_not e = cc

pub IsSound-gone : (old new : QueueState) (works : List (ℕ × Work))
    → ((n : ℕ) → (entry_numbered n new.entries ≡ None) ⊎ (entry_numbered n new.entries ≡ entry_numbered n old.entries)) → IsSound old works → IsSound new (works_listed new works)
IsSound-gone old new works less sound = grind (arith, kept_work, is_some, inl, some_not, inr)

-- a flush lets each entry stay, or leave; those that run stay
pub flushed : (queue : QueueState) → IsDistinct nat_eq (keys_of queue.entries) → (n : ℕ)
    → (entry_numbered n (rows.flush queue).entries ≡ None) ⊎ (entry_numbered n (rows.flush queue).entries ≡ entry_numbered n queue.entries)
flushed queue distinct n = at (entry_numbered n queue.entries) (lookup-filter-values nat_eq_equiv (λ entry. is_running entry.status) n queue.entries distinct)
  where
    at_entry : (entry : Entry) (b : Bool) → entry_numbered n (rows.flush queue).entries ≡ cond b (Some entry) None
        → (entry_numbered n (rows.flush queue).entries ≡ None) ⊎ (entry_numbered n (rows.flush queue).entries ≡ Some entry)
    at_entry entry b e = grind (arith, inr, inl)

    at : (o : Option Entry) → entry_numbered n (rows.flush queue).entries ≡ option_filter (λ entry. is_running entry.status) o
        → (entry_numbered n (rows.flush queue).entries ≡ None) ⊎ (entry_numbered n (rows.flush queue).entries ≡ o)
    at o e = grind (arith, inl, at_entry)

pub flush-runs : (queue : QueueState) → IsDistinct nat_eq (keys_of queue.entries) → (n : ℕ) → rows.entry_runs n (rows.flush queue) ≡ rows.entry_runs n queue
flush-runs queue distinct n =
    ap runs_in (lookup-filter-values nat_eq_equiv (λ entry. is_running entry.status) n queue.entries distinct) ∙ at (entry_numbered n queue.entries)
  where
    at_entry : (entry : Entry) (b : Bool) → is_running entry.status ≡ b → runs_in (cond b (Some entry) None) ≡ b
    at_entry entry b is = grind arith

    at : (o : Option Entry) → runs_in (option_filter (λ entry. is_running entry.status) o) ≡ runs_in o
    at o = grind (arith, at_entry)

-- ---- a new entry

pub record IsSubmitted (queue new : QueueState) (number : ℕ) : Type 0 where
  pub priority : ℕ
  pub next : number ≡ queue.last + 1
  pub below : nat_eq queue.last rows.last_number ≡ false
  pub is : new ≡ record queue { entries = put number (new_entry priority) queue.entries; last = number }

pub submitted_is : (priority : ℤ) (queue new : QueueState) (number : ℕ) → (new, Ok number) ≡ rows.submit priority queue → IsSubmitted queue new number
submitted_is priority queue new number is = grind arith

no_work : (queue : QueueState) (works : List (ℕ × Work)) (number : ℕ) → entry_numbered number queue.entries ≡ None → IsSound queue works → lookup (nat_eq number) works ≡ None
no_work queue works number none sound = grind arith

-- a submission, by how it went
pub submit_err_same : (priority : ℤ) (queue new : QueueState) (error : SubmitError) → Submits (rows.submit priority queue) queue (Err error) new → new ≡ queue
submit_err_same priority queue new error h = grind arith

pub IsSound-entered : (priority : ℤ) (queue new : QueueState) (number : ℕ) (work : Work) (works after : List (ℕ × Work)) → (new, Ok number) ≡ rows.submit priority queue
    → entry_numbered number queue.entries ≡ None → work.progress ≡ None → work.kept ≡ true → after ≡ works ++ (number, work) ∷ [] → IsSound queue works → IsSound new after
IsSound-entered priority queue new number work works after is fresh none kept added sound = grind (arith, submitted_is, inserted_lookup, added_lookup, no_work, true≢false)
