-- Turns: the entry that an engine takes, and what its steps leave of the press.
use Rattle.std.proofs.Common.{◌≡◌, ℕ, ◌+◌, slice_set, Bool, true, false, List, [], Option, Some, None, Result, Ok, Err}
use Rattle.std.proofs.Common.{IfSome, IsSome, not, IsTrue, OnErr, is_some, nat_eq, if◌then◌else◌}
use Rattle.std.proofs.Common.{length, option_and_then, refl, sym, ap, subst, ◌∙◌, arith, rules, true≢false}
use Rattle.std.specs.declared.alloc.AllocError.{AllocError}
use Rattle.std.specs.List.{IsDistinct}
use Rattle.std.specs.Map.{keys_of, lookup, set_value}
use Rattle.std.specs.Option.{option_map_or}
use Rattle.std.proofs.lemmas.Map.Steps.{set_value_same}
use Rattle.press_engine.specs.Machine.{StepResult}
use Rattle.press_page.specs.Environment.{changed_by}
use Rattle.press_queue.specs.declared.entry.Entry.{Entry}
use Rattle.press_queue.specs.declared.status.End.{End}
use Rattle.press_queue.specs.declared.status.End.TheVariants.{Aborted}
use Rattle.press_queue.specs.Entries.{entry_numbered, with_entry}
use Rattle.press_queue.specs.Rows as rows
use Rattle.press_queue.specs.State.{QueueState}
use Rattle.press_queue.specs.Status.{has_ended, is_running, is_waiting, status_at_end}
use Rattle.press_queue.proofs.FirstLemmas.{next_is_numbered}
use Rattle.press_queue.proofs.StatusLemmas.{excluded}
use Rattle.press_sink.specs.declared.delivery.Delivery.{Delivery}
use Rattle.press_bits.specs.PrintedSheet.{PrintedSheet}
use Rattle.press_sink.specs.SinkLog.{SheetLog}
use Rattle.press_sink.proofs.SendingLemmas.{told-nothing}
use Rattle.press_core.specs.declared.turn.Turn.{Turn}
use Rattle.press_core.specs.declared.turn.TurnError.{TurnError}
use Rattle.press_core.specs.declared.turn.TurnError.TheVariants.{NoMemory}
use Rattle.press_core.specs.Engines.{left_by}
use Rattle.press_core.specs.Handing.{IsAfterSteps, TakesSteps, handing}
use Rattle.press_core.specs.Inside.{AreTogether, Begins, HasProgress, IsSound, begun_work, begun_works, with_begun}
use Rattle.press_core.specs.Turns.{EntrySteps, FaultsAfter, IsJobOf, NamesEntry, StepsTo, TakesTurn}
use Rattle.press_core.specs.Turns.{TurnAt, WereHandedOut, aborted, after_steps, completed, is_idle}
use Rattle.press_core.specs.Turns.{progress_in_job, steps_of, at_turn, at_turn_with, with_turn}
use Rattle.press_core.specs.Work.{Work, at_progress, with_delivered, without_job}
use Rattle.press_core.specs.World.{World, off_engine, on_engine, works_without_job, with_queue, with_work, work_numbered}
use Rattle.press_core.proofs.EngineLemmas.{set-same}
use Rattle.press_core.proofs.EntryLemmas.{SetsOne, own_lookup, set_lookup, set_twice, there_set}
use Rattle.press_core.proofs.JobLemmas.{IsJobOf-some}
use Rattle.press_core.proofs.SoundLemmas.{over_at_end, some_not, still_at_end}
use Rattle.press_core.proofs.WorkLemmas.{ended_entry, has_work, set_both}

-- ---- works of entries that run

-- the work of an entry that runs stands at a place
pub runs_placed : (number : ℕ) (queue : QueueState) (works : List (ℕ × Work)) → IsTrue (rows.entry_runs number queue) → IsSound queue works → HasProgress works number
runs_placed number queue works runs sound = grind arith

-- ---- an entry that begins

-- The entry of this number, which waited, runs.
pub record IsBegun (queue new : QueueState) (number : ℕ) : Type 0 where
  pub entry : Entry
  pub there : entry_numbered number queue.entries ≡ Some entry
  pub is : new ≡ rows.with_entries (with_entry number (rows.begun_entry entry) queue.entries) queue

-- it waited before
pub record Waited (queue new : QueueState) (number : ℕ) : Type 0 where
  pub begins : IsBegun queue new number
  pub waited : is_waiting begins.entry.status ≡ true

pub begun_is : (queue new : QueueState) (number : ℕ) → IsDistinct nat_eq (keys_of queue.entries) → (new, Some number) ≡ rows.begin queue → Waited queue new number
begun_is queue new number distinct is = at_held queue.held is
  where
    at_next : (o : Option (ℕ × Entry)) → rows.next_to_run queue.entries ≡ o → (new, Some number) ≡ rows.begin_with o queue → Waited queue new number
    at_next None found e = absurd (true≢false (ap (λ r. is_some r.1) e))
    at_next (Some x) found e =
        let same : number ≡ x.0 = grind (arith, rules, e) in
        let numbered = next_is_numbered queue.entries x distinct found in
        record {
          begins = record {
            entry = x.1;
            there = ap (λ n. entry_numbered n queue.entries) same ∙ numbered.1;
            is = ap (λ r. r.0) e ∙ ap (λ n. rows.with_entries (with_entry n (rows.begun_entry x.1) queue.entries) queue) (sym same);
          };
          waited = numbered.0;
        }

    at_held : (held : Bool) → (new, Some number) ≡ rows.begin_with (if held then None else rows.next_to_run queue.entries) queue → Waited queue new number
    at_held true e = absurd (true≢false (ap (λ r. is_some r.1) e))
    at_held false e = at_next (rows.next_to_run queue.entries) refl e

-- so it did not run
pub begun_still : (queue new : QueueState) (number : ℕ) → Waited queue new number → rows.entry_runs number queue ≡ false
begun_still queue new number waited = grind arith

pub begun-sets : (queue new : QueueState) (number : ℕ) → (begins : IsBegun queue new number) → SetsOne number (Some (rows.begun_entry begins.entry)) queue.entries new.entries
begun-sets queue new number begins n = grind (arith, set_lookup)

begun_there : (queue new : QueueState) (number : ℕ) → (begins : IsBegun queue new number) → entry_numbered number new.entries ≡ Some (rows.begun_entry begins.entry)
begun_there queue new number begins = own_lookup number (Some (rows.begun_entry begins.entry)) queue.entries new.entries (begun-sets queue new number begins)

-- it runs then
pub begun_runs : (queue new : QueueState) (number : ℕ) → IsBegun queue new number → IsTrue (rows.entry_runs number new)
begun_runs queue new number begins = ap (λ o. option_map_or (λ entry. is_running entry.status) o false) (begun_there queue new number begins)

-- and has not ended, so its images are kept
waited_kept : (queue new : QueueState) (number : ℕ) → (waited : Waited queue new number) → (work : Work) → AreTogether waited.begins.entry work → work.kept ≡ true
waited_kept queue new number waited work together = together.kept ∙ ap not (excluded is_waiting has_ended refl waited.begins.entry.status waited.waited)

pub begun_kept : (queue new : QueueState) (works : List (ℕ × Work)) (number : ℕ) → Waited queue new number → IsSound queue works
    → IfSome (lookup (nat_eq number) works) (λ work. work.kept ≡ true)
begun_kept queue new works number waited sound = grind arith

-- its work has begun
begun_together : (entry : Entry) (work : Work) → work.kept ≡ true → AreTogether (rows.begun_entry entry) (begun_work work)
begun_together entry work kept = record { in_flight = refl; kept = kept; begun = λ runs. refl }

pub IsSound-begun : (queue new : QueueState) (works : List (ℕ × Work)) (number : ℕ) → Waited queue new number → IsSound queue works → IsSound new (begun_works number works)
IsSound-begun queue new works number waited sound = grind (arith, has_work, set_both, begun_together, waited_kept)

-- ---- the entry that runs

-- the work of an entry that runs has begun before
begun_progress : (work : Work) (o : Option ℕ) → work.progress ≡ o → IsSome o → begun_work work ≡ work
begun_progress work o is placed = grind arith

pub begun_already : (number : ℕ) (works : List (ℕ × Work)) → HasProgress works number → begun_works number works ≡ works
begun_already number works has = grind (arith, is_some, option_and_then, begun_progress, set_value_same)

abbrev pub the_world : QueueState → Bool → List (ℕ × Work) → List (Option ℕ) → World
the_world queue paused works engines = record { queue = queue; paused = paused; works = works; engines = engines }

pub begins_running : (world : World) (engine number : ℕ) → on_engine engine world ≡ Some number → IsTrue (rows.entry_runs number world.queue) → IsSound world.queue world.works
    → Begins engine world (Ok (Some number)) world
begins_running world engine number is runs sound = grind (arith, slice_set, begun_already, runs_placed, set-same)

begins_at : (world : World) (engine : ℕ) (new : QueueState) (o : Option ℕ) → on_engine engine world ≡ None → (new, o) ≡ rows.begin world.queue → at_turn engine world ≡ (new, o)
begins_at world engine new o none is = ap (λ e. at_turn_with e world.queue) none ∙ sym is

-- no entry comes next
pub begins_none : (world : World) (engine : ℕ) (new : QueueState) → on_engine engine world ≡ None → (new, None) ≡ rows.begin world.queue
    → Begins engine world (Ok None) (the_world new world.paused world.works world.engines)
begins_none world engine new none is = grind (arith, begins_at, slice_set, set-same)

-- ---- an entry that ends as it begins

pub ended_is : (queue new : QueueState) (number : ℕ) (end : End) → (begins : IsBegun queue new number)
    → rows.finish_entry number end new ≡ rows.with_entries (with_entry number (record begins.entry { status = status_at_end end; begun = true }) queue.entries) queue
ended_is queue new number end begins = grind (arith, begun_there queue new number begins, set_twice)

pub IsSound-given_up : (queue new : QueueState) (works : List (ℕ × Work)) (number : ℕ) (end : End) → IsBegun queue new number → IsSound queue works
    → IsSound (rows.finish_entry number end new) (works_without_job number works)
IsSound-given_up queue new works number end begins sound = grind (arith, ended_is, ended_entry, over_at_end, still_at_end, set_lookup, is_some)

pub begins_given_up : (world : World) (engine number : ℕ) (new after : QueueState) (works : List (ℕ × Work)) (engines : List (Option ℕ)) (error : AllocError) → on_engine engine world ≡ None
    → IsDistinct nat_eq (keys_of world.queue.entries) → IsSound world.queue world.works → (new, Some number) ≡ rows.begin world.queue
    → after ≡ rows.finish_entry number Aborted new → works ≡ works_without_job number world.works → engines ≡ left_by number (slice_set world.engines engine (Some number))
    → Begins engine world (Err error) (the_world after world.paused works engines)
begins_given_up world engine number new after works engines error none distinct sound is ends lands leaves =
    grind (arith, begun_is world.queue new number, has_work, some_not, begins_at world engine new (Some number))

-- a work that is given up after another stood for it
pub without_job_set : (number : ℕ) (works : List (ℕ × Work)) (old work : Work) → lookup (nat_eq number) works ≡ Some old
    → works_without_job number (set_value (nat_eq number) works work) ≡ set_value (nat_eq number) works (without_job work)
without_job_set number works old work there = grind (arith, there_set, set_twice)

-- ---- steps

-- what steps leave, where the job goes on, is at its end, or met a fault
pub leaves_going : (world : World) (number steps : ℕ) (old new : Work) (sheets : List PrintedSheet) (items : List StepResult)
    → new ≡ at_progress (progress_in_job old + steps) (with_delivered sheets old)
    → nat_eq (progress_in_job new) (length items) ≡ false → with_work number new world ≡ after_steps number old items (Ok steps) sheets world
leaves_going world number steps old new sheets items left going = grind arith

pub leaves_over : (world : World) (number steps : ℕ) (old new : Work) (sheets : List PrintedSheet) (items : List StepResult)
    → new ≡ at_progress (progress_in_job old + steps) (with_delivered sheets old)
    → nat_eq (progress_in_job new) (length items) ≡ true → completed number new world ≡ after_steps number old items (Ok steps) sheets world
leaves_over world number steps old new sheets items left over = grind arith

pub leaves_fault : (world : World) (number : ℕ) (error : TurnError) (old new : Work) (sheets : List PrintedSheet) (items : List StepResult) → without_job new ≡ without_job (with_delivered sheets old)
    → aborted number new world ≡ after_steps number old items (Err error) sheets world
leaves_fault world number error old new sheets items left = grind arith

pub after_ok : (old new : Work) (result : Result ℕ TurnError) (steps : ℕ) (sheets : List PrintedSheet) → result ≡ Ok steps → IsAfterSteps old result sheets new
    → new ≡ at_progress (progress_in_job old + steps) (with_delivered sheets old)
after_ok old new result steps sheets is left = subst (λ r. IsAfterSteps old r sheets new) is left

pub after_err : (old new : Work) (result : Result ℕ TurnError) (error : TurnError) (sheets : List PrintedSheet) → result ≡ Err error → IsAfterSteps old result sheets new
    → without_job new ≡ without_job (with_delivered sheets old)
after_err old new result error sheets is left = subst (λ r. IsAfterSteps old r sheets new) is left

-- the world after an entry that ran ended, by what its queue, its works and its engines are
pub ended_world : (world : World) (number : ℕ) (end : End) (old new : Work) (queue : QueueState) (works : List (ℕ × Work)) (engines : List (Option ℕ)) → work_numbered number world ≡ Some old
    → queue ≡ rows.finish_entry number end world.queue → works ≡ works_without_job number (set_value (nat_eq number) world.works new) → engines ≡ left_by number world.engines
    → the_world queue world.paused works engines ≡ off_engine number (with_queue (rows.finish_entry number end world.queue) (with_work number (without_job new) world))
ended_world world number end old new queue works engines there ends lands leaves = grind (arith, without_job_set)

-- the steps of an entry, from those of its work
pub entry_steps : (world : World) (number most : ℕ) (old new : Work) (result : Result ℕ TurnError) (before after : SheetLog) (next : World) → work_numbered number world ≡ Some old
    → (took : TakesSteps most old result new (handing number before after))
    → ((items : List StepResult) → IsJobOf old items → next ≡ after_steps number old items result took.sheets world)
    → (handed : List Delivery) × EntrySteps world number most result handed next × WereHandedOut handed result before after
entry_steps world number most old new result before after next is took leaves = grind (arith, IsJobOf-some old)

-- an entry that has begun takes its steps from the place that it had
ifs : {X : Type 0} (b : Bool) (x y v w : X) → x ≡ v → y ≡ w → (if b then x else y) ≡ (if b then v else w)
ifs b x y v w p q = grind arith

begun_again : (number : ℕ) (works : List (ℕ × Work)) (work other : Work) → lookup (nat_eq number) works ≡ Some work
    → set_value (nat_eq number) (begun_works number works) other ≡ set_value (nat_eq number) works other
begun_again number works work other is = grind (arith, set_twice)

after_begun : (world : World) (number : ℕ) (work : Work) (items : List StepResult) (result : Result ℕ TurnError) (sheets : List PrintedSheet) → work_numbered number world ≡ Some work
    → after_steps number (begun_work work) items result sheets (with_begun number world) ≡ after_steps number work items result sheets world
after_begun world number work items result sheets is = grind (arith, ifs, begun_again)

steps_begun : (work : Work) (items : List StepResult) (most : ℕ) (result : Result ℕ TurnError) (sheets : List PrintedSheet) → StepsTo (begun_work work) items most result sheets
    → StepsTo work items most result sheets
steps_begun work items most result sheets took = grind arith

same_some : (o : Option Work) (one other : Work) → o ≡ Some one → o ≡ Some other → one ≡ other
same_some o one other p q = cc

pub steps_of_begun : (world next : World) (number most : ℕ) (result : Result ℕ TurnError) (handed : List Delivery) → EntrySteps (with_begun number world) number most result handed next
    → EntrySteps world number most result handed next
steps_of_begun world next number most result handed steps = at_work (work_numbered number world) refl
  where
    at_work : (o : Option Work) → work_numbered number world ≡ o → EntrySteps world number most result handed next
    at_work None is = grind (arith, true≢false)
    at_work (Some work) is =
        let works_are = ap (λ o. changed_by o (λ w all. set_value (nat_eq number) all (begun_work w)) world.works) is in
        let there = ap (λ works. lookup (nat_eq number) works) works_are ∙ there_set number world.works work (begun_work work) is in
        let same : steps.work ≡ begun_work work = same_some (work_numbered number (with_begun number world)) steps.work (begun_work work) steps.is_work there in
        record {
          work = work;
          is_work = is;
          items = steps.items;
          is_job = subst (λ (w : Work). IsJobOf w steps.items) same steps.is_job;
          sheets = steps.sheets;
          steps = steps_begun work steps.items most result steps.sheets (subst (λ (w : Work). StepsTo w steps.items most result steps.sheets) same steps.steps);
          handed_are = steps.handed_are;
          after =
              steps.after ∙ ap (λ (w : Work). after_steps number w steps.items result steps.sheets (with_begun number world)) same
              ∙ after_begun world number work steps.items result steps.sheets is;
        }

-- ---- a turn

-- a turn that does something
turn_of : (world next : World) (engine most : ℕ) (result : Result Turn TurnError) (handed : List Delivery) → is_idle most world ≡ false
    → TurnAt (with_turn engine world) (at_turn engine world).1 most result handed next → TakesTurn world engine most result handed next
turn_of world next engine most result handed works turn = rw works turn

-- memory ran out as the entry began
pub turn_stopped : (world next : World) (engine most : ℕ) (error : AllocError) → is_idle most world ≡ false → Begins engine world (Err error) next
    → TakesTurn world engine most (Err NoMemory) [] next
turn_stopped world next engine most error works (number, work, is, there, after) = grind (arith, IsJobOf-some work, turn_of world next engine most (Err NoMemory))

-- an entry that began, or ran before, took steps
pub turn_taken : (world begun next : World) (engine number most : ℕ) (result : Result Turn TurnError) (handed : List Delivery) → is_idle most world ≡ false
    → Begins engine world (Ok (Some number)) begun → NamesEntry result number → EntrySteps begun number most (steps_of result) handed next
    → TakesTurn world engine most result handed next
turn_taken world begun next engine number most result handed works begins names steps = grind (arith, turn_of, steps_of_begun)

-- there is a first engine
pub nothing_handed : {A : Type 0} (result : Result A TurnError) (told : SheetLog) → FaultsAfter result told.faults told.faults → WereHandedOut [] result told told
nothing_handed result told faults = record { told = told-nothing told.delivered; faults = faults }

pub begins_some : (world begun : World) (engine : ℕ) (entry : Option ℕ) (number : ℕ) → entry ≡ Some number → Begins engine world (Ok entry) begun → Begins engine world (Ok (Some number)) begun
begins_some world begun engine entry number is begins = subst (λ o. Begins engine world (Ok o) begun) is begins

pub fault_of_turn : (A B : Type 0) (error : TurnError) (before after : ℕ) → FaultsAfter {A = A} (Err error) before after → FaultsAfter {A = B} (Err error) before after
fault_of_turn A B error before after faults = grind arith

pub on_err_of : {A E P Q : Type 0} (r : Result A E) → (P → Q) → OnErr r P → OnErr r Q
on_err_of r f p = grind arith
