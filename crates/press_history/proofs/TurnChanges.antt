-- What a turn, or a command of an operator, makes of the queue and of each number.
use Rattle.std.proofs.Common.{◌≡◌, ◌<◌, ◌+◌, ◌==◌, ℕ, nat_le, nat_eq, if◌then◌else◌, not, Bool, true, false, MatchBool, List, []}
use Rattle.std.proofs.Common.{length, slice_set, Option, Some, None, option_map, Result, Ok, Err, IfErr, IsTrue, is_ok, is_some}
use Rattle.std.proofs.Common.{refl, sym, ap, subst, ◌∙◌, arith, rules, true≢false, append-nil}
use Rattle.std.specs.Map.{set_value}
use Rattle.std.proofs.lemmas.List.{length-set}
use Rattle.std.proofs.lemmas.Map.Steps.{set_value_same}
use Rattle.press_engine.specs.Machine.{StepResult}
use Rattle.press_queue.specs.declared.entry.Entry.{Entry}
use Rattle.press_queue.specs.declared.status.End.{End}
use Rattle.press_queue.specs.declared.status.End.TheVariants.{Completed, Aborted}
use Rattle.press_queue.specs.Entries.{entry_numbered, with_entry}
use Rattle.press_queue.specs.EveryQueue.{IsQueue}
use Rattle.press_queue.specs.QueueLaw.{EachRowKeepsTheQueue}
use Rattle.press_queue.specs.Rows as rows
use Rattle.press_queue.specs.State.{QueueState}
use Rattle.press_queue.specs.Status.{has_ended, is_running, is_waiting, status_at_end}
use Rattle.press_queue.proofs.StatusLemmas.{excluded}
use Rattle.press_sink.specs.declared.delivery.Delivery.{Delivery}
use Rattle.press_sink.specs.Sending.{under_tag}
use Rattle.press_bits.specs.PrintedSheet.{PrintedSheet}
use Rattle.press_core.specs.declared.operator.OperatorCommand.{OperatorCommand}
use Rattle.press_core.specs.declared.operator.OperatorCommand.TheVariants as operators
use Rattle.press_core.specs.declared.turn.Turn.{Turn}
use Rattle.press_core.specs.declared.turn.TurnError.{TurnError}
use Rattle.press_core.specs.Engines.{RunsOnEngines, left_by}
use Rattle.press_core.specs.Events.{TurnOn, Turned, operated, running_aborted}
use Rattle.press_core.specs.Turns.{EntrySteps, IsJobOf, NamesEntry, StepsTo, TakesTurn, TakesTurnOn, TurnAt, after_steps, at_turn, at_turn_with, completed, is_fault, is_idle}
use Rattle.press_core.specs.Turns.{progress_in_job, steps_of, with_turn}
use Rattle.press_core.specs.Work.{Work, at_progress, with_delivered, without_job}
use Rattle.press_core.specs.World.{World, has_engine, on_engine, with_work, work_numbered}
use Rattle.press_core.proofs.AbortLemmas.{aborted_entry, where_so}
use Rattle.press_core.proofs.EngineLemmas.{length-left_by, runs-on_engine, set-same}
use Rattle.press_core.proofs.EntryLemmas.{itself, set_lookup}
use Rattle.press_core.proofs.PressLemmas.{off-engine, on_engines-begun}
use Rattle.press_core.proofs.SoundLemmas.{runs_as}
use Rattle.press_core.proofs.TurnLemmas.{IsBegun, begun_is, begun_runs, ended_is}
use Rattle.press_history.specs.History.{is_fault_of, steps_answered}
use Rattle.press_history.proofs.AbortedQueues.{keyed-lookup, length-aborted_running, on_engines-free, queue-aborted}
use Rattle.press_history.proofs.ChangeLemmas.{one-changes}
use Rattle.press_history.proofs.HandedLemmas.{handed-other, handed-own}
use Rattle.press_history.proofs.Standings.{Becomes, Change, Stays, GoesOn, Completes, Aborts, Done, IsOpen, IsWhole, Standing, StepsOf}
use Rattle.press_history.proofs.Standings.{aborted_as, completed_entry, done_in, idle, listed, listed_in, no_steps, nothing, standing, stands}

-- ---- what a turn does for each number

-- what it does for the number of its entry
abbrev step_count : Result Turn TurnError → ℕ
step_count (Ok turn) = turn.steps
step_count (Err error) = 0

abbrev turn_done : Result Turn TurnError → List PrintedSheet → Done
turn_done result sheets = record { submits = None; sheets = sheets; steps = step_count result; failed = not (is_ok result) }

steps-by : (result : Result Turn TurnError) (number n : ℕ) → NamesEntry result number → steps_answered n (Turned result) ≡ (if nat_eq number n then step_count result else 0)
steps-by result number n names = grind arith

faults-by : (world : World) (engine most : ℕ) (result : Result Turn TurnError) (number n : ℕ) → (at_turn engine world).1 ≡ Some number
    → IfErr result (λ error. IsTrue (is_fault error)) → is_fault_of n world (TurnOn engine most) (Turned result) ≡ (if nat_eq number n then not (is_ok result) else false)
faults-by world engine most result number n named fault = grind arith

steps-of : (work : Work) (items : List StepResult) (most : ℕ) (result : Result Turn TurnError) (sheets : List PrintedSheet) → IsJobOf work items
    → StepsTo work items most (steps_of result) sheets → StepsOf work items (turn_done result sheets)
steps-of work items most result sheets job to = grind (arith, append-nil, true≢false)

-- ---- the entry that runs, or begins

-- The queue and the engines, where the entry of this number is another: the queue is still one, and those that run are on engines.
record Leads (old : World) (number : ℕ) (is : Entry) (queue : QueueState) (engines : List (Option ℕ)) : Type 0 where
  pub queue_is : queue ≡ rows.with_entries (with_entry number is old.queue.entries) old.queue
  pub kept : IsQueue queue
  pub on_engines : RunsOnEngines queue engines
  pub count : length engines ≡ length old.engines

-- An engine takes an entry, which has not ended: it runs, and has begun.
record Takes (old : World) (number : ℕ) (queue : QueueState) (engines : List (Option ℕ)) : Type 0 where
  pub entry : Entry
  pub there : entry_numbered number old.queue.entries ≡ Some entry
  pub is_open : IsOpen entry
  pub leads : Leads old number (rows.begun_entry entry) queue engines

begun-same : (entry : Entry) → is_running entry.status ≡ true → entry.begun ≡ true → entry ≡ rows.begun_entry entry
begun-same entry runs begun = grind arith

-- it ran before
ran-before : (old : World) (engine number : ℕ) → IsWhole old → on_engine engine old ≡ Some number
    → Takes old number old.queue (slice_set old.engines engine (Some number))
ran-before old engine number whole is =
    grind (arith, runs_as number old.queue, runs-on_engine number engine old.queue old.engines, listed_in, excluded is_running has_ended, set_value_same, begun-same, set-same old.engines engine (Some number), length-set)

-- it waited, and begins
begins-now : EachRowKeepsTheQueue → (old : World) (engine number : ℕ) (new : QueueState) → IsWhole old → has_engine engine old ≡ true → on_engine engine old ≡ None
    → rows.begin old.queue ≡ (new, Some number) → Takes old number new (slice_set old.engines engine (Some number))
begins-now law old engine number new whole there free is =
    let it = begun_is old.queue new number whole.queue.distinct (sym is) in
    let within : engine < length old.engines = grind (arith, rules, there) in
    record {
      entry = it.begins.entry;
      there = it.begins.there;
      is_open = excluded is_waiting has_ended refl it.begins.entry.status it.waited;
      leads = record {
        queue_is = it.begins.is;
        kept = subst IsQueue (ap (λ r. r.0) is) (law.begin old.queue whole.queue);
        on_engines = on_engines-begun old.queue new old.engines engine number within free it whole.on_engines;
        count = length-set old.engines engine (Some number);
      };
    }

-- no entry begins
begun-none : (queue new : QueueState) → rows.begin queue ≡ (new, None) → new ≡ queue
begun-none queue new is = grind arith

-- ---- its steps

-- the world where this is the queue, and these are the engines
abbrev taken : QueueState → List (Option ℕ) → World → World
taken queue engines world = record world { queue = queue; engines = engines }

module _ (law : EachRowKeepsTheQueue) (old : World) (engine most number : ℕ) (new : QueueState) (engines : List (Option ℕ))
    (whole : IsWhole old) (takes : Takes old number new engines) (named : (at_turn engine old).1 ≡ Some number) where
  -- an entry that ends leaves its engine
  leads-ended : (end : End) → Leads old number (record takes.entry { status = status_at_end end; begun = true }) (rows.finish_entry number end new) (left_by number engines)
  leads-ended end = record {
    queue_is = ended_is old.queue new number end begins;
    kept = law.finish number end new takes.leads.kept;
    on_engines = off-engine number end new engines (begun_runs old.queue new number begins) takes.leads.on_engines;
    count = length-left_by number engines ∙ takes.leads.count;
  } where
    begins : IsBegun old.queue new number
    begins = record { entry = takes.entry; there = takes.there; is = takes.leads.queue_is }

  -- the entry becomes this, and its work that
  entry-becomes : (result : Result Turn TurnError) (sheets : List PrintedSheet) (work left : Work) (is : Entry) (queue : QueueState) (after : List (Option ℕ))
      → NamesEntry result number → IfErr result (λ error. IsTrue (is_fault error)) → work_numbered number old ≡ Some work → Leads old number is queue after
      → ((before now : Standing) → before ≡ listed takes.entry work → now ≡ listed is left → Change (turn_done result sheets) before now)
      → Becomes old (record old { queue = queue; works = set_value (nat_eq number) old.works left; engines = after })
      (done_in old (TurnOn engine most) (Turned result) (under_tag number sheets))
  entry-becomes result sheets work left is queue after names fault here leads change =
      let it = listed_in number old takes.entry whole takes.there in
      let before : standing number old ≡ listed takes.entry work = it.1 ∙ (λ j. stands true (Some takes.entry) ((sym (ap (λ (s : Standing). s.work) it.1) ∙ here) j)) in
      let last : queue.last ≡ old.queue.last = ap (λ (q : QueueState). q.last) leads.queue_is in
      record {
        queue = leads.kept;
        on_engines = leads.on_engines;
        count = leads.count;
        each =
            one-changes number old next (Some is) (Some left) done (turn_done result sheets) own
            (λ n. ap (λ (q : QueueState). entry_numbered n q.entries) leads.queue_is ∙ set_lookup number old.queue.entries is (ap is_some takes.there) n)
            (set_lookup number old.works left (ap is_some here))
            (λ n apart. (
              ap (nat_le n) last,
              record {
                no_sheets = handed-other number n sheets apart;
                no_steps = steps-by result number n names ∙ ap (λ b. if b then step_count result else 0) apart;
                no_fault = faults-by old engine most result number n named fault ∙ ap (λ b. if b then not (is_ok result) else false) apart;
              },
            ))
            (λ now. change (standing number old) (standing number next) before
            (now ∙ (λ j. stands ((ap (nat_le number) last ∙ ap (λ (s : Standing). s.given) before) j) (Some is) (Some left))));
      }
    where
      next : World
      next = record old { queue = queue; works = set_value (nat_eq number) old.works left; engines = after }

      done : ℕ → Done
      done = done_in old (TurnOn engine most) (Turned result) (under_tag number sheets)

      own : done number ≡ turn_done result sheets
      own = grind (arith, handed-own, steps-by, itself, faults-by, not, is_ok)

  -- by what is answered, and whether the job is at its end
  ok-becomes : (turn : Turn) → turn.entry ≡ Some number → (handed : List Delivery) (next : World) (es : EntrySteps (taken new engines old) number most (Ok turn.steps) handed next)
      → (over : Bool) → (progress_in_job es.work + turn.steps == length es.items) ≡ over
      → Becomes old (if over then completed number (with_delivered es.sheets es.work) (taken new engines old)
      else with_work number (at_progress (progress_in_job es.work + turn.steps) (with_delivered es.sheets es.work)) (taken new engines old))
      (done_in old (TurnOn engine most) (Turned (Ok turn)) (under_tag number es.sheets))
  ok-becomes turn names handed next es true over =
      entry-becomes (Ok turn) es.sheets es.work (without_job (with_delivered es.sheets es.work)) (completed_entry takes.entry)
      (rows.finish_entry number Completed new) (left_by number engines) names tt es.is_work (leads-ended Completed)
      (λ before now was is. Completes takes.entry es.work es.items takes.is_open
      (steps-of es.work es.items most (Ok turn) es.sheets es.is_job es.steps) refl (grind (arith, rules, over)) was is)
  ok-becomes turn names handed next es false over =
      entry-becomes (Ok turn) es.sheets es.work (at_progress (progress_in_job es.work + turn.steps) (with_delivered es.sheets es.work)) (rows.begun_entry takes.entry)
      new engines names tt es.is_work takes.leads
      (λ before now was is. GoesOn takes.entry (rows.begun_entry takes.entry) es.work (Some (progress_in_job es.work + turn.steps)) es.items
      (record { was_open = takes.is_open; is_open = refl; runs = λ _. refl; begun = λ _. refl; unbegun = λ none. absurd (true≢false none); place = refl; well = refl })
      (steps-of es.work es.items most (Ok turn) es.sheets es.is_job es.steps) was is)

  result-becomes : (result : Result Turn TurnError) → NamesEntry result number → (handed : List Delivery) (next : World)
      (es : EntrySteps (taken new engines old) number most (steps_of result) handed next)
      → Becomes old (after_steps number es.work es.items (steps_of result) es.sheets (taken new engines old)) (done_in old (TurnOn engine most) (Turned result) (under_tag number es.sheets))
  result-becomes (Ok turn) names handed next es = ok-becomes turn names handed next es (progress_in_job es.work + turn.steps == length es.items) refl
  result-becomes (Err error) names handed next es =
      entry-becomes (Err error) es.sheets es.work (without_job (with_delivered es.sheets es.work)) (aborted_as true takes.entry)
      (rows.finish_entry number Aborted new) (left_by number engines) names es.steps.2 es.is_work (leads-ended Aborted)
      (λ before now was is. Aborts takes.entry true es.work es.items takes.is_open
      (steps-of es.work es.items most (Err error) es.sheets es.is_job es.steps) (λ none. absurd (true≢false none)) was is)

  turn-some : (result : Result Turn TurnError) (handed : List Delivery) (next : World) → TurnAt (taken new engines old) (Some number) most result handed next
      → Becomes old next (done_in old (TurnOn engine most) (Turned result) handed)
  turn-some result handed next (names, es) =
      subst (λ l. Becomes old next (done_in old (TurnOn engine most) (Turned result) l)) (sym es.handed_are)
      (subst (λ (w : World). Becomes old w (done_in old (TurnOn engine most) (Turned result) (under_tag number es.sheets))) (sym es.after)
      (result-becomes result names handed next es))

-- ---- a turn

module _ (law : EachRowKeepsTheQueue) (old : World) (engine most : ℕ) (whole : IsWhole old) (result : Result Turn TurnError) (handed : List Delivery) (next : World) where
  abbrev TurnBecomes : Type 0
  TurnBecomes = Becomes old next (done_in old (TurnOn engine most) (Turned result) handed)

  -- nothing is done
  nothing-done : handed ≡ [] → next ≡ old → ((n : ℕ) → (steps_answered n (Turned result) ≡ 0) × (is_fault_of n old (TurnOn engine most) (Turned result) ≡ false)) → TurnBecomes
  nothing-done none same quiet = grind arith

  turn-none : (new : QueueState) (engines : List (Option ℕ)) → new ≡ old.queue → engines ≡ old.engines → TurnAt (taken new engines old) None most result handed next → TurnBecomes
  turn-none new engines same those turn = grind arith

  -- of an engine that there is
  turn-taken : has_engine engine old ≡ true → TakesTurn old engine most result handed next → TurnBecomes
  turn-taken there turn = at_idle (is_idle most old) turn
    where
      Becoming : QueueState × Option ℕ → Type 0
      Becoming found = TurnAt (taken found.0 (slice_set old.engines engine found.1) old) found.1 most result handed next

      at_begin : on_engine engine old ≡ None → (found : QueueState × Option ℕ) → rows.begin old.queue ≡ found → Becoming found → TurnBecomes
      at_begin free (new, None) is turn =
          turn-none new (slice_set old.engines engine None) (begun-none old.queue new is) (set-same old.engines engine None free) turn
      at_begin free (new, Some number) is turn =
          turn-some law old engine most number new (slice_set old.engines engine (Some number)) whole (begins-now law old engine number new whole there free is)
          (ap (λ o. (at_turn_with o old.queue).1) free ∙ ap (λ r. r.1) is) result handed next turn

      at_entry : (o : Option ℕ) → on_engine engine old ≡ o → Becoming (at_turn_with o old.queue) → TurnBecomes
      at_entry None is turn = at_begin is (rows.begin old.queue) refl turn
      at_entry (Some number) is turn =
          turn-some law old engine most number old.queue (slice_set old.engines engine (Some number)) whole (ran-before old engine number whole is)
          (ap (λ o. (at_turn_with o old.queue).1) is) result handed next turn

      at_idle : (b : Bool) → MatchBool b (TurnAt old None most result handed next) (TurnAt (with_turn engine old) (at_turn engine old).1 most result handed next) → TurnBecomes
      at_idle true turn = turn-none old.queue old.engines refl refl turn
      at_idle false turn = at_entry (on_engine engine old) refl turn

  -- A turn.
  pub turn-becomes : TakesTurnOn old engine most result handed next → TurnBecomes
  turn-becomes turn = grind (arith, turn-taken, nothing-done)

-- ---- commands of an operator

-- each entry that runs is aborted; every other number stands as before
abort-running : (world : World) → IsWhole world → (n : ℕ) → Change (nothing None) (standing n world) (standing n (running_aborted world))
abort-running world whole n = at (rows.entry_runs n world.queue) refl
  where
    now : (b : Bool) → rows.entry_runs n world.queue ≡ b
        → standing n (running_aborted world)
        ≡ stands (nat_le n world.queue.last) (option_map (λ entry. if b then aborted_entry entry else entry) (entry_numbered n world.queue.entries))
        (option_map (λ work. if b then without_job work else work) (work_numbered n world))
    now b is =
        (λ j.
        stands (nat_le n world.queue.last)
        (keyed-lookup (where_so (λ m. rows.entry_runs m world.queue) aborted_entry) n world.queue.entries j)
        (keyed-lookup (where_so (λ m. rows.entry_runs m world.queue) without_job) n world.works j))
        ∙ ap (λ b.
        stands (nat_le n world.queue.last)
        (option_map (λ entry. if b then aborted_entry entry else entry) (entry_numbered n world.queue.entries))
        (option_map (λ work. if b then without_job work else work) (work_numbered n world))) is

    same : {X : Type 0} (o : Option X) → option_map (λ x. x) o ≡ o
    same o = grind arith

    at : (b : Bool) → rows.entry_runs n world.queue ≡ b → Change (nothing None) (standing n world) (standing n (running_aborted world))
    at false is =
        Stays (now false is ∙ (λ j. stands (nat_le n world.queue.last) (same (entry_numbered n world.queue.entries) j) (same (work_numbered n world) j))) (idle None)
    at true is =
        let it = runs_as n world.queue is in
        let before = listed_in n world it.entry whole it.there in
        let none = no_steps before.0 None in
        Aborts it.entry it.entry.begun before.0 none.0 (excluded is_running has_ended refl it.entry.status it.runs) none.1 (λ e. (e, refl)) before.1
        (now true is ∙ (λ j. stands (before.1 j).given (option_map aborted_entry (before.1 j).entry) (option_map without_job (before.1 j).work)))

pub operator-becomes : (command : OperatorCommand) (world : World) → IsWhole world → Becomes world (operated command world) (λ n. nothing None)
operator-becomes operators.Pause world whole = record { queue = whole.queue; on_engines = whole.on_engines; count = refl; each = λ n. Stays refl (idle None) }
operator-becomes operators.Continue world whole = record { queue = whole.queue; on_engines = whole.on_engines; count = refl; each = λ n. Stays refl (idle None) }
operator-becomes operators.AbortRunning world whole = record {
  queue = queue-aborted world whole.queue;
  on_engines = on_engines-free world whole.on_engines;
  count = length-aborted_running world;
  each = abort-running world whole;
}
