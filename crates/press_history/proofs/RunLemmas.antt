-- Runs of events, and the laws over them.
use Rattle.std.proofs.Common.{◌≡◌, ◌≤◌, ◌+◌, ◌++◌, ◌||◌, ℕ, nat_le, cond, find, Bool, true, false, List, [], ◌∷◌, length}
use Rattle.std.proofs.Common.{Option, Some, None, refl, sym, ap, subst, ◌∙◌, arith, rules, true≢false, ◌⊎◌, inl, inr, is_some, not, append_assoc, append-nil}
use Rattle.std.specs.List.{flat_map}
use Rattle.std.specs.Option.{option_map_or, option_or}
use Rattle.std.proofs.lemmas.List.{length-replicate}
use Rattle.std.proofs.lemmas.List.Sums.{sum_by-cons}
use Rattle.std.proofs.lemmas.Option.{same_Some}
use Rattle.press_bits.specs.Page.{Page}
use Rattle.press_engine.specs.Machine.{StepResult}
use Rattle.press_queue.specs.declared.entry.Entry.{Entry}
use Rattle.press_queue.specs.Entries.{entry_numbered}
use Rattle.press_queue.specs.Status.{has_ended}
use Rattle.press_queue.specs.QueueLaw.{EachRowKeepsTheQueue}
use Rattle.press_sink.specs.declared.delivery.Delivery.{Delivery}
use Rattle.press_ticket.specs.Ticket.{JobTicket}
use Rattle.press_core.specs.Engines.{are_engines}
use Rattle.press_core.specs.Events.{Event, EventAnswer, Happens, Message, Nothing, Operator, Response, TurnOn, Turned, operated}
use Rattle.press_core.specs.Rows.{responded}
use Rattle.press_history.specs.Runs.{Transition, IsRun, IsExecution}
use Rattle.press_history.specs.History.{Seen, TakesInAll, entering, handed_under, sheets_under, is_fault_of, last_seen, met_fault, seen_after, steps_answered, steps_in, submitted_by}
use Rattle.press_history.specs.RunLaws.{EntriesAreBounded, EntriesDoNotInterfere, GivenUnder, JobsAreShort, JobsHandOutTheWantedSheets, SheetsAreGiven, StaysGone}
use Rattle.press_core.specs.Turns.{IsJobOf, sheets_from}
use Rattle.press_core.specs.Work.{new_work}
use Rattle.press_core.specs.World.{World, is_listed, new_world, work_numbered}
use Rattle.press_core.proofs.EngineLemmas.{on_engines-new}
use Rattle.press_core.proofs.JobLemmas.{IsJobOf-one, IsJobOf-some}
use Rattle.press_history.proofs.AccountLemmas.{Account, EnteredBy, IsKnown, KnownBy, Told, account-next, is_given, told_next}
use Rattle.press_history.proofs.BoundLemmas.{running-bound}
use Rattle.press_history.proofs.HandedLemmas.{handed-append}
use Rattle.press_history.proofs.MessageChanges.{message-becomes}
use Rattle.press_history.proofs.Standings.{Becomes, IsOver, IsWhole, both_listed, done_in, gone, idle, over-kept, same-becomes, standing, whole-next}
use Rattle.press_history.proofs.TurnChanges.{operator-becomes, turn-becomes}

-- ---- every event is such

-- nothing is handed out
without-turn : (old between next : World) (event : Event) (answer : EventAnswer) (handed : List Delivery) → handed ≡ [] → next ≡ between
    → Becomes old between (done_in old event answer []) → Becomes old next (done_in old event answer handed)
without-turn old between next event answer handed none same becomes = grind arith

-- What an event does to the queue, to the engines and to each number.
event-does : EachRowKeepsTheQueue → (old : World) (event : Event) (answer : EventAnswer) (handed : List Delivery) (next : World) → IsWhole old
    → Happens old event answer handed next → Becomes old next (done_in old event answer handed)
event-does law old (Message text images) (Response (Some bytes)) handed next whole happens =
    without-turn old (responded text images old).1 next (Message text images) (Response (Some bytes)) handed happens.0 (ap (λ r. r.1) happens.1)
    (message-becomes law old whole text images happens.2)
event-does law old (Message text images) (Response None) handed next whole happens =
    without-turn old old next (Message text images) (Response None) handed happens.0 happens.1
    (same-becomes old (done_in old (Message text images) (Response None) []) whole (λ n. idle (submitted_by (Message text images))))
event-does law old (TurnOn engine most) (Turned result) handed next whole happens = turn-becomes law old engine most whole result handed next happens
event-does law old (Operator command) Nothing handed next whole happens =
    without-turn old (operated command old) next (Operator command) Nothing handed happens.0 happens.1 (operator-becomes command old whole)
event-does law old (Message text images) (Turned result) handed next whole happens = absurd happens
event-does law old (Message text images) Nothing handed next whole happens = absurd happens
event-does law old (TurnOn engine most) (Response bytes) handed next whole happens = absurd happens
event-does law old (TurnOn engine most) Nothing handed next whole happens = absurd happens
event-does law old (Operator command) (Response bytes) handed next whole happens = absurd happens
event-does law old (Operator command) (Turned result) handed next whole happens = absurd happens

-- ---- runs

pub new-whole : EachRowKeepsTheQueue → (engines : ℕ) → are_engines engines ≡ true → IsWhole (new_world engines)
new-whole law engines are = record { queue = law.new; proper = λ n. tt; on_engines = on_engines-new engines are }

-- the world after one event
next-whole : EachRowKeepsTheQueue → (world : World) (h : Transition) → IsWhole world → Happens world h.event h.answer h.handed h.next → IsWhole h.next
next-whole law world h whole happens = grind (arith, whole-next, done_in, event-does)

pub run-whole : EachRowKeepsTheQueue → (world : World) (happenings : List Transition) (last : World) → IsWhole world → IsExecution world happenings last → IsWhole last
run-whole law world [] last whole leads = subst IsWhole (sym leads) whole
run-whole law world (h ∷ happenings) last whole (happens, leads) = run-whole law h.next happenings last (next-whole law world h whole happens) leads

-- ---- the account of a number in a run

-- what events told of a number
abbrev told_by : ℕ → World → List Transition → Told → Told
told_by n world happenings told = record {
  seen = seen_after n told.seen happenings;
  found = option_or told.found (entering n happenings);
  sheets = told.sheets ++ handed_under n happenings;
  steps = told.steps + steps_in n happenings;
  failed = told.failed || met_fault n world happenings;
}

-- the event that is found first, one further on
found-next : (p : Transition → Bool) (h : Transition) (happenings : List Transition) (before : Option Transition)
    → option_or (option_or before (cond (p h) (Some h) None)) (find p happenings) ≡ option_or before (find p (h ∷ happenings))
found-next p h happenings before = grind arith

or-assoc : (a b c : Bool) → (a || b) || c ≡ a || (b || c)
or-assoc a b c = grind arith

told-then : (n : ℕ) (world : World) (h : Transition) (happenings : List Transition) (told : Told)
    → told_by n h.next happenings (told_next h (standing n h.next) (done_in world h.event h.answer h.handed n) told) ≡ told_by n world (h ∷ happenings) told
told-then n world h happenings told = λ j. record {
  seen = seen_after n told.seen (h ∷ happenings);
  found = found-next (λ (x : Transition). nat_le n x.next.queue.last) h happenings told.found j;
  sheets = (append_assoc told.sheets (sheets_under n h.handed) (handed_under n happenings)
      ∙ ap (λ l. told.sheets ++ l) (sym (handed-append n h.handed (flat_map (λ (x : Transition). x.handed) happenings)))) j;
  steps = steps_are j;
  failed = or-assoc told.failed (is_fault_of n world h.event h.answer) (met_fault n h.next happenings) j;
} where
  steps_are : (told.steps + steps_answered n h.answer) + steps_in n happenings ≡ told.steps + steps_in n (h ∷ happenings)
  steps_are = omega (arith, sum_by-cons (λ (x : Transition). steps_answered n x.answer) h happenings)

told-none : (n : ℕ) (world : World) (told : Told) → told ≡ told_by n world [] told
told-none n world told = grind (arith, append-nil)

run-account : EachRowKeepsTheQueue → (n : ℕ) (world : World) (happenings : List Transition) (last : World) (told : Told) → IsWhole world → IsExecution world happenings last
    → Account (standing n world) told → Account (standing n last) (told_by n world happenings told)
run-account law n world [] last told whole leads account = grind (arith, standing n world, told-none n world told)
run-account law n world (h ∷ happenings) last told whole (happens, leads) account =
    let does = event-does law world h.event h.answer h.handed h.next whole happens in
    let done = done_in world h.event h.answer h.handed n in
    subst (λ t. Account (standing n last) t) (told-then n world h happenings told)
    (run-account law n h.next happenings last (told_next h (standing n h.next) done told) (next-whole law world h whole happens) leads
    (account-next h (standing n world) (standing n h.next) done told refl (does.each n) account))

-- from a press at its beginning
abbrev told_in : (n : ℕ) (first : World) → List Transition → Told
told_in n first happenings = record {
  seen = last_seen n happenings;
  found = entering n happenings;
  sheets = handed_under n happenings;
  steps = steps_in n happenings;
  failed = met_fault n first happenings;
}

run-from-new : EachRowKeepsTheQueue → (n : ℕ) (happenings : List Transition) (last : World) → (run : IsRun happenings last)
    → Account (standing n last) (told_in n (new_world run.engines) happenings)
run-from-new law n happenings last run =
    let first = new_world run.engines in
    subst (λ k. Account (standing n last) (record (told_in n first happenings) { steps = k })) (omega arith)
    (run-account law n first happenings last (record { seen = None; found = None; sheets = []; steps = 0; failed = false }) (new-whole law run.engines run.are) run.leads
    (record { known = (refl, refl); listed = λ some. absurd (true≢false (sym some)); unknown = λ _. (refl, refl) }))

-- ---- given sheets

given-under : JobsHandOutTheWantedSheets → JobsAreShort → EachRowKeepsTheQueue → (happenings : List Transition) (last : World) (number : ℕ)
    → (run : IsRun happenings last) → GivenUnder (new_world run.engines) happenings last number
given-under jobs short law happenings last number run = record {
  given = λ seen is. is_given jobs short seen.entry seen.work told.sheets told.steps told.failed (of seen is).1;
  entered = λ seen is. (of seen is).0;
  listed = account.listed;
  has_work =
      let whole = run-whole law (new_world run.engines) happenings last (new-whole law run.engines run.are) run.leads in
      both_listed (nat_le number last.queue.last) (entry_numbered number last.queue.entries) (work_numbered number last) (whole.proper number);
  few = λ seen is items job. short.steps seen.work items (of seen is).1.printable job;
  never = λ is. subst (λ o. KnownBy o told) is account.known;
} where
  told : Told
  told = told_in number (new_world run.engines) happenings

  account : Account (standing number last) told
  account = run-from-new law number happenings last run

  of : (seen : Seen) → last_seen number happenings ≡ Some seen → EnteredBy told.found seen.work × IsKnown seen.entry seen.work told.sheets told.steps told.failed
  of seen is = subst (λ o. KnownBy o told) is account.known

-- ---- numbers whose entry has ended, or left the list

pub run-over : EachRowKeepsTheQueue → (n : ℕ) (world : World) (happenings : List Transition) (last : World) → IsWhole world → IsExecution world happenings last
    → IsOver (standing n world) → (handed_under n happenings ≡ []) × ((standing n last ≡ standing n world) ⊎ (standing n last ≡ gone))
run-over law n world [] last whole leads over = (refl, inl (ap (standing n) leads))
run-over law n world (h ∷ happenings) last whole (happens, leads) over =
    let does = event-does law world h.event h.answer h.handed h.next whole happens in
    let kept = over-kept (done_in world h.event h.answer h.handed n) (standing n world) (standing n h.next) (does.each n) over in
    let rest = run-over law n h.next happenings last (next-whole law world h whole happens) leads (over_still kept.0) in (
      handed-append n h.handed (flat_map (λ (x : Transition). x.handed) happenings) ∙ ap (λ l. l ++ handed_under n happenings) kept.1 ∙ rest.0,
      both kept.0 rest.1,
    )
  where
    over_still : (standing n h.next ≡ standing n world) ⊎ (standing n h.next ≡ gone) → IsOver (standing n h.next)
    over_still h1 = grind arith

    both : (standing n h.next ≡ standing n world) ⊎ (standing n h.next ≡ gone) → (standing n last ≡ standing n h.next) ⊎ (standing n last ≡ gone)
        → (standing n last ≡ standing n world) ⊎ (standing n last ≡ gone)
    both first h2 = grind (arith, inr, inl)

stays-gone : EachRowKeepsTheQueue → (before after : List Transition) (mid last : World) (number : ℕ) → IsRun before mid → IsExecution mid after last → number ≤ mid.queue.last
    → is_listed number mid.queue ≡ false → StaysGone after last number
stays-gone law before after mid last number run leads below absent =
    let whole = run-whole law (new_world run.engines) before mid (new-whole law run.engines run.are) run.leads in
    let given : nat_le number mid.queue.last ≡ true = grind (arith, rules, below) in
    let rest = run-over law number mid after last whole leads (record { given = given; ended = none (entry_numbered number mid.queue.entries) absent }) in
    record { nothing = rest.0; absent = either rest.1 }
  where
    none : (o : Option Entry) → is_some o ≡ false → option_map_or (λ entry. not (has_ended entry.status)) o false ≡ false
    none o is = grind (arith, true≢false)

    either : (standing number last ≡ standing number mid) ⊎ (standing number last ≡ gone) → is_listed number last.queue ≡ false
    either h1 = grind (arith, is_some)

pub sheets-are-given : JobsHandOutTheWantedSheets → JobsAreShort → EachRowKeepsTheQueue → SheetsAreGiven
sheets-are-given jobs short law = record { under = given-under jobs short law; gone = stays-gone law }

-- ---- no interference

-- what was handed out in so many steps
took-sheets : EachRowKeepsTheQueue → (ticket : JobTicket) (images : List Page) (steps number : ℕ) (happenings : List Transition) (items : List StepResult)
    → TakesInAll number steps ticket images happenings → IsJobOf (new_work ticket images) items → handed_under number happenings ≡ sheets_from 0 steps items
took-sheets law ticket images steps number happenings items took job =
    at (last_seen number happenings) (run-from-new law number happenings took.last took.run).known
  where
    told : Told
    told = told_in number (new_world took.run.engines) happenings

    at : (o : Option Seen) → KnownBy o told → handed_under number happenings ≡ sheets_from 0 steps items
    at None never = never.0 ∙ ap (λ n. sheets_from 0 n items) (sym never.1 ∙ took.steps_are)
    at (Some seen) known =
        let so = known.1.counted took.no_fault in
        let first = known.1.first in
        let same : (ticket, images) ≡ (seen.work.ticket, seen.work.images) = same_Some (ticket, images) (seen.work.ticket, seen.work.images) (sym took.entered ∙ known.0) in
        let here : IsJobOf seen.work items = subst (λ (p : JobTicket × List Page). IsJobOf (new_work p.0 p.1) items) same job in
        sym (append-nil told.sheets) ∙ ap (λ l. told.sheets ++ l) (sym so.1) ∙ first.sheets_are
        ∙ ap (λ n. sheets_from 0 n first.items) (sym so.0 ∙ took.steps_are) ∙ ap (λ l. sheets_from 0 steps l) (IsJobOf-one seen.work first.items items first.is_job here)

pub entries-do-not-interfere : EachRowKeepsTheQueue → EntriesDoNotInterfere
entries-do-not-interfere law = record {
  alike = λ ticket images steps one other first second took_one took_other.
      let job = IsJobOf-some (new_work ticket images) in
      took-sheets law ticket images steps one first job.0 took_one job.1 ∙ sym (took-sheets law ticket images steps other second job.0 took_other job.1);
  sheets = took-sheets law;
}

-- ---- bounds

-- there are as many engines as at the beginning
leads-many : EachRowKeepsTheQueue → (world : World) (happenings : List Transition) (last : World) → IsWhole world → IsExecution world happenings last
    → length last.engines ≡ length world.engines
leads-many law world [] last whole leads = ap (λ (w : World). length w.engines) leads
leads-many law world (h ∷ happenings) last whole (happens, leads) =
    grind (arith, next-whole, event-does, leads-many law h.next happenings last (next-whole law world h whole happens) leads)

-- the world that a run leads to
whole-last : EachRowKeepsTheQueue → (happenings : List Transition) (last : World) → IsRun happenings last → IsWhole last
whole-last law happenings last run = run-whole law (new_world run.engines) happenings last (new-whole law run.engines run.are) run.leads

pub entries-are-bounded : EachRowKeepsTheQueue → EntriesAreBounded
entries-are-bounded law = record {
  on_engines = λ happenings last run. (whole-last law happenings last run).on_engines;
  count = λ happenings last run.
      leads-many law (new_world run.engines) happenings last (new-whole law run.engines run.are) run.leads ∙ length-replicate run.engines None;
  running = λ happenings last run.
      let whole = whole-last law happenings last run in
      running-bound last.queue last.engines whole.queue.distinct whole.on_engines;
  queue = λ happenings last run. (whole-last law happenings last run).queue;
  once = λ before after mid last number run leads below absent. (stays-gone law before after mid last number run leads below absent).absent;
}
