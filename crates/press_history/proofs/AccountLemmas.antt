-- What is known of a number by its history: how its entry was seen last, with what it entered, what was handed out under it, how many
-- steps were taken for it, and whether it met a fault. One event after another.
use Rattle.std.proofs.Common.{◌≡◌, ◌≤◌, ◌+◌, ◌-◌, ◌++◌, ◌||◌, ◌&&◌, ℕ, Bool, true, false, not, cond, List, []}
use Rattle.std.proofs.Common.{◌∷◌, length, length-append, Option, Some, None, is_some, option_and_then}
use Rattle.std.proofs.Common.{unwrap_or, refl, sym, ap, subst, ◌∙◌, arith, true≢false, append_assoc, append-nil}
use Rattle.std.specs.Option.{option_or}
use Rattle.press_units.specs.Limits.{greatest_of_64_bits}
use Rattle.press_bits.specs.Page.{Page}
use Rattle.press_engine.specs.Machine.{StepResult}
use Rattle.press_queue.specs.declared.entry.Entry.{Entry}
use Rattle.press_queue.specs.declared.status.Status.TheVariants as statuses
use Rattle.press_queue.specs.Status.{has_ended, new_entry}
use Rattle.press_bits.specs.PrintedSheet.{PrintedSheet}
use Rattle.press_ticket.specs.Ticket.{JobTicket}
use Rattle.press_core.specs.Turns.{IsJobOf, progress_in_job, sheets_from}
use Rattle.press_core.specs.Work.{IsPrintable, Work, counting, new_work, with_delivered}
use Rattle.press_core.proofs.HandingLemmas.{counting-append}
use Rattle.press_core.proofs.JobLemmas.{IsJobOf-one, IsJobOf-some}
use Rattle.press_core.proofs.StepsLemmas.{sheets_from-more}
use Rattle.press_history.specs.Runs.{Transition}
use Rattle.press_history.specs.History.{AreFirst, AreGiven, IsPrefix, Seen, both_seen, submitted_by, wanted_of}
use Rattle.press_history.specs.RunLaws.{JobsAreShort, JobsHandOutTheWantedSheets}
use Rattle.press_history.proofs.Standings.{Aborts, Change, Completes, Done, Enters, GoesOn, IsIdle, IsOpen, Leaves, Standing, Stays, StepsOf}
use Rattle.press_history.proofs.Standings.{aborted_as, completed_entry, gone, listed}

-- ---- the sheets of the first steps

first-more : (progress steps : ℕ) (items : List StepResult) → sheets_from 0 (progress + steps) items ≡ sheets_from 0 progress items ++ sheets_from progress steps items
first-more progress steps items = grind (arith, sheets_from-more 0 progress steps items)

-- steps more, from where the job stands
first_on : (progress steps : ℕ) (work : Work) (items : List StepResult) (sheets more : List PrintedSheet) → AreFirst progress work sheets → IsJobOf work items
    → steps ≤ length items - progress → more ≡ sheets_from progress steps items → AreFirst (progress + steps) work (sheets ++ more)
first_on progress steps work items sheets more first job few are = grind (arith, IsJobOf-one work first.items items, first-more progress steps items)

-- the sheets of the first steps are a prefix of the wanted ones
first_prefix : JobsHandOutTheWantedSheets → (steps : ℕ) (work : Work) (sheets : List PrintedSheet) → IsPrintable work.ticket work.images → AreFirst steps work sheets → IsPrefix sheets (wanted_of work)
first_prefix jobs steps work sheets printable first =
    let left = length first.items - steps in
    let all : steps + left ≡ length first.items = omega (arith, first.within) in (
      sheets_from steps left first.items,
      sym (jobs work first.items printable.fits printable.images_are first.is_job) ∙ ap (λ n. sheets_from 0 n first.items) (sym all) ∙ first-more steps left first.items
          ∙ ap (λ l. l ++ sheets_from steps left first.items) (sym first.sheets_are),
    )

-- ---- what is known of an entry

-- So many steps of its job were taken, and the sheets are a prefix of theirs. Without a fault they are all, and the steps are counted;
-- so it is where the entry has not ended, and where it is completed, and then the steps are those to the place of its work, or all.
pub record IsKnown (entry : Entry) (work : Work) (sheets : List PrintedSheet) (steps : ℕ) (failed : Bool) : Type 0 where
  pub printable : IsPrintable work.ticket work.images
  pub taken : ℕ
  pub others : List PrintedSheet
  pub first : AreFirst taken work (sheets ++ others)
  pub counted : failed ≡ false → (steps ≡ taken) × (others ≡ [])
  pub is_open : IsOpen entry → (entry.begun ≡ is_some work.progress) × (taken ≡ progress_in_job work) × (steps ≡ taken) × (others ≡ [])
  pub completed : entry.status ≡ statuses.Completed → (taken ≡ length first.items) × (others ≡ [])
  pub unbegun : entry.begun ≡ false → sheets ≡ []
  pub delivered : work.delivered ≡ counting sheets 0
  pub kept : work.kept ≡ not (has_ended entry.status)

known_entered : (priority : ℕ) (ticket : JobTicket) (images : List Page) (failed : Bool) → IsPrintable ticket images → IsKnown (new_entry priority) (new_work ticket images) [] 0 failed
known_entered priority ticket images failed printable = grind (arith, IsJobOf-some (new_work ticket images))

none_after : (one other : Bool) → one || other ≡ false → other ≡ false
none_after one other is = grind arith

-- What an entry that has not ended became, with its work: it goes on from its place, it is completed at the end of its job, or neither.
known-next : (was is : Entry) (work : Work) (progress : Option ℕ) (kept : Bool) (items : List StepResult) (sheets : List PrintedSheet) (steps : ℕ) (failed : Bool) (done : Done)
    → IsKnown was work sheets steps failed → IsOpen was → StepsOf work items done
    → (IsOpen is → (was.begun ≡ is_some work.progress → is.begun ≡ is_some progress) × (unwrap_or progress 0 ≡ progress_in_job work + done.steps) × (done.failed ≡ false))
    → (is.status ≡ statuses.Completed → (progress_in_job work + done.steps ≡ length items) × (done.failed ≡ false))
    → (is.begun ≡ false → (was.begun ≡ false) × (done.sheets ≡ [])) → (work.kept ≡ not (has_ended was.status) → kept ≡ not (has_ended is.status))
    → IsKnown is (record (with_delivered done.sheets work) { progress = progress; kept = kept }) (sheets ++ done.sheets) (steps + done.steps) (failed || done.failed)
unfolding first_on
known-next was is work progress kept items sheets steps failed done known is_open took opens completes unbegun keeps = record {
  printable = known.printable;
  taken = known.taken + took.steps;
  others = took.others;
  first = record { items = items; is_job = took.is_job; within = first.within; sheets_are = append_assoc sheets done.sheets took.others ∙ first.sheets_are };
  counted = λ none. all (none_after failed done.failed none);
  is_open = λ still.
      let on = opens still in
      let so = all on.2 in
      (on.0 at.0, ap (λ n. n + took.steps) at.1 ∙ ap (λ n. progress_in_job work + n) (sym (took.all on.2).0) ∙ sym on.1, so.0, so.1);
  completed = λ over.
      let end = completes over in
      (ap (λ n. n + took.steps) at.1 ∙ ap (λ n. progress_in_job work + n) (sym (took.all end.1).0) ∙ end.0, (all end.1).1);
  unbegun = λ none.
      let so = unbegun none in
      ap (λ l. l ++ done.sheets) (known.unbegun so.0) ∙ so.1;
  delivered = ap (λ n. counting done.sheets n) known.delivered ∙ sym (counting-append sheets done.sheets 0);
  kept = keeps known.kept;
} where
  at : (was.begun ≡ is_some work.progress) × (known.taken ≡ progress_in_job work) × (steps ≡ known.taken) × (known.others ≡ [])
  at = known.is_open is_open

  first : AreFirst (known.taken + took.steps) work (sheets ++ (done.sheets ++ took.others))
  first =
      first_on known.taken took.steps work items sheets (done.sheets ++ took.others)
      (subst (λ l. AreFirst known.taken work l) (ap (λ l. sheets ++ l) at.3 ∙ append-nil sheets) known.first) took.is_job
      (subst (λ n. took.steps ≤ length items - n) (sym at.1) took.few) (took.front ∙ ap (λ n. sheets_from n took.steps items) (sym at.1))

  all : done.failed ≡ false → (steps + done.steps ≡ known.taken + took.steps) × (took.others ≡ [])
  all well = let so = took.all well in (omega (arith, at.2, so.0), so.1)

-- ---- the account of a number

-- what was told of it so far
pub record Told : Type 0 where
  pub seen : Option Seen
  pub found : Option Transition
  pub sheets : List PrintedSheet
  pub steps : ℕ
  pub failed : Bool

-- and after one more event
abbrev pub found_now : (given : Bool) → Transition → Option Transition → Option Transition
found_now given happening before = option_or before (cond given (Some happening) None)

abbrev pub told_next : Transition → Standing → Done → Told → Told
told_next happening now done told = record {
  seen = option_or (both_seen now.entry now.work) told.seen;
  found = found_now now.given happening told.found;
  sheets = told.sheets ++ done.sheets;
  steps = told.steps + done.steps;
  failed = told.failed || done.failed;
}

-- the event with which it entered submitted its ticket and its images
abbrev pub EnteredBy : Option Transition → Work → Type 0
EnteredBy found work = option_and_then (λ (happening : Transition). submitted_by happening.event) found ≡ Some (work.ticket, work.images)

entered_still : (given : Bool) (happening : Transition) (found : Option Transition) (work : Work) → EnteredBy found work → EnteredBy (found_now given happening found) work
entered_still given happening found work by = grind arith

-- by how its entry was seen last
abbrev pub KnownBy : Option Seen → Told → Type 0
KnownBy None told = (told.sheets ≡ []) × (told.steps ≡ 0)
KnownBy (Some seen) told = EnteredBy told.found seen.work × IsKnown seen.entry seen.work told.sheets told.steps told.failed

pub record Account (now : Standing) (told : Told) : Type 0 where
  pub known : KnownBy told.seen told
  pub listed : is_some now.entry ≡ true → told.seen ≡ both_seen now.entry now.work
  pub unknown : now.given ≡ false → (told.seen ≡ None) × (told.found ≡ None)

-- nothing new is seen, and nothing is done
account-idle : (happening : Transition) (now : Standing) (done : Done) (told : Told) → IsIdle done → option_or (both_seen now.entry now.work) told.seen ≡ told.seen
    → KnownBy told.seen told → KnownBy (told_next happening now done told).seen (told_next happening now done told)
account-idle happening now done told quiet same known =
    subst (λ (t : Told). KnownBy t.seen t) (λ j. record {
      seen = sym same j;
      found = found_now now.given happening told.found;
      sheets = sym (ap (λ l. told.sheets ++ l) quiet.no_sheets ∙ append-nil told.sheets) j;
      steps = steps_are j;
      failed = sym (ap (λ b. told.failed || b) quiet.no_fault ∙ or_false told.failed) j;
    })
    (still told.seen known)
  where
    steps_are : told.steps ≡ told.steps + done.steps
    steps_are = omega (arith, quiet.no_steps)

    or_false : (b : Bool) → b || false ≡ b
    or_false b = grind arith

    still : (seen : Option Seen) → KnownBy seen told → KnownBy seen (record told { found = found_now now.given happening told.found })
    still seen known = grind (arith, entered_still)

-- an entry that was in the list is another, with another work
account-changed : (happening : Transition) (was is : Entry) (work left : Work) (old new : Standing) (done : Done) (told : Told) → old ≡ listed was work → new ≡ listed is left
    → ◌≡◌ {A = Option (JobTicket × List Page)} (Some (work.ticket, work.images)) (Some (left.ticket, left.images))
    → (IsKnown was work told.sheets told.steps told.failed → IsKnown is left (told.sheets ++ done.sheets) (told.steps + done.steps) (told.failed || done.failed))
    → Account old told → Account new (told_next happening new done told)
account-changed happening was is work left old new done told before now same next account = grind arith

-- The account of a number after an event.
pub account-next : (happening : Transition) (old new : Standing) (done : Done) (told : Told) → done.submits ≡ submitted_by happening.event → Change done old new → Account old told
    → Account new (told_next happening new done told)
account-next happening old new done told is (Stays same quiet) account =
    let now = subst (λ s. Account s told) (sym same) account in
    let seen = seen_same new.entry new.work now.listed in
    record {
      known = account-idle happening new done told quiet seen now.known;
      listed = λ some. seen ∙ now.listed some;
      unknown = λ none. (seen ∙ (now.unknown none).0, (λ j. found_now (none j) happening ((now.unknown none).1 j)));
    }
  where
    seen_same : (o : Option Entry) (p : Option Work) → (is_some o ≡ true → told.seen ≡ both_seen o p) → option_or (both_seen o p) told.seen ≡ told.seen
    seen_same o p is = grind arith
account-next happening old new done told is (Enters priority ticket images brings printable before now quiet) account =
    let none = (subst (λ s. Account s told) before account).unknown refl in
    let idle = subst (λ o. KnownBy o told) none.0 account.known in
    subst (λ s. Account s (told_next happening s done told)) (sym now) (record {
      known = (
        ap (λ o. option_and_then (λ (h : Transition). submitted_by h.event) (option_or o (Some happening))) none.1 ∙ sym is ∙ brings,
        subst (λ l. IsKnown (new_entry priority) (new_work ticket images) l (told.steps + done.steps) (told.failed || done.failed))
            (sym (ap (λ l. l ++ done.sheets) idle.0 ∙ quiet.no_sheets))
            (subst (λ k. IsKnown (new_entry priority) (new_work ticket images) [] k (told.failed || done.failed)) (no_steps idle.1)
            (known_entered priority ticket images (told.failed || done.failed) printable)),
      );
      listed = λ _. refl;
      unknown = λ none. absurd (true≢false none);
    })
  where
    no_steps : told.steps ≡ 0 → 0 ≡ told.steps + done.steps
    no_steps none = omega (arith, none, quiet.no_steps)
account-next happening old new done told is (GoesOn was now work progress items may took before after) account =
    account-changed happening was now work (record (with_delivered done.sheets work) { progress = progress }) old new done told before after refl
    (λ known. known-next was now work progress work.kept items told.sheets told.steps told.failed done known may.was_open took
    (λ _. (may.begun, may.place, may.well)) (λ over. absurd (true≢false (sym (ap has_ended over) ∙ may.is_open)))
    may.unbegun (λ kept. kept ∙ ap not (may.was_open ∙ sym may.is_open))) account
account-next happening old new done told is (Completes was work items is_open took well all before after) account =
    account-changed happening was (completed_entry was) work (record (with_delivered done.sheets work) { progress = None; kept = false }) old new done told before after refl
    (λ known. known-next was (completed_entry was) work None false items told.sheets told.steps told.failed done known is_open took
    (λ still. absurd (true≢false still)) (λ _. (all, well)) (λ none. absurd (true≢false none)) (λ _. refl)) account
account-next happening old new done told is (Aborts was begun work items is_open took unbegun before after) account =
    account-changed happening was (aborted_as begun was) work (record (with_delivered done.sheets work) { progress = None; kept = false }) old new done told before after refl
    (λ known. known-next was (aborted_as begun was) work None false items told.sheets told.steps told.failed done known is_open took
    (λ still. absurd (true≢false still)) (λ over. absurd (cc)) unbegun (λ _. refl)) account
account-next happening old new done told is (Leaves was work before after quiet) account =
    subst (λ s. Account s (told_next happening s done told)) (sym after) (record {
      known = account-idle happening gone done told quiet refl account.known;
      listed = λ some. absurd (true≢false (sym some));
      unknown = λ none. absurd (true≢false none);
    })

-- ---- what is known says what was given

-- a count that stays small is the number of sheets
counting-few : (sheets : List PrintedSheet) (count : ℕ) → count + length sheets ≤ greatest_of_64_bits → counting sheets count ≡ count + length sheets
counting-few [] count few = omega arith
counting-few (sheet ∷ sheets) count few = grind (arith, counting-few sheets (count + 1) (omega (arith, few)))

length-prefix : (sheets all : List PrintedSheet) → IsPrefix sheets all → length sheets ≤ length all
length-prefix sheets all (others, is) = omega (arith, ap length is, length-append sheets others)

pub is_given : JobsHandOutTheWantedSheets → JobsAreShort → (entry : Entry) (work : Work) (sheets : List PrintedSheet) (steps : ℕ) (failed : Bool) → IsKnown entry work sheets steps failed
    → AreGiven entry work steps failed sheets
is_given jobs short entry work sheets steps failed known = record {
  in_flight = λ flying. in_flight entry.begun (has_ended entry.status) work.progress refl refl refl flying;
  counted = λ none. exactly (known.counted none);
  completed = λ is.
      let end = known.completed is in
      sym (append-nil sheets) ∙ ap (λ l. sheets ++ l) (sym end.1) ∙ known.first.sheets_are
      ∙ ap (λ n. sheets_from 0 n known.first.items) end.0 ∙ jobs work known.first.items known.printable.fits known.printable.images_are known.first.is_job;
  prefix = prefix;
  unbegun = known.unbegun;
  delivered =
      let few = short.sheets work.ticket work.images known.printable in
      known.delivered ∙ counting-few sheets 0 (omega (arith, few, length-prefix sheets (wanted_of work) prefix)) ∙ omega arith;
  kept = known.kept;
} where
  exactly : (steps ≡ known.taken) × (known.others ≡ []) → AreFirst steps work sheets
  exactly so =
      subst (λ n. AreFirst n work sheets) (sym so.0) (subst (λ l. AreFirst known.taken work l) (ap (λ l. sheets ++ l) so.1 ∙ append-nil sheets) known.first)

  prefix : IsPrefix sheets (wanted_of work)
  prefix = let front = first_prefix jobs known.taken work (sheets ++ known.others) known.printable known.first in
      (known.others ++ front.0, front.1 ∙ append_assoc sheets known.others front.0)

  in_flight : (begun ended : Bool) (o : Option ℕ) → entry.begun ≡ begun → has_ended entry.status ≡ ended → work.progress ≡ o → begun && not ended ≡ true
      → (work.progress ≡ Some steps) × AreFirst steps work sheets
  in_flight true false (Some progress) is_begun is_open at flying =
      let stands = known.is_open is_open in
      (at ∙ ap Some (sym (stands.2 ∙ stands.1 ∙ ap (λ o. unwrap_or o 0) at)), exactly (stands.2, stands.3))
  in_flight true false None is_begun is_open at flying = absurd (true≢false (sym is_begun ∙ (known.is_open is_open).0 ∙ ap is_some at))
  in_flight true true o is_begun ended at flying = absurd (true≢false (sym flying))
  in_flight false ended o is_begun is at flying = absurd (true≢false (sym flying))
