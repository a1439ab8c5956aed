-- What a message makes of the queue and of each number.
use Rattle.std.proofs.Common.{◌≡◌, ℕ, ℤ, nat_le, false, List, Option, Some, None, IfSome, Result, Ok, Err, option_map, option_and_then}
use Rattle.std.proofs.Common.{refl, sym, ap, subst, arith, rules, length}
use Rattle.std.specs.Prelude.{codes}
use Rattle.std.specs.Result.{result_ok}
use Rattle.serde_json.specs.Data.{Data}
use Rattle.press_bits.specs.Page.{Page}
use Rattle.press_queue.specs.declared.command.EntryCommand.{EntryCommand}
use Rattle.press_queue.specs.declared.command.EntryCommand.TheVariants as commands
use Rattle.press_queue.specs.EveryQueue.{IsQueue}
use Rattle.press_queue.specs.QueueLaw.{EachRowKeepsTheQueue}
use Rattle.press_queue.specs.Rows as rows
use Rattle.press_queue.specs.State.{QueueState}
use Rattle.press_queue.proofs.CommandLemmas.{Commanded, commanded_is}
use Rattle.press_ticket.specs.Ticket.{JobTicket}
use Rattle.press_core.specs.declared.fault.Refused.{Refused}
use Rattle.press_core.specs.declared.message_type.MessageType.{MessageType}
use Rattle.press_core.specs.declared.message_type.MessageType.TheVariants as types
use Rattle.press_core.specs.Messages.{Heading, Headed, heading_of, message_in}
use Rattle.press_core.specs.Parameters.{and_then}
use Rattle.press_core.specs.Rows as table
use Rattle.press_core.specs.Work.{IsPrintable, new_work}
use Rattle.press_core.specs.World.{Consequence, World, consequence, engines_after, with_new_work, with_queue}
use Rattle.press_core.proofs.CommandLemmas.{became, engines-commanded}
use Rattle.press_core.proofs.EngineLemmas.{length-left_by}
use Rattle.press_core.proofs.PressLemmas.{on_engines-entered, on_engines-flushed}
use Rattle.press_core.proofs.SoundLemmas.{submitted_is}
use Rattle.press_history.proofs.ChangeLemmas.{commanded-changes, enters-changes, flush-changes}
use Rattle.press_history.proofs.Standings.{Becomes, Change, IsWhole, idle, nothing, same-becomes, standing, unlisted}

-- ---- what follows a refusal

-- so it is of a world behind what a message is answered
abbrev AnswersBecome : Option (JobTicket × List Page) → World → table.MessageAnswer → Type 0
AnswersBecome submits world (Err refused) = Unit {0}
AnswersBecome submits world (Ok (additions, after)) = Becomes world after (λ n. nothing submits)

named-becomes : {A : Type 0} (submits : Option (JobTicket × List Page)) (found : Result A Refused) (world : World) (row : A → table.MessageAnswer)
    → ((a : A) → AnswersBecome submits world (row a)) → AnswersBecome submits world (and_then row found)
named-becomes submits found world row next = grind arith

row-becomes : {A : Type 0} (submits : Option (JobTicket × List Page)) (answer : rows.QueueAnswer A) (world : World) (row : A × World → table.MessageAnswer)
    → ((a : A) (queue : QueueState) → answer ≡ (queue, Ok a) → AnswersBecome submits world (row (a, with_queue queue world)))
    → AnswersBecome submits world (and_then row (table.after_queue world answer))
row-becomes submits answer world row next = grind arith

-- as many engines
as_many : (what : Consequence) (number : ℕ) (engines : List (Option ℕ)) → length (engines_after what number engines) ≡ length engines
as_many what number engines = grind (arith, length-left_by)

-- the ticket that is submitted, with its images
abbrev submits_in : List Page → Option JobTicket → Option (JobTicket × List Page)
submits_in images ticket = option_map (λ ticket. (ticket, images)) ticket

module _ (law : EachRowKeepsTheQueue) (world : World) (whole : IsWhole world) where
  -- ---- the row of each type

  -- a command to one entry, and what follows of it
  entry-becomes : (command : EntryCommand) (number : ℕ) → AnswersBecome None world (table.entry_row command number world)
  entry-becomes command number =
      row-becomes None (rows.commanded command number world.queue) world _ (λ done queue is.
      let it = became command number world.queue queue whole.queue.distinct (subst (Commanded command number world.queue) is (commanded_is command number world.queue)) in
      record {
        queue = subst IsQueue (ap (λ r. r.0) is) (law.command command number world.queue whole.queue);
        on_engines = engines-commanded command number world.queue queue world.engines it whole.on_engines;
        count = as_many (consequence command) number world.engines;
        each = commanded-changes number world queue whole it.last command it;
      })

  named-entry : (command : EntryCommand) (message : Data) → AnswersBecome None world (table.named_row command message world)
  named-entry command message = named-becomes None (table.named_entry message world.queue) world _ (λ number. entry-becomes command number)

  numbered-entry : (key : List ℕ) (command : ℤ → EntryCommand) (message : Data) → AnswersBecome None world (table.numbered_row key command message world)
  numbered-entry key command message = named-becomes None (table.named_entry_with key message world.queue) world _ (λ both. entry-becomes (command both.1) both.0)

  submit-becomes : (images : List Page) (found : Result (JobTicket × ℤ) Refused)
      → IfSome (option_map (λ both. both.0) (result_ok found)) (λ ticket. IsPrintable ticket images)
      → AnswersBecome (submits_in images (option_map (λ both. both.0) (result_ok found))) world
      (and_then (λ both. and_then (λ done. table.taken_in done.0 both.0 images done.1) (table.after_queue world (rows.submit both.1 world.queue))) found)
  submit-becomes images (Err refused) printable = tt
  submit-becomes images (Ok both) printable =
      row-becomes (Some (both.0, images)) (rows.submit both.1 world.queue) world _ (λ number queue is.
      let submitted = submitted_is both.1 world.queue queue number (sym is) in
      let above : nat_le number world.queue.last ≡ false = grind (arith, rules, submitted.next) in
      record {
        queue = subst IsQueue (ap (λ r. r.0) is) (law.submit both.1 world.queue whole.queue);
        on_engines = on_engines-entered number submitted.priority world.queue queue world.engines submitted.is (unlisted number world whole above).0 whole.on_engines;
        count = refl;
        each =
            subst (λ (q : QueueState).
            (n : ℕ) → Change (nothing (Some (both.0, images))) (standing n world) (standing n (with_new_work number (new_work both.0 images) (with_queue q world))))
            (sym submitted.is) (enters-changes world number submitted.priority both.0 images whole submitted.next printable);
      })

  -- what changes neither entries nor numbers
  flags-become : (queue : QueueState) → IsQueue queue → queue.entries ≡ world.queue.entries → queue.last ≡ world.queue.last
      → Becomes world (with_queue queue world) (λ n. nothing None)
  flags-become queue kept entries last = grind arith

  response_row-becomes : (message_type : MessageType) (message : Data) (images : List Page)
      → IfSome (table.ticket_of_type message_type message images) (λ ticket. IsPrintable ticket images)
      → AnswersBecome (submits_in images (table.ticket_of_type message_type message images)) world (table.response_row message_type message images world)
  response_row-becomes types.SubmitQueueEntry message images printable = submit-becomes images (table.submission message images) printable
  response_row-becomes types.HoldQueueEntry message images printable = named-entry commands.Hold message
  response_row-becomes types.ResumeQueueEntry message images printable = named-entry commands.Resume message
  response_row-becomes types.SuspendQueueEntry message images printable = named-entry commands.Suspend message
  response_row-becomes types.AbortQueueEntry message images printable = named-entry commands.Abort message
  response_row-becomes types.RemoveQueueEntry message images printable = named-entry commands.Remove message
  response_row-becomes types.SetQueueEntryPriority message images printable = numbered-entry (codes "Priority") (λ priority. commands.SetPriority priority) message
  response_row-becomes types.SetQueueEntryPosition message images printable = numbered-entry (codes "Position") (λ position. commands.SetPosition position) message
  response_row-becomes types.HoldQueue message images printable = flags-become (rows.hold_queue world.queue) (law.hold_queue world.queue whole.queue) refl refl
  response_row-becomes types.ResumeQueue message images printable = flags-become (rows.resume_queue world.queue) (law.resume_queue world.queue whole.queue) refl refl
  response_row-becomes types.OpenQueue message images printable = flags-become (rows.open_queue world.queue) (law.open_queue world.queue whole.queue) refl refl
  response_row-becomes types.CloseQueue message images printable = flags-become (rows.close_queue world.queue) (law.close_queue world.queue whole.queue) refl refl
  response_row-becomes types.FlushQueue message images printable = record {
    queue = law.flush world.queue whole.queue;
    on_engines = on_engines-flushed world.queue world.engines whole.queue.distinct whole.on_engines;
    count = refl;
    each = flush-changes world whole;
  }
  response_row-becomes types.QueueStatus message images printable = same-becomes world (λ n. nothing None) whole (λ n. idle None)
  response_row-becomes types.Status message images printable = same-becomes world (λ n. nothing None) whole (λ n. idle None)

  -- ---- the response

  responding-becomes : (submits : Option (JobTicket × List Page)) (heading : Heading) (answer : table.MessageAnswer) → AnswersBecome submits world answer
      → Becomes world (table.responding heading world answer).1 (λ n. nothing submits)
  responding-becomes submits heading (Ok (addition, after)) becomes = becomes
  responding-becomes submits heading (Err refused) becomes = same-becomes world (λ n. nothing submits) whole (λ n. idle submits)

  headed-becomes : (message : Data) (found : Headed) (images : List Page) → IfSome (table.ticket_of_headed found message images) (λ ticket. IsPrintable ticket images)
      → Becomes world (table.responding_to found message images world).1 (λ n. nothing (submits_in images (table.ticket_of_headed found message images)))
  headed-becomes message (Err stopped) images printable = same-becomes world (λ n. nothing None) whole (λ n. idle None)
  headed-becomes message (Ok headed) images printable =
      responding-becomes (submits_in images (table.ticket_of_type headed.1 message images)) headed.0 (table.response_row headed.1 message images world)
      (response_row-becomes headed.1 message images printable)

  in-becomes : (found : Option Data) (images : List Page)
      → IfSome (option_and_then (λ message. table.ticket_of_headed (heading_of message) message images) found) (λ ticket. IsPrintable ticket images)
      → Becomes world (table.responding_in found images world).1
      (λ n. nothing (submits_in images (option_and_then (λ message. table.ticket_of_headed (heading_of message) message images) found)))
  in-becomes None images printable = same-becomes world (λ n. nothing None) whole (λ n. idle None)
  in-becomes (Some message) images printable = headed-becomes message (heading_of message) images printable

  -- A message that is answered.
  pub message-becomes : (text : List ℕ) (images : List Page) → IfSome (table.ticket_in text images) (λ ticket. IsPrintable ticket images)
      → Becomes world (table.responded text images world).1 (λ n. nothing (submits_in images (table.ticket_in text images)))
  message-becomes text images printable = in-becomes (message_in text) images printable
