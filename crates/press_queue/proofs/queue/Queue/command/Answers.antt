-- What is true of every queue is true after it.
use Rattle.std.proofs.Common.{◌≡◌, ◌∙◌, ap, sym, subst}
use Rattle.press_queue.specs.Entries.{changed}
use Rattle.press_queue.specs.EveryQueue.{IsQueue}
use Rattle.press_queue.specs.Inside.{queue_state}
use Rattle.press_queue.specs.Rows as rows
use Rattle.press_queue.specs.State.{QueueState}
use Rattle.press_queue.proofs.RowLemmas.{commanded-keeps}
use Rattle.press_queue.proofs.queue.Queue.command.Goals as goal

pub invariant_of-self : goal.invariant_of-self
invariant_of-self c =
    let queue = queue_state c.self.inside in
    let entry = c.in_ok-entry.entry in
    let row : rows.commanded c.args.command c.args.number queue
    ≡ rows.accepted (rows.with_entries (changed c.in_ok-change.change c.args.number entry queue.entries) queue) =
    ap (λ (q : QueueState). rows.at_entry c.args.command c.args.number queue (rows.legal_entry c.args.command c.args.number q.entries)) c.self.view_is
    ∙ ap (rows.at_entry c.args.command c.args.number queue) (sym c.in_ok-entry.ensures)
    ∙ ap (λ q. rows.at_change c.args.number entry queue (rows.change_of c.args.command q)) c.self.view_is
    ∙ ap (rows.at_change c.args.number entry queue) (sym c.in_ok-change.ensures.value) in
    rw c.change.ensures (subst IsQueue (ap (λ r. r.0) row) (commanded-keeps c.args.command c.args.number queue c.self.invariant))
