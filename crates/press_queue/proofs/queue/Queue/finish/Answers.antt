-- What is true of every queue is true after it.
use Rattle.std.proofs.Common.{sym, ◌∙◌, subst}
use Rattle.press_queue.specs.EveryQueue.{IsQueue}
use Rattle.press_queue.specs.Inside.{queue_state}
use Rattle.press_queue.specs.Rows.{finish_entry_at}
use Rattle.press_queue.proofs.RowLemmas.{finish_entry-keeps}
use Rattle.press_queue.proofs.queue.Queue.finish.Goals as goal

pub invariant_of-self : goal.invariant_of-self
invariant_of-self c =
    let queue = queue_state c.self.inside in
    rw (c.set_status.ensures, c.status.ensures)
    (subst (λ found. IsQueue (finish_entry_at found c.args.number c.args.end queue)) (sym c.entry_numbered.ensures ∙ c.in-Some.is)
    (finish_entry-keeps c.args.number c.args.end queue c.self.invariant))
