use Rattle.std.proofs.Common.{◌∙◌, sym}
use Rattle.press_queue.proofs.EntryLemmas.{moved_by_index}
use Rattle.press_queue.proofs.entries.move_to.Goals as goal

pub returns-in-Some : goal.returns-in-Some
returns-in-Some c =
    c.move_index.ensures.entries
    ∙ moved_by_index c.args.entries.now.entries c.in-Some.place c.args.index c.args.number c.args.entry (sym c.in-Some.ensures.index) c.requires.there
