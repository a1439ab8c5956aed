use Rattle.std.proofs.Common.{ap, ◌∙◌, sym}
use Rattle.std.specs.Option.{option_copied_mut}
use Rattle.press_queue.proofs.EntryLemmas.{with_entry_absent}
use Rattle.press_queue.proofs.entries.replace.Goals as goal

pub returns-in_default : goal.returns-in_default
returns-in_default c =
    ap (λ m. m.entries) c.get_mut.follows.holds-at-none
    ∙ with_entry_absent c.args.entries.now.entries c.args.number c.args.entry (sym c.get_mut.ensures.value ∙ ap option_copied_mut c.in_default.is)
