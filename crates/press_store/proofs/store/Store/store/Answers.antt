use Rattle.std.proofs.Common.{ap, ◌∙◌, false}
use Rattle.press_store.specs.Things.{stored}
use Rattle.press_units.proofs.EntryLemmas.{inserted}
use Rattle.press_store.proofs.store.Store.store.Goals as goal

pub returns-in-Ok-clause-stored : goal.returns-in-Ok-clause-stored
returns-in-Ok-clause-stored g c =
    inserted c.self.inside.entries.entries c.insert.new.self.entries c.args.id (record { value = c.args.value; permanent = false })
    c.in-Ok.ensures.updates.0
    ∙ ap (λ s. stored s.things c.args.id c.args.value) c.self.view_is
