use Rattle.std.proofs.Common.{ap, ◌∙◌}
use Rattle.std.specs.FinMap as maps
use Rattle.press_units.proofs.EntryLemmas.{removed}
use Rattle.press_store.proofs.store.Store.delete.Goals as goal

pub returns : goal.returns
returns g c =
    removed c.self.inside.entries.entries c.swap_remove.new.self.entries c.args.id c.swap_remove.ensures.updates.0
    ∙ ap (λ s. maps.remove s.things c.args.id) c.self.view_is
