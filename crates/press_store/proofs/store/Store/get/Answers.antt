use Rattle.std.proofs.Common.{Some, None, ap, ◌∙◌}
use Rattle.press_store.specs.Things.{found}
use Rattle.press_store.proofs.StoreLemmas.{found-entry}
use Rattle.press_store.proofs.store.Store.get.Goals as goal

pub returns-in-Some : goal.returns-in-Some
returns-in-Some g c =
    found-entry c.self.inside.entries.entries c.args.id (Some c.in-Some.entry.now) c.in-Some.ensures.value
    ∙ ap (λ s. found s.things c.args.id) c.self.view_is

pub returns-in-None : goal.returns-in-None
returns-in-None g c =
    found-entry c.self.inside.entries.entries c.args.id None c.in-None.ensures.value
    ∙ ap (λ s. found s.things c.args.id) c.self.view_is
