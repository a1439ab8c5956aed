use Rattle.std.proofs.Common.{ap, ◌∙◌, rules}
use Rattle.indexmap.proofs.CallerLemmas.{filter-RetainsPairs}
use Rattle.press_store.specs.Things.{permanent_only}
use Rattle.press_store.proofs.StoreLemmas.{kept_only}
use Rattle.press_store.proofs.store.Store.delete_temporary.Goals as goal

pub returns : goal.returns
returns g c =
    kept_only c.self.inside.entries.entries c.retain.new.self.entries c.self.invariant
    (filter-RetainsPairs _ _ _ (λ k v b w g call. search rules) _ _ c.retain.ensures.filtered)
    ∙ ap (λ s. permanent_only s.things) c.self.view_is
