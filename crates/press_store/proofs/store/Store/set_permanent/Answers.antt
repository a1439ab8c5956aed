use Rattle.std.proofs.Common.{◌≡◌, Some, refl, ap, sym, ◌∙◌, nat_eq}
use Rattle.std.specs.Map.{lookup}
use Rattle.press_store.specs.Things.{made}
use Rattle.press_store.proofs.StoreLemmas.{things_of, made_present, made_absent}
use Rattle.press_store.proofs.store.Store.set_permanent.Goals.{in-Some, in_default}
use Rattle.press_store.proofs.store.Store.set_permanent.Goals as goal

pub returns : goal.returns
returns g c = elim c.match-get_mut.branch [
  | in-Some w ↦
      let after = record w.in-Some.entry.now { permanent = c.args.permanent } in
      let found : lookup (nat_eq c.args.id) c.self.inside.entries.entries ≡ Some w.in-Some.entry.now = sym w.in-Some.ensures.value in
      ap (λ s. things_of s.entries.entries) w.self-inside-is
      ∙ made_present c.self.inside.entries.entries (c.get_mut.follows.lender after).entries c.args.id c.args.permanent w.in-Some.entry.now found
      ((c.get_mut.follows.holds after).3 (rw found refl)).0
      ∙ ap (λ s. made s.things c.args.id c.args.permanent) c.self.view_is
  | in_default w ↦
      ap (λ s. things_of s.entries.entries) w.self-inside-is ∙ ap (λ m. things_of m.entries) c.get_mut.follows.holds-at-none
      ∙ made_absent c.self.inside.entries.entries c.args.id c.args.permanent (sym w.in_default.ensures.value)
      ∙ ap (λ s. made s.things c.args.id c.args.permanent) c.self.view_is
]
