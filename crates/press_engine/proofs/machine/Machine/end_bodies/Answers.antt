use Rattle.std.proofs.Common.{◌≡◌, ◌∙◌, true, inl, inr, sym, ap, reverse, ◌∷◌, [], arith}
use Rattle.std.proofs.lemmas.List.{reverse-append}
use Rattle.press_engine.specs.Stepping.{unwind}
use Rattle.press_engine.specs.Stepping.{is_top_used_up, run_of}
use Rattle.press_engine.proofs.EndsLemmas.{unwind-next, unwind-none, first-used}
use Rattle.press_engine.proofs.StepLemmas.{ends-overlay, is_err-of}
use Rattle.press_engine.proofs.machine.Machine.end_bodies.Goals as goal

pub loop-alloc-preserved : goal.loop-alloc-preserved
loop-alloc-preserved c =
    let activations = reverse c.loop-alloc.activations.items in
    let rest = reverse c.pop.new.self.items in
    let activation = c.in-Some.activation in
    let used : is_top_used_up activations ≡ true = ap (λ items. is_top_used_up (reverse items)) (sym c.deref.ensures.value) ∙ sym c.is_top_used_up.ensures ∙ c.loop-alloc-test.true in
    let all : activations ≡ activation ∷ rest = ap reverse (c.in-Some.ensures.items) ∙ reverse-append c.pop.new.self.items (activation ∷ []) in
    let first = first-used activations rest activation used all in
    record {
      ends = ap (unwind rest) c.in_ok-end_activation.ensures.ends ∙ unwind-next activations rest activation (run_of c.loop-alloc.self c.loop-alloc.out.items) all first ∙ c.loop-alloc.invariant.ends;
      overlay = λ ends. c.loop-alloc.invariant.overlay (ends-overlay activations rest activation all first (inr ends));
    }

pub returns-clause-ends : goal.returns-clause-ends
returns-clause-ends c = grind (arith, reverse, unwind-none)

pub returns-in_err-end_activation-clause-overlay : goal.returns-in_err-end_activation-clause-overlay
returns-in_err-end_activation-clause-overlay c stops = grind (arith, reverse, reverse-append, ends-overlay, first-used, inl, is_err-of)
