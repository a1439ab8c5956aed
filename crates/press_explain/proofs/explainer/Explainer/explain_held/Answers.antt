use Rattle.press_explain.proofs.StandLemmas.{goes_further}
use Rattle.press_explain.proofs.explainer.Explainer.explain_held.Goals as goal

pub loop-preserved : goal.loop-preserved
loop-preserved c = record {
  goes =
      goes_further c.args.self.now c.args.text.now.items c.loop.self c.loop.text.items c.loop.invariant.goes c.next.new.self c.next.new.text.items
      (rw c.if-branch.true at c.in_ok-next.ensures.explains);
  sound = c.in_ok-next.ensures.sound;
}
