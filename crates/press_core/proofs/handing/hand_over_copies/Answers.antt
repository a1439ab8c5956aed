use Rattle.std.proofs.Common.{◌≡◌, ◌<◌, ◌-◌, suc, arith, sym, subst}
use Rattle.press_sink.specs.SinkLog.{most_faults}
use Rattle.press_core.proofs.HandingLemmas.{HandsOver-then}
use Rattle.press_core.proofs.handing.hand_over_copies.Goals as goal

pub loop-left-preserved : goal.loop-left-preserved
loop-left-preserved g c =
    let some = c.loop-left-test.true in
    let left : c.loop-left.left ≡ suc (c.loop-left.left - 1) = omega (arith, some) in
    record {
      last = λ _. ((g.S.SheetSink.told c.loop-left.sink).delivered, c.in_ok-deliver.ensures.0);
      has_fault_room = subst (λ n. n < most_faults) (sym c.in_ok-deliver.ensures.1) c.loop-left.invariant.has_fault_room;
      rest = grind (arith, HandsOver-then);
    }
