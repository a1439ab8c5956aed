use Rattle.std.proofs.Common.{ℕ, ◌<◌, replicate, Result}
use Rattle.press_sink.specs.SinkLog.{SheetLog, TookLast, most_faults}
use Rattle.press_core.specs.declared.turn.TurnError.{TurnError}
use Rattle.press_core.specs.Handing.{HandsOver, handing}
use Rattle.press_core.proofs.handing.hand_over_copies.Given as goal

-- what is handed over of the copies that are left is handed over of all
abbrev pub invariant-loop-left : goal.invariant-loop-left
invariant-loop-left g l =
    record {
      has_fault_room : (g.S.SheetSink.told l.sink).faults < most_faults;
      last : l.left < l.fn.copies → TookLast (g.S.SheetSink.told l.sink) (record { tag = l.number; sheet = l.sheet });
      rest : (result : Result (Unit {0}) TurnError) (after : SheetLog) (count : ℕ)
          → HandsOver (replicate l.left l.sheet) result (handing l.number (g.S.SheetSink.told l.sink) after) l.delivered count
          → HandsOver (replicate l.fn.copies l.sheet) result (handing l.number (g.S.SheetSink.told l.fn.sink) after) l.fn.delivered count;
    }

abbrev pub decreases-loop-left : goal.decreases-loop-left
decreases-loop-left g l = l.left
