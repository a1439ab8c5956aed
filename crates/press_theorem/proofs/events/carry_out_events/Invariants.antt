use Rattle.std.proofs.Common.{◌<◌, map, take}
use Rattle.press_sink.specs.SinkLog.{most_faults}
use Rattle.press_theorem.specs.Events.{HappenAll, event_of, handing}
use Rattle.press_theorem.proofs.events.carry_out_events.Given as goal

-- the events so far happened
abbrev pub invariant-loop-event : goal.invariant-loop-event
invariant-loop-event g l = record {
  happened : HappenAll l.initial.press (map event_of (take l.event-index l.events)) l.press
      (handing (g.S.SheetSink.told l.initial.sheets) (g.S.SheetSink.told l.sheets) l.initial.responses.items l.responses.items
      l.initial.turns.items l.turns.items);
  has_fault_room : (g.S.SheetSink.told l.sheets).faults < most_faults;
}
