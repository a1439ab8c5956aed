use Rattle.std.proofs.Common.{◌+◌, [], ◌∷◌, map, take, drop, subst}
use Rattle.std.proofs.lemmas.List.{take_all}
use Rattle.press_units.proofs.ExitLemmas.{exit-is}
use Rattle.press_theorem.specs.Events.{HappenAll, event_of, handing}
use Rattle.press_theorem.proofs.EventLemmas.{HappenAll-none, HappenAll-then, HappenSome-behind, has_fault_room-then, events-next, events-rest, from-new, places-from-new, places-from-some, some-from-new}
use Rattle.press_theorem.proofs.events.carry_out_events.Goals as goal

pub loop-event-init : goal.loop-event-init
loop-event-init g c = record {
  happened = HappenAll-none c.args.press.now _ c.args.responses.now.items c.args.turns.now.items;
  has_fault_room = c.requires;
}

pub loop-event-preserved : goal.loop-event-preserved
loop-event-preserved g c =
    let told = g.S.SheetSink.told in
    let events = c.args.events.now in
    let i = c.loop-event.event-index in
    let event = c.event-item.result in
    let so_far = c.loop-event.invariant in
    let more = c.in_ok-carry_out.ensures.all in
    record {
      happened =
          HappenAll-then c.args.press.now c.loop-event.press c.carry_out.new.press (map event_of (take i events)) (event_of event ∷ [])
          (map event_of (take (i + 1) events)) _ _ _ _ c.loop-event.responses.items _ _ c.loop-event.turns.items _
          (events-next event_of events i event c.loop-event-test.true c.event-item.is) so_far.happened more;
      has_fault_room = has_fault_room-then (told c.loop-event.sheets) (told c.carry_out.new.sheets) more.no_fault so_far.has_fault_room;
    }

pub returns-clause-from_new : goal.returns-clause-from_new
returns-clause-from_new g c = λ engines are new.
    let told = g.S.SheetSink.told in
    let events = c.args.events.now in
    let i = c.loop-event.event-index in
    from-new c.new_presses_come_so.ensures c.args.press.now c.loop-event.press engines (map event_of events)
    (told c.args.sheets.now) (told c.loop-event.sheets) c.args.responses.now.items c.loop-event.responses.items
    c.args.turns.now.items c.loop-event.turns.items are new
    (subst (λ (some : _).
    HappenAll c.args.press.now (map event_of some) c.loop-event.press
    (handing (told c.args.sheets.now) (told c.loop-event.sheets) c.args.responses.now.items c.loop-event.responses.items
    c.args.turns.now.items c.loop-event.turns.items))
    (take_all i events c.loop-event-test.false) c.loop-event.invariant.happened)

pub returns-clause-places : goal.returns-clause-places
returns-clause-places g c = λ engines are new.
    let told = g.S.SheetSink.told in
    places-from-new c.new_presses_come_so.ensures c.args.press.now c.loop-event.press engines (map event_of (take c.loop-event.event-index c.args.events.now))
    (told c.args.sheets.now) (told c.loop-event.sheets) c.args.responses.now.items c.loop-event.responses.items
    c.args.turns.now.items c.loop-event.turns.items are new c.loop-event.invariant.happened

pub returns-in_err-carry_out-clause-err : goal.returns-in_err-carry_out-clause-err
returns-in_err-carry_out-clause-err g c =
    let told = g.S.SheetSink.told in
    let events = c.args.events.now in
    let i = c.loop-event.event-index in
    let event = c.event-item.result in
    rw (exit-is c.from_residual.ensures.1)
    (HappenSome-behind c.in_err-carry_out.field-0.0 c.args.press.now c.loop-event.press c.carry_out.new.press
    (map event_of (take i events)) (event_of event ∷ []) (map event_of (drop (i + 1) events)) (map event_of events)
    (told c.args.sheets.now) (told c.loop-event.sheets) (told c.carry_out.new.sheets) c.args.responses.now.items
    c.loop-event.responses.items c.carry_out.new.responses.items c.args.turns.now.items c.loop-event.turns.items c.carry_out.new.turns.items
    (events-rest event_of events i event c.loop-event-test.true c.event-item.is) c.loop-event.invariant.happened c.in_err-carry_out.ensures.err)

pub returns-in_err-carry_out-clause-err_from_new : goal.returns-in_err-carry_out-clause-err_from_new
returns-in_err-carry_out-clause-err_from_new g c =
    let told = g.S.SheetSink.told in
    let events = c.args.events.now in
    let i = c.loop-event.event-index in
    let event = c.event-item.result in
    rw (exit-is c.from_residual.ensures.1)
    (λ engines are new.
    some-from-new c.new_presses_come_so.ensures c.args.press.now c.carry_out.new.press engines
    (map event_of events) (told c.args.sheets.now) (told c.carry_out.new.sheets) c.args.responses.now.items
    c.carry_out.new.responses.items c.args.turns.now.items c.carry_out.new.turns.items are new c.in_err-carry_out.field-0.0
    (HappenSome-behind c.in_err-carry_out.field-0.0 c.args.press.now c.loop-event.press c.carry_out.new.press
    (map event_of (take i events)) (event_of event ∷ []) (map event_of (drop (i + 1) events)) (map event_of events)
    (told c.args.sheets.now) (told c.loop-event.sheets) (told c.carry_out.new.sheets) c.args.responses.now.items
    c.loop-event.responses.items c.carry_out.new.responses.items c.args.turns.now.items c.loop-event.turns.items c.carry_out.new.turns.items
    (events-rest event_of events i event c.loop-event-test.true c.event-item.is) c.loop-event.invariant.happened c.in_err-carry_out.ensures.err))

pub returns-in_err-carry_out-clause-places : goal.returns-in_err-carry_out-clause-places
returns-in_err-carry_out-clause-places g c = λ engines are new.
    let told = g.S.SheetSink.told in
    let events = c.args.events.now in
    let i = c.loop-event.event-index in
    let event = c.event-item.result in
    places-from-some c.new_presses_come_so.ensures c.args.press.now c.carry_out.new.press engines
    (map event_of events) (told c.args.sheets.now) (told c.carry_out.new.sheets) c.args.responses.now.items
    c.carry_out.new.responses.items c.args.turns.now.items c.carry_out.new.turns.items are new c.in_err-carry_out.field-0.0
    (HappenSome-behind c.in_err-carry_out.field-0.0 c.args.press.now c.loop-event.press c.carry_out.new.press
    (map event_of (take i events)) (event_of event ∷ []) (map event_of (drop (i + 1) events)) (map event_of events)
    (told c.args.sheets.now) (told c.loop-event.sheets) (told c.carry_out.new.sheets) c.args.responses.now.items
    c.loop-event.responses.items c.carry_out.new.responses.items c.args.turns.now.items c.loop-event.turns.items c.carry_out.new.turns.items
    (events-rest event_of events i event c.loop-event-test.true c.event-item.is) c.loop-event.invariant.happened c.in_err-carry_out.ensures.err)
