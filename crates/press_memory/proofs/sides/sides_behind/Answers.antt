use Rattle.std.proofs.Common.{◌∙◌, List, ℕ, Some, ap, refl, subst, sym}
use Rattle.press_memory.specs.Answers.{HandedTo}
use Rattle.press_memory.specs.Rooms.{outputs_with}
use Rattle.press_memory.specs.Written.{held_by_all}
use Rattle.press_memory.proofs.Edges.{first, last}
use Rattle.press_memory.proofs.sides.sides_behind.Goals as goal

pub returns-clause-sides : goal.returns-clause-sides
returns-clause-sides g c =
    let ended = c.print_files-status.new.devices.outputs in
    let handed =
    subst (λ (before : List ℕ). HandedTo (held_by_all (outputs_with ended.settled ended.last)) before c.into_parts-room.result.0.now c.into_parts-room.result.1)
    (sym c.requires.before) c.into_parts-room.ensures.handed in
    record {
      written = held_by_all (outputs_with ended.settled ended.last);
      has = record {
        status = c.print_files-status.result;
        before = first _ _ _ _;
        after = last _ _ _ _ _ _ _ _;
        made = outputs_with ended.settled ended.last;
        had = ap (λ device. Some device.now) c.new-reader.ensures.device;
        none = ap (λ outputs. Some (outputs_with outputs.settled outputs.last)) c.new-devices.ensures.outputs ∙ ap Some c.new-outputs.ensures;
        makes = refl;
        holds = refl;
        ends = c.fault_after-fault.ensures;
        prints = c.print_files-status.ensures.prints;
      };
      handed = record { bytes = handed.bytes; put = handed.put; room = handed.room };
    }
