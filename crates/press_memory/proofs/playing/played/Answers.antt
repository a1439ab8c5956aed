use Rattle.std.proofs.Common.{◌∙◌, Some, ap, sym, inl}
use Rattle.press_devices.specs.Watching.{device_of}
use Rattle.press_sink.specs.Kept.{kept_outputs}
use Rattle.press_memory.proofs.Edges.{first, last}
use Rattle.press_memory.proofs.playing.played.Goals as goal

pub returns : goal.returns
returns c =
    let devices = c.new-devices.ensures in
    inl (record {
      status = c.press_lines-status.result;
      before = first _ _ _ _;
      after = last _ _ _ _ _ _ _ _;
      had = ap (λ device. Some device.now) c.new-reader.ensures.device;
      empty = ap (λ device. Some device.items) (ap device_of devices.out ∙ c.new-out.ensures.device) ∙ ap Some c.new.ensures.items;
      none = ap (λ outputs. Some (kept_outputs outputs)) devices.outputs ∙ ap Some c.new-outputs.ensures;
      wrote = ap (λ device. Some device.items) (sym c.into_inner.ensures);
      tells = c.fault.ensures;
      plays = c.press_lines-status.ensures.ended;
    })
