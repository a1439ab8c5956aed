use Rattle.std.proofs.Common.{◌∙◌, Some, ap}
use Rattle.press_memory.specs.Faults.{fault_of}
use Rattle.press_memory.proofs.WrittenLemmas.{text-refused}
use Rattle.press_memory.proofs.texts.stream.Goals as goal

pub returns-in-Err : goal.returns-in-Err
returns-in-Err c =
    text-refused c.args.text.now c.nothing.result.bytes.items _ _ c.in-Err.error c.nothing.result.fault
    (ap (λ device. Some device.now) c.new-reader.ensures.device)
    (c.nothing.ensures.fault ∙ c.fault_of.ensures ∙ ap fault_of c.text_number.ensures) c.nothing.ensures.bytes c.in-Err.ensures.err
