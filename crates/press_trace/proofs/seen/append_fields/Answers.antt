use Rattle.std.proofs.Common.{◌∙◌, sym, ap}
use Rattle.press_trace.specs.Texts.{text_of}
use Rattle.press_trace.proofs.SeenLemmas.{field_ascii}
use Rattle.press_trace.proofs.seen.append_fields.Goals as goal

pub append_key-requires : goal.append_key-requires
append_key-requires c = ap text_of c.key.ensures ∙ field_ascii _ ∙ sym c.key.ensures
