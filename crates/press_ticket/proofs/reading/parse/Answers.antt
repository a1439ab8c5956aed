use Rattle.std.proofs.Common.{refl, sym, ◌∙◌, true≢false}
use Rattle.press_ticket.proofs.JsonLemmas.{json_read, json_unread}
use Rattle.press_ticket.proofs.reading.parse.Goals as goal

pub returns-in-Ok-clause-ok : goal.returns-in-Ok-clause-ok
returns-in-Ok-clause-ok c = json_read c.args.bytes.now _ c.in-Ok.ensures.ok.0 c.in-Ok.ensures.ok.1

pub returns-else-is_memory-clause-err : goal.returns-else-is_memory-clause-err
returns-else-is_memory-clause-err c =
    λ _. (refl, json_unread c.args.bytes.now (λ utf8. c.in-Err.ensures.err (λ memory. true≢false (sym (c.is_memory.ensures.1 memory) ∙ c.if-is_memory.false)) utf8))
