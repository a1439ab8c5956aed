use Rattle.std.proofs.Common.{arith, not}
use Rattle.press_sink.proofs.SideNameLemmas.{tells-written, refuses-written}
use Rattle.press_sink.proofs.template.is_written.Goals as goal

pub returns-then-first-ne48 : goal.returns-then-first-ne48
returns-then-first-ne48 c =
    let (some, item) = c.in-Some.ensures.item.3 in
    tells-written c.args.text.now c.as_bytes-digits.result.now c.in-Some.first.now c.are_digits.result c.as_bytes-digits.ensures.value
    some (item 0) c.if-first-ne48.true c.are_digits.ensures

pub returns-else-first-ne48 : goal.returns-else-first-ne48
returns-else-first-ne48 c = grind (arith, refuses-written, not)

pub returns-in-None : goal.returns-in-None
returns-in-None c = grind (arith, refuses-written)
