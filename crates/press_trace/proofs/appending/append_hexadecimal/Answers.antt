use Rattle.std.proofs.Common.{rules, ◌≤◌, ◌<◌, length}
use Rattle.press_trace.proofs.TextLemmas.{digits_more, digits_all}
use Rattle.press_trace.proofs.appending.append_hexadecimal.Goals as goal

pub loop-byte-preserved : goal.loop-byte-preserved
loop-byte-preserved c =
    let within : c.loop-byte.byte-index < length c.args.bytes.now = search rules in
    digits_more c.args.bytes.now c.loop-byte.text.items _ _ c.loop-byte.byte-index within c.in_ok-append_digits.ensures c.loop-byte.invariant

pub returns : goal.returns
returns c =
    let end : length c.args.bytes.now ≤ c.loop-byte.byte-index = search rules in
    digits_all c.args.bytes.now c.args.text.now.items c.loop-byte.text.items _ c.loop-byte.byte-index end (λ i. search (rules, c.type_inv.bytes i)) c.loop-byte.invariant
    c.in_ok-push-2.ensures.items
