use Rattle.std.proofs.Common.{◌∙◌, ◌++◌, ◌∷◌, [], append-nil, slice_index_or, sym, ap, rules}
use Rattle.press_explain.specs.Remarks.{shown_byte}
use Rattle.press_explain.proofs.DeedLemmas.{map_all, map_more}
use Rattle.press_explain.proofs.saying.append_each.Goals as goal

pub loop-byte-init : goal.loop-byte-init
loop-byte-init c = sym (append-nil c.args.text.now.items)

pub loop-byte-preserved : goal.loop-byte-preserved
loop-byte-preserved c =
    map_more shown_byte c.args.bytes.now c.loop-byte.byte-index (slice_index_or c.args.bytes.now c.loop-byte.byte-index 0) c.args.text.now.items c.loop-byte.text.items c.push.new.self.items c.loop-byte-test.true (search rules)
    c.loop-byte.invariant (c.in_ok-push.ensures.items ∙ ap (λ byte. c.loop-byte.text.items ++ byte ∷ []) c.shown_byte.ensures)

pub returns : goal.returns
returns c = map_all shown_byte c.args.bytes.now c.loop-byte.byte-index c.args.text.now.items c.loop-byte.text.items c.loop-byte-test.false c.loop-byte.invariant
