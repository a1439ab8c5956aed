use Rattle.std.proofs.Common.{append-nil, sym, rules}
use Rattle.press_explain.specs.Remarks.{field_changed}
use Rattle.press_explain.proofs.DeedLemmas.{flat_all, flat_more}
use Rattle.press_explain.proofs.deeds.append_those.Goals as goal

pub loop-field-init : goal.loop-field-init
loop-field-init c = sym (append-nil c.args.text.now.items)

pub loop-field-preserved : goal.loop-field-preserved
loop-field-preserved c =
    flat_more (field_changed c.args.was.now c.args.now.now c.args.group) c.args.fields.now c.loop-field.field-index _ c.args.text.now.items c.loop-field.text.items
    c.append_field.new.text.items c.loop-field-test.true (search rules) c.loop-field.invariant c.in_ok-append_field.ensures

pub returns : goal.returns
returns c =
    flat_all (field_changed c.args.was.now c.args.now.now c.args.group) c.args.fields.now c.loop-field.field-index c.args.text.now.items c.loop-field.text.items
    c.loop-field-test.false c.loop-field.invariant
