use Rattle.std.proofs.Common.{append-nil, sym, rules}
use Rattle.press_explain.specs.Remarks.{group_changed}
use Rattle.press_explain.proofs.DeedLemmas.{flat_all, flat_more}
use Rattle.press_explain.proofs.deeds.append_groups.Goals as goal

pub loop-group-init : goal.loop-group-init
loop-group-init c = sym (append-nil c.args.text.now.items)

pub loop-group-preserved : goal.loop-group-preserved
loop-group-preserved c =
    flat_more (group_changed c.args.was.now c.args.now.now) c.args.groups.now c.loop-group.group-index _ c.args.text.now.items c.loop-group.text.items
    c.append_group.new.text.items c.loop-group-test.true (search rules) c.loop-group.invariant c.in_ok-append_group.ensures

pub returns : goal.returns
returns c =
    flat_all (group_changed c.args.was.now c.args.now.now) c.args.groups.now c.loop-group.group-index c.args.text.now.items c.loop-group.text.items
    c.loop-group-test.false c.loop-group.invariant
