use Rattle.std.proofs.Common.{Bool, subst}
use Rattle.press_disasm.specs.Disassembly.{ListsNext}
use Rattle.press_disasm.proofs.Listing.{one_listed}
use Rattle.press_disasm.proofs.disassembler.write_lines.Goals as goal

pub loop-preserved : goal.loop-preserved
loop-preserved c =
    let next =
    subst (λ (some : Bool). ListsNext c.loop.scanner c.loop.lines.items some c.write_next.new.scanner c.write_next.new.lines.items)
    c.if-branch.true c.in_ok-write_next.ensures in
    one_listed c.args.scanner.now c.args.lines.now.items c.loop.scanner c.loop.lines.items c.write_next.new.scanner c.write_next.new.lines.items
    c.loop.invariant next
