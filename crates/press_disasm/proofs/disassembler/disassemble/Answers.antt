use Rattle.std.proofs.Common.{ℕ, List, sym, ap, subst}
use Rattle.press_disasm.specs.Disassembly.{IsDisassembly}
use Rattle.press_disasm.proofs.Listing.{listed_utf8, disassembled}
use Rattle.press_disasm.proofs.disassembler.disassemble.Goals as goal

pub returns : goal.returns
returns c =
    subst (λ (text : List ℕ). IsDisassembly c.args.bytes.now text) (sym (ap (λ v. v.items) c.in-Ok.ensures.ok))
    (disassembled c.args.bytes.now c.in_ok-lines.lines.items c.in_ok-lines.ensures)

pub unreachable-requires : goal.unreachable-requires
unreachable-requires c =
    let wrong = c.in-Err.ensures.succeeds (listed_utf8 c.args.bytes.now c.in_ok-lines.lines.items c.in_ok-lines.ensures) in cc wrong
