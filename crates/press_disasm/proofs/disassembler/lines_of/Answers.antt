use Rattle.std.proofs.Common.{List, ℕ, subst}
use Rattle.press_disasm.specs.Disassembly.{ListsAll}
use Rattle.press_disasm.proofs.Listing.{all_listed}
use Rattle.press_disasm.proofs.disassembler.lines_of.Goals as goal

pub returns : goal.returns
returns c =
    let lists =
    subst (λ (before : List ℕ). ListsAll c.end_input.new.self before c.write_lines.new.scanner c.write_lines.new.lines.items)
    c.new-lines.ensures.items c.in_ok-write_lines.ensures in
    all_listed c.args.bytes.now c.write_lines.new.lines.items c.new-scanner.result c.feed.new.self c.end_input.new.self c.write_lines.new.scanner
    c.new-scanner.ensures.mode c.new-scanner.ensures.bytes c.in_ok-feed.ensures.mode c.in_ok-feed.ensures.ok c.end_input.ensures lists
