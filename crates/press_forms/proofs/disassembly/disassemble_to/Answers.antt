use Rattle.press_units.proofs.ExitLemmas.{exit-is}
use Rattle.press_forms.proofs.DisassemblyLemmas.{end_listed, end_stopped, flushed, not_flushed, on_ok}
use Rattle.press_forms.proofs.disassembly.disassemble_to.Goals as goal

pub returns-in_err-list_commands-clause-err : goal.returns-in_err-list_commands-clause-err
returns-in_err-list_commands-clause-err g c =
    let lists = c.in_ok-scanner.ensures.ok in
    rw (exit-is c.from_residual-in_err-list_commands.ensures.1)
    (end_stopped _ _ _ _ c.in_ok-scanner.scanner lists.0 lists.1 c.end_input.new.self c.end_input.ensures _ _ c.in_err-list_commands.ensures.err)

pub returns-clause-err : goal.returns-clause-err
returns-clause-err g c =
    let lists = c.in_ok-scanner.ensures.ok in
    not_flushed c.flush_text.result _ _ _ _ _ c.flush_text.ensures.err
    (end_listed _ _ _ _ c.in_ok-scanner.scanner lists.0 lists.1 c.end_input.new.self c.end_input.ensures c.list_commands.new.scanner _ c.in_ok-list_commands.ensures.ok)
    c.flush_text.ensures.text

pub returns-clause-ok : goal.returns-clause-ok
returns-clause-ok g c =
    let lists = c.in_ok-scanner.ensures.ok in
    on_ok c.flush_text.result _
    (flushed _ _ _ _ _
    (end_listed _ _ _ _ c.in_ok-scanner.scanner lists.0 lists.1 c.end_input.new.self c.end_input.ensures c.list_commands.new.scanner _ c.in_ok-list_commands.ensures.ok)
    c.flush_text.ensures.text)
