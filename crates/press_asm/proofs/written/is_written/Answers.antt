use Rattle.press_cmd.proofs.LineTest.{IsPjlLine-known}
use Rattle.press_asm.proofs.LineStands.{written_along, escape_written, control_written, text_written, uel_written, foreign_written, line_written, param_is_written}
use Rattle.press_asm.proofs.written.is_written.Goals as goal

pub returns-in-Escape : goal.returns-in-Escape
returns-in-Escape c = written_along c.args.command.now _ c.in-Escape.is (escape_written c.in-Escape.escape.byte c.in-Escape.escape.class)

pub returns-in-Control : goal.returns-in-Control
returns-in-Control c = written_along c.args.command.now _ c.in-Control.is (control_written c.in-Control.control.byte c.in-Control.control.class)

pub returns-in-Text : goal.returns-in-Text
returns-in-Text c = written_along c.args.command.now _ c.in-Text.is (text_written c.in-Text.text.byte c.in-Text.text.class)

pub returns-in-Uel : goal.returns-in-Uel
returns-in-Uel c = written_along c.args.command.now _ c.in-Uel.is uel_written

pub returns-in-Param : goal.returns-in-Param
returns-in-Param c = written_along c.args.command.now _ c.in-Param.is (param_is_written c.in-Param.param c.data.result.now c.data.ensures c.are_bytes.ensures)

pub returns-in-PjlLine : goal.returns-in-PjlLine
returns-in-PjlLine c =
    written_along c.args.command.now _ c.in-PjlLine.is
    (line_written c.in-PjlLine.line.bytes.now (IsPjlLine-known c.in-PjlLine.line.bytes.now c.in-PjlLine.line.line) c.are_bytes-in-PjlLine.ensures)

pub returns-in-Foreign : goal.returns-in-Foreign
returns-in-Foreign c = written_along c.args.command.now _ c.in-Foreign.is (foreign_written c.in-Foreign.byte (c.are_bytes-in-Foreign.ensures 0))
