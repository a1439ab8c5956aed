-- What the commands of the code stand for.
use Rattle.press_cmd.specs.Token.{Token, Escape, Control, Text, Uel, PjlLine, ForeignByte, param_of, broken_of}
use Rattle.press_cmd.specs.declared.payload.Param.{Param}
use Rattle.press_cmd.specs.declared.payload.Broken.{Broken}
use Rattle.press_cmd.specs.declared.command.Command.{Command}
use Rattle.press_cmd.specs.declared.command.Command.TheVariants as commands

-- a parameter as a value
abbrev pub param_token : Param → Token
param_token param = param_of param.character param.group param.field.now param.end param.payload.now

-- broken bytes as a value
abbrev pub broken_token : Broken → Token
broken_token broken = broken_of broken.sequence broken.bytes.now

-- a command as a value
abbrev pub token : Command → Token
token (commands.Escape escape) = Escape escape.byte
token (commands.Param param) = param_token param
token (commands.Control control) = Control control.byte
token (commands.Text text) = Text text.byte
token (commands.Broken broken) = broken_token broken
token commands.Uel = Uel
token (commands.PjlLine line) = PjlLine line.bytes.now
token (commands.Foreign byte) = ForeignByte byte
