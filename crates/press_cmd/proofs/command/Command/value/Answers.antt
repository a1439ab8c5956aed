use Rattle.std.proofs.Common.{refl, []}
use Rattle.press_units.proofs.FieldTest.{IsField-from_test}
use Rattle.press_cmd.proofs.command.Command.value.Goals as goal

pub read_value-requires : goal.read_value-requires
read_value-requires c = IsField-from_test [] refl
