use Rattle.press_units.proofs.FieldTest.{IsField-from_test}
use Rattle.press_cmd.proofs.carried.data_count.Goals as goal

pub read_value-requires : goal.read_value-requires
read_value-requires c = IsField-from_test _ c.requires
