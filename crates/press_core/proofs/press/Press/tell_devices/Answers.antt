use Rattle.press_core.proofs.FloatLemmas.{devices_added_no_float, same_no_float}
use Rattle.press_core.proofs.press.Press.tell_devices.Goals as goal

pub accepted-requires : goal.accepted-requires
accepted-requires c = same_no_float _ _ c.in_ok-additions.ensures (devices_added_no_float c.args.self.now)
