use Rattle.press_debug.proofs.PlaceLaws.{places_go_on}
use Rattle.press_debug.proofs.place_laws.places.Goals as goal

pub returns : goal.returns
returns c = places_go_on
