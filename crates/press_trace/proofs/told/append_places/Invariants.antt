use Rattle.std.proofs.Common.{◌≡◌, ◌++◌, drop, map}
use Rattle.serde_json.specs.Data.{array}
use Rattle.serde_json.specs.View.{items_of}
use Rattle.serde_json.specs.Written.{compact_text, items_text}
use Rattle.press_trace.specs.Told.{place_data}
use Rattle.press_trace.proofs.told.append_places.Given as goal

-- the places behind, and the bracket, are missing
abbrev pub invariant-loop-place : goal.invariant-loop-place
invariant-loop-place l =
    l.text.items ++ items_text l.later (items_of (map place_data (drop l.place-index l.places)))
    ≡ l.fn.text.items ++ compact_text (array (items_of (map place_data l.places)))
