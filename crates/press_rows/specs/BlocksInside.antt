-- Items of adaptive data as the code holds them.
use Rattle.std.specs.Prelude.{ℕ, List, Option, option_map}
use Rattle.std.specs.Borrow.{Bor}
use Rattle.press_rows.specs.declared.compression.Method.{Method}
use Rattle.press_rows.specs.Blocks.{Item}

-- an item whose data is lent
abbrev pub item_of : Option (Method × Bor (List ℕ)) → Item
item_of = option_map (λ row. (row.0, row.1.now))
