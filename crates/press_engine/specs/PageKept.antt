-- The laws of the commands that keep the open page, and of those that keep lines of it.
use Rattle.std.specs.Prelude.{◌≡◌, true, false, List, [], ◌∷◌}
use Rattle.press_cmd.specs.Token.{Token}
use Rattle.press_cmd.specs.Kinds.{kind_of}
use Rattle.press_table.specs.declared.effect.Source.TheVariants.{Stream}
use Rattle.press_table.specs.PageKept.{KeepsOtherLines, kind_may_change_page, kind_transfers_rows}
use Rattle.press_engine.specs.declared.machine.Last.{Last}
use Rattle.press_engine.specs.declared.machine.Machine.{Machine}
use Rattle.press_engine.specs.Machine.{StepResult, last_of, macro_levels}
use Rattle.press_engine.specs.Trace.{trace_at}

-- the command that the first of the items took, whether it was carried out or recorded
abbrev pub TakesFirst : Last → List StepResult → Type 0
TakesFirst last [] = ⊥
TakesFirst last (item ∷ items) = item.machine.last ≡ last

-- The first item of a command of the stream took that command. Where it is of a kind that changes no page, that is its only item,
-- and the open page is the one before.
pub record OthersKeepThePage : Type 0 where
  pub takes : (command : Token) (machine : Machine)
      → TakesFirst (last_of Stream command machine.state) (trace_at macro_levels command machine)
  pub keeps : (command : Token) (machine : Machine) → kind_may_change_page (kind_of command) ≡ false
      → (item : StepResult) × (trace_at macro_levels command machine ≡ item ∷ []) × (item.machine.state.page ≡ machine.state.page)

-- Where the first item of a command of the stream transfers rows, that is its only item, and the lines of the frame beside those of the
-- cursor are the ones before.
pub record RowsKeepOtherLines : Type 0 where
  pub keeps : (command : Token) (machine : Machine) → kind_transfers_rows (kind_of command) ≡ true
      → (item : StepResult) × (trace_at macro_levels command machine ≡ item ∷ []) × KeepsOtherLines machine.state item.machine.state
