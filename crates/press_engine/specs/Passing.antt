-- Commands of the stream that have no effect, passed over at once.
use Rattle.std.specs.Prelude.{◌≡◌, ◌∷◌, ◌++◌, ℕ, List, [], length}
use Rattle.std.specs.List.{AllByRecursion}
use Rattle.press_cmd.specs.Token.{Token}
use Rattle.press_cmd.specs.Kinds.{kind_of}
use Rattle.press_cmd.specs.declared.variant.Kind.{Kind}
use Rattle.press_table.specs.Counts.{counted}
use Rattle.press_table.specs.Passing.{HasNoEffect}
use Rattle.press_table.specs.Refusals.{skipped_by}
use Rattle.press_engine.specs.declared.machine.Last.TheVariants as lasts
use Rattle.press_engine.specs.declared.machine.Machine.{Machine}
use Rattle.press_engine.specs.Machine.{silent}
use Rattle.press_engine.specs.Fold.{run_all}

-- so many steps more, the last of which took a command of this kind, which was skipped
abbrev pub passed : (count : ℕ) → Kind → Machine → Machine
passed count kind machine = record machine { step = counted machine.step count; last = lasts.Refused kind (skipped_by machine.state) }

-- Commands that have no effect leave so many steps more, and the kind of the last; nothing goes out.
abbrev pub PassingIsCounted : Type 0
PassingIsCounted =
    (prefix : List Token) (last : Token) (machine : Machine) → AllByRecursion (HasNoEffect machine.state) (prefix ++ last ∷ [])
    → run_all (prefix ++ last ∷ []) machine ≡ silent (passed (length (prefix ++ last ∷ [])) (kind_of last) machine)
