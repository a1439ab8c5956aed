-- Commands that do no more than change the machine.
use Rattle.std.specs.Prelude.{◌≡◌, ℕ, Bool, true, false, Option, Some}
use Rattle.press_cmd.specs.Token.{Token}
use Rattle.press_engine.specs.declared.machine.Machine.{Machine}
use Rattle.press_engine.specs.Begun.{begins, begun_only}
use Rattle.press_engine.specs.Machine.{silent}

-- A command is one step, in which nothing goes out and no body starts, wherever it comes from.
abbrev pub OnlyChanges : Token → (old new : Machine) → Type 0
OnlyChanges command old new =
    (in_overlay : Bool) (macro_levels : ℕ) → begins in_overlay macro_levels command old ≡ begun_only (silent new)

-- It was taken; or it is another, and nothing changed.
abbrev pub ChangesOrStays : (changes : Bool) → Token → (old new : Machine) → Type 0
ChangesOrStays true command old new = OnlyChanges command old new
ChangesOrStays false command old new = new ≡ old

-- the same of an engine, which has not failed
pub record Changed (changes : Bool) (command : Token) (old new : Option Machine) : Type 0 where
  pub before : Machine
  pub after : Machine
  pub was : old ≡ Some before
  pub is : new ≡ Some after
  pub does : ChangesOrStays changes command before after
