-- A writer of a job as contracts see it. No public clause cites this.
use Rattle.std.specs.Prelude.{◌≡◌, ◌≤◌, ◌<◌, ℕ, ◌+◌, List, [], ◌++◌, Option, Some, None, drop, length}
use Rattle.press_bits.specs.Page.{Page}
use Rattle.press_cmd.specs.Token.{Token}
use Rattle.press_writer.specs.declared.job_writer.JobWriter.TheInside.{Inside}
use Rattle.press_writer.specs.declared.part.PageLeft.{PageLeft}
use Rattle.press_writer.specs.Left.{JobLeft, rest_of_page}
use Rattle.press_writer.specs.Plan.{IsSmall, plan_parts}
use Rattle.press_writer.specs.Sequences.{written}

abbrev pub left_of : Inside → JobLeft
left_of writer = record { medium = writer.medium; begun = writer.begun; parts = drop writer.place (plan_parts writer.plan) }

pub record IsSound (writer : Inside) : Type 0 where
  pub small : IsSmall writer.plan
  pub within : writer.place ≤ length (plan_parts writer.plan)

-- what is left of a page with this image, if it is begun
abbrev pub rest_in : (image : Page) → Option PageLeft → List Token
rest_in image None = []
rest_in image (Some left) = rest_of_page image left

-- Of these commands the first were appended, at most so many and some byte at least, and the others are left.
pub record AppendsSome (most : ℕ) (commands others : List Token) (before after : List ℕ) : Type 0 where
  pub next : after ++ written others ≡ before ++ written commands
  pub some : length before < length after
  pub few : length commands ≤ length others + most
