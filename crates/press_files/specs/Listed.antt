-- The sheets of which the listing keeps what it tells.
use Rattle.std.specs.Prelude.{ℕ, List, [], ◌∷◌, Option, Some, None}
use Rattle.press_sink.specs.declared.delivery.Delivery.{Delivery}
use Rattle.press_files.specs.declared.held_replies.HeldReplies.{HeldReplies}
use Rattle.press_files.specs.declared.listed_sheet.ListedSheet.{ListedSheet}

-- a sheet as it was delivered
abbrev pub delivery_of : ListedSheet → Delivery
delivery_of one = record { tag = one.tag; sheet = one.sheet.value }

-- the last of the sheets that were delivered, if there is one
abbrev pub last_of : List Delivery → Option Delivery
last_of [] = None
last_of (one ∷ []) = Some one
last_of (one ∷ other ∷ more) = last_of (other ∷ more)

-- the bytes of the replies that are held
abbrev pub held : HeldReplies → List ℕ
held sink = sink.bytes.items
