use Rattle.std.proofs.Common.{◌≡◌}
use Rattle.serde_json.specs.View.{members_view}
use Rattle.press_core.specs.Response.{with_additions}
use Rattle.press_core.specs.Shown.{additions_of}
use Rattle.press_core.proofs.response.add.Given as goal

-- what the others add makes of the members what all make of them
abbrev pub invariant-loop-key : goal.invariant-loop-key
invariant-loop-key l =
    with_additions (additions_of l.key-iterator.rest.items) (members_view l.members.entries) ≡ with_additions (additions_of l.fn.additions.items) (members_view l.fn.members.entries)
