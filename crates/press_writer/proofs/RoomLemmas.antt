-- No side of a logical page has more dots than 10,200.
use Rattle.std.proofs.Common.{ℕ, ◌-◌, ◌*◌, ◌≤◌, arith}
use Rattle.press_page.specs.PageSetup.{frame}
use Rattle.press_page.specs.declared.media.PageSetup.{PageSetup}
use Rattle.press_ticket.specs.Ticket.{JobTicket}
use Rattle.press_writer.specs.Medium.{medium, room, left_offset}

-- a page at a resolution, and its frame
frame_width : (page_setup : PageSetup) → (frame page_setup).width ≤ 10200
frame_width page_setup = grind arith

frame_height : (page_setup : PageSetup) → (frame page_setup).height ≤ 10200
frame_height page_setup = grind arith

minus_small : (m n k : ℕ) → m ≤ k → m - n ≤ k
minus_small m n k small = omega arith

pub room_width : (ticket : JobTicket) → (room ticket).width ≤ 10200
room_width ticket = minus_small (frame (medium ticket)).width (2 * left_offset ticket) 10200 (frame_width (medium ticket))

pub room_height : (ticket : JobTicket) → (room ticket).height ≤ 10200
room_height ticket = frame_height (medium ticket)
