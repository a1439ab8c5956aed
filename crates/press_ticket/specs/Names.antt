-- The names of media and sides in a ticket (CIP4 JDF 1.5; which of them this profile takes).
use Rattle.std.specs.Prelude.{ℕ, List, codes, bytes_eq, if◌then◌else◌, Option, Some, None}
use Rattle.press_ticket.specs.declared.media.Media.{Media}
use Rattle.press_ticket.specs.declared.media.Media.TheVariants.{Letter, Legal, A4, Executive, Ledger, A3}
use Rattle.press_ticket.specs.declared.media.Sides.{Sides}
use Rattle.press_ticket.specs.declared.media.Sides.TheVariants.{OneSidedFront, TwoSidedHeadToHead, TwoSidedHeadToFoot}

abbrev pub media_named : List ℕ → Option Media
media_named name =
    if bytes_eq name (codes "Letter") then Some Letter
    else (if bytes_eq name (codes "Legal") then Some Legal
    else (if bytes_eq name (codes "A4") then Some A4
    else (if bytes_eq name (codes "Executive") then Some Executive
    else (if bytes_eq name (codes "Ledger") then Some Ledger
    else (if bytes_eq name (codes "A3") then Some A3 else None)))))

abbrev pub sides_named : List ℕ → Option Sides
sides_named name =
    if bytes_eq name (codes "OneSidedFront") then Some OneSidedFront
    else (if bytes_eq name (codes "TwoSidedHeadToHead") then Some TwoSidedHeadToHead
    else (if bytes_eq name (codes "TwoSidedHeadToFoot") then Some TwoSidedHeadToFoot else None))
