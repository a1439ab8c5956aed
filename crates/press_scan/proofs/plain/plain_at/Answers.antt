use Rattle.std.proofs.Common.{◌∷◌, refl, arith}
use Rattle.press_cmd.specs.ParserState.{Pcl}
use Rattle.press_scan.proofs.PlainLaws.{found_next}
use Rattle.press_scan.proofs.ScannerLaws.{found_passes}
use Rattle.press_scan.proofs.plain.plain_at.Goals as goal

pub returns-in-Pcl-clause-next : goal.returns-in-Pcl-clause-next
returns-in-Pcl-clause-next c = λ ended.
    let rest = c.in_ok-first.field-0-1.now in
    rw (c.in-Pcl.is, c.in_ok-first.ensures.cases.0)
    (found_passes Pcl Pcl (c.in_ok-first.first.now ∷ rest) ended c.control_found.result refl (c.control_found.ensures rest))

pub returns-in-Pcl-2-clause-next : goal.returns-in-Pcl-2-clause-next
returns-in-Pcl-2-clause-next c = grind (arith, found_next)

pub returns-in-Open-clause-next : goal.returns-in-Open-clause-next
returns-in-Open-clause-next c = grind (arith, found_next)
