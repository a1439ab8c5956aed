use Rattle.std.specs.Prelude.{codes}
use Rattle.press_explain.specs.Remarks.{digits}
use Rattle.press_explain.proofs.CarryLemmas.{ok_so}
use Rattle.press_explain.proofs.DeedLemmas.{four_said}
use Rattle.press_explain.proofs.deeds.append_extent.Goals as goal

pub returns : goal.returns
returns c =
    ok_so c.append_number-2.result
    (λ said. four_said c.args.text.now.items c.extend_from_slice.new.self.items c.append_number.new.text.items c.extend_from_slice-2.new.self.items c.append_number-2.new.text.items
    (codes "; marks within ") (digits c.args.width) (codes " by ") (digits c.args.height)
    c.in_ok-extend_from_slice.ensures.items c.in_ok-append_number.ensures c.in_ok-extend_from_slice-2.ensures.items said)
    c.append_number-2.ensures
