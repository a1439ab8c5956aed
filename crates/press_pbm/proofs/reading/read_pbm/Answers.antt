use Rattle.press_bits.proofs.PageLemmas.{height-blank}
use Rattle.press_bits.proofs.PageLemmas.{width-blank}
use Rattle.std.proofs.Common.{arith}
use Rattle.press_pbm.proofs.FileLemmas.{made, file_read, rows_stopped, never_most}
use Rattle.press_pbm.proofs.ReadingLemmas.{passed_on}
use Rattle.press_pbm.proofs.reading.read_pbm.Goals as goal

pub read_rows-requires : goal.read_rows-requires
read_rows-requires g c = grind (arith, width-blank, height-blank, c.in_ok-page.ensures.white)

pub returns-in_err-read_rows-clause-refused : goal.returns-in_err-read_rows-clause-refused
returns-in_err-read_rows-clause-refused g c =
    let size = made c.in_ok-width.width c.in_ok-width.height c.in_ok-page.page c.blank.result c.in_ok-page.was c.blank.ensures.bad_size.1 in
    passed_on _ _ _ c.from_residual-in_err-read_rows.ensures.1
    (rows_stopped _ c.in_ok-width.width c.in_ok-width.height _ _ _ c.in_ok-page.page c.in_ok-width.ensures.ok size
    c.in_ok-page.ensures.white c.in_err-read_rows.ensures.err)

pub returns-clause-page : goal.returns-clause-page
returns-clause-page g c =
    let size = made c.in_ok-width.width c.in_ok-width.height c.in_ok-page.page c.blank.result c.in_ok-page.was c.blank.ensures.bad_size.1 in
    let (rows, long, reads, shown) = c.in_ok-read_rows.ensures.ok in
    file_read c.in_ok-width.width c.in_ok-width.height _ _ _ c.in_ok-page.page _ rows c.in_ok-width.ensures.ok size c.in_ok-page.ensures.white long reads shown

pub returns-in_err-page-clause-refused : goal.returns-in_err-page-clause-refused
returns-in_err-page-clause-refused g c =
    passed_on _ _ _ c.from_residual-in_err-page.ensures.1
    (grind (arith, c.in_ok-width.ensures.ok, c.in_err-page.was, c.blank.ensures.bad_size.0))

pub returns-in_err-read_rows-clause-cause : goal.returns-in_err-read_rows-clause-cause
returns-in_err-read_rows-clause-cause g c =
    let size = made c.in_ok-width.width c.in_ok-width.height c.in_ok-page.page c.blank.result c.in_ok-page.was c.blank.ensures.bad_size.1 in
    passed_on _ _ _ c.from_residual-in_err-read_rows.ensures.1
    (λ fault.
    never_most c.in_ok-width.width c.in_ok-width.height c.in_ok-page.page c.none-count.result c.read_header.new.count
    c.none-count.ensures size c.in_ok-page.ensures.white c.read_rows.ensures.stays c.read_header.ensures.few (c.in_err-read_rows.ensures.cause fault))
