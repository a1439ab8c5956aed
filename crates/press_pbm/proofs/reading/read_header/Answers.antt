use Rattle.std.proofs.Common.{◌∷◌, ◌++◌, [], get_or, Some, sym, ap, ◌∙◌, arith, length-append}
use Rattle.press_pbm.proofs.HeaderLemmas.{no_header, too_long}
use Rattle.press_pbm.proofs.ReadingLemmas.{or_both, passed_on, one_more, no_header_read, stopped_in_header, run-more, read_header_of}
use Rattle.press_pbm.proofs.reading.read_header.Goals as goal

pub returns-in_err-fill-clause-err : goal.returns-in_err-fill-clause-err
returns-in_err-fill-clause-err g c =
    let (read, count, is, short, some, reads, stays, few) = c.loop-length.invariant in
    passed_on _ _ _ c.from_residual.ensures.1 (stopped_in_header _ _ _ _ read c.loop-length.place _ reads is short some c.fill.auto.buffer c.in_err-fill.ensures.err)

pub returns-in_default-clause-err : goal.returns-in_default-clause-err
returns-in_default-clause-err g c =
    let (read, count, is, short, some, reads, stays, few) = c.loop-length.invariant in
    no_header_read _ _ read (get_or c.fill.new.buffer 0 0) c.loop-length.place is short some (one_more _ _ _ read c.fill.new.buffer reads c.fill.auto.buffer c.in_ok-fill.ensures.ok)
    (no_header read (get_or c.fill.new.buffer 0 0) c.loop-length.place is (sym c.after.ensures ∙ c.in_default.is))

pub returns-in-End-clause-ok : goal.returns-in-End-clause-ok
returns-in-End-clause-ok g c =
    let (read, count, is, short, some, reads, stays, few) = c.loop-length.invariant in
    let next = run-more read (get_or c.fill.new.buffer 0 0) c.loop-length.place _ c.in-Some.next is (sym c.after.ensures) c.in-Some.is in
    let long = length-append read (get_or c.fill.new.buffer 0 0 ∷ []) in
    read_header_of _ _ (read ++ get_or c.fill.new.buffer 0 0 ∷ []) c.in-End.width c.in-End.height (next ∙ ap Some c.in-End.is)
    (omega (arith, long)) (one_more _ _ _ read c.fill.new.buffer reads c.fill.auto.buffer c.in_ok-fill.ensures.ok)

pub returns-then-length-least_behind-clause-err : goal.returns-then-length-least_behind-clause-err
returns-then-length-least_behind-clause-err g c =
    let (read, count, is, short, some, reads, stays, few) = c.loop-length.invariant in
    let next = run-more read (get_or c.fill.new.buffer 0 0) c.loop-length.place _ c.in-Some.next is (sym c.after.ensures) c.in-Some.is in
    let long = length-append read (get_or c.fill.new.buffer 0 0 ∷ []) in
    no_header_read _ _ read (get_or c.fill.new.buffer 0 0) c.loop-length.place is short some (one_more _ _ _ read c.fill.new.buffer reads c.fill.auto.buffer c.in_ok-fill.ensures.ok)
    (too_long (read ++ get_or c.fill.new.buffer 0 0 ∷ []) c.in-Some.next next (omega (arith, long)))

pub loop-length-preserved : goal.loop-length-preserved
loop-length-preserved g c =
    let (read, count, is, short, some, reads, stays, few) = c.loop-length.invariant in
    let next = run-more read (get_or c.fill.new.buffer 0 0) c.loop-length.place _ c.in-Some.next is (sym c.after.ensures) c.in-Some.is in
    let long = length-append read (get_or c.fill.new.buffer 0 0 ∷ []) in (
      read ++ get_or c.fill.new.buffer 0 0 ∷ [],
      omega (arith, long),
      next,
      omega (arith, long),
      grind (arith, c.in_default-next.not-End),
      one_more _ _ _ read c.fill.new.buffer reads c.fill.auto.buffer c.in_ok-fill.ensures.ok,
      λ was. c.fill.ensures.stays (stays was),
      or_both c.fill.ensures.stays few c.fill.ensures.few (λ before one. omega arith),
    )
