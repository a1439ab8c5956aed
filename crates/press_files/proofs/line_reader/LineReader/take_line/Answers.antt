use Rattle.std.proofs.Common.{◌∙◌, ◌+◌, sym, arith}
use Rattle.std.proofs.lemmas.List.{drop-drop}
use Rattle.press_files.specs.LineReading.{held}
use Rattle.press_files.proofs.LineLemmas.{takes-line, takes-all, drop-whole}
use Rattle.press_files.proofs.line_reader.LineReader.take_line.Goals as goal

pub returns-in_ok-extend_from_slice-in-Some-clause-line : goal.returns-in_ok-extend_from_slice-in-Some-clause-line
returns-in_ok-extend_from_slice-in-Some-clause-line c =
    let old = c.args.self.now in
    takes-line (held old) c.ahead-ahead.result.now c.args.line.now.items _ _ c.in-Some.place c.ahead-ahead.ensures (sym c.feed_place.ensures ∙ c.in-Some.is)
    c.in_ok-extend_from_slice-in-Some.ensures.items (sym (drop-drop (c.in-Some.place + 1) old.given old.piece.items))

pub returns-in_ok-extend_from_slice-in-None-clause-line : goal.returns-in_ok-extend_from_slice-in-None-clause-line
returns-in_ok-extend_from_slice-in-None-clause-line c =
    let old = c.args.self.now in
    takes-all (held old) c.ahead-ahead.result.now c.args.line.now.items _ _ c.ahead-ahead.ensures (sym c.feed_place.ensures ∙ c.in-None.is)
    c.in_ok-extend_from_slice-in-None.ensures.items (drop-whole old.piece.items c.len-self.result (omega (arith, c.len-self.ensures, old.piece.ok.0, old.piece.ok.1)))
