use Rattle.std.proofs.Common.{◌∙◌, sym}
use Rattle.press_main.proofs.ProgramLemmas.{holds-behind}
use Rattle.press_main.proofs.behind.debug_lent.Goals as goal

pub returns-clause-debugs : goal.returns-clause-debugs
returns-clause-debugs g c =
    let stream = c.new-stream.ensures in
    holds-behind c.args.prefix.now c.debug_lines-status.new.input.bytes.now _ _ _ (λ none. c.debug_lines-status.new.input.given (sym c.requires.front ∙ none))
    (rw (stream.bytes, stream.reader, ← c.into_reader.ensures.reader) at c.debug_lines-status.ensures.debugs)
