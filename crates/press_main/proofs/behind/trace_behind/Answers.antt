use Rattle.std.proofs.Common.{◌∙◌, sym}
use Rattle.press_main.proofs.ProgramLemmas.{holds-behind}
use Rattle.press_main.proofs.behind.trace_behind.Goals as goal

pub returns-clause-traces : goal.returns-clause-traces
returns-clause-traces g c =
    let stream = c.new-stream.ensures in
    holds-behind c.args.prefix.now c.tell_by-status.new.reader.bytes.now _ _ _ (λ none. c.tell_by-status.new.reader.given (sym c.requires.front ∙ none))
    (rw (stream.bytes, stream.reader, ← c.into_reader.ensures.reader) at c.tell_by-status.ensures.traces)
