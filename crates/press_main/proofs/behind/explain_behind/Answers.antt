use Rattle.std.proofs.Common.{◌∙◌, sym}
use Rattle.press_main.proofs.ProgramLemmas.{holds-behind}
use Rattle.press_main.proofs.behind.explain_behind.Goals as goal

pub returns-clause-explains : goal.returns-clause-explains
returns-clause-explains g c =
    let stream = c.new-stream.ensures in
    holds-behind c.args.prefix.now c.explain_bytes-status.new.reader.bytes.now _ _ _ (λ none. c.explain_bytes-status.new.reader.given (sym c.requires.front ∙ none))
    (rw (stream.bytes, stream.reader, ← c.into_reader.ensures.reader) at c.explain_bytes-status.ensures.explains)
