use Rattle.std.proofs.Common.{◌∙◌, sym}
use Rattle.press_main.proofs.ProgramLemmas.{holds-behind}
use Rattle.press_main.proofs.behind.page_behind.Goals as goal

pub returns-clause-pages : goal.returns-clause-pages
returns-clause-pages g c =
    let stream = c.new-stream.ensures in
    holds-behind c.args.prefix.now c.page_file-status.new.reader.bytes.now _ _ _ (λ none. c.page_file-status.new.reader.given (sym c.requires.front ∙ none))
    (rw (stream.bytes, stream.reader, ← c.into_reader.ensures.reader) at c.page_file-status.ensures.pages)
