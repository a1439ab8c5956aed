use Rattle.clap.specs.Words.{found_of, rows_of}
use Rattle.press_words.proofs.WordsLemmas.{subcommand_rows-is}
use Rattle.press_words.proofs.words.request_in.Goals as goal

pub returns-in_ok-named_request-in-Some-clause-ok : goal.returns-in_ok-named_request-in-Some-clause-ok
returns-in_ok-named_request-in-Some-clause-ok c =
    rw (subcommand_rows-is c.args.matches.now c.in-Some.name.now (rows_of (found_of c.in-Some.values.now)) c.in-Some.ensures.name c.in-Some.ensures.rows)
    c.in_ok-named_request-in-Some.ensures
