use Rattle.std.proofs.Common.{◌<◌, length, map, List, ℕ, Bor}
use Rattle.std.proofs.lemmas.List.{length-map}
use Rattle.press_words.proofs.WordsLemmas.{asked-matches, asked-err-kinds, asked-ok}
use Rattle.press_words.proofs.words.asked_of.Goals as goal

-- there is a word behind the program's name
more_words : (words : List (Bor (List ℕ))) → 1 < length words → 1 < length (map (λ word. word.now) words)
more_words words more = rw length-map more

pub returns-in_err-matches-clause-refused : goal.returns-in_err-matches-clause-refused
returns-in_err-matches-clause-refused c =
    asked-err-kinds _ c.from_residual.result c.in_err-matches.field-0.0 (more_words _ c.if-words-le1.false) c.in_err-matches.ensures.fault c.from_residual.ensures.1

pub returns-clause-ok : goal.returns-clause-ok
returns-clause-ok c =
    asked-ok _ c.in_ok-request.request c.in_ok-refusal.refusal _ c.ok_or.ensures.value
    (asked-matches _ _ _ (more_words _ c.if-words-le1.false) c.in_ok-matches.ensures.fault c.in_ok-matches.ensures.rows c.in_ok-request.ensures.ok)
