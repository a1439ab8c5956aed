use Rattle.std.proofs.Common.{◌∙◌, sym}
use Rattle.press_sessions.proofs.WordLemmas.{has-empty}
use Rattle.press_sessions.proofs.event_lines.has_empty.Goals as goal

pub returns-then-is_empty : goal.returns-then-is_empty
returns-then-is_empty c = has-empty c.args.words.now c.loop-word.word-index _ c.loop-word-test.true (sym c.is_empty.ensures ∙ c.if-is_empty.true)
