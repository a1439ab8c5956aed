use Rattle.std.proofs.Common.{rules, sym}
use Rattle.press_trace.proofs.SpelledLemmas.{spelled_plain}
use Rattle.press_trace.proofs.spelled.spelled.Goals as goal

pub returns-then-are_plain : goal.returns-then-are_plain
returns-then-are_plain c = sym (spelled_plain c.args.text.items (search rules))
