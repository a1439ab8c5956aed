use Rattle.std.proofs.lemmas.Bool.{false≢true}
use Rattle.press_scan.proofs.BrokenLaws.{whole_ends, broken_ends}
use Rattle.press_scan.proofs.broken.is_sequence_prefix.Goals as goal

pub returns-in-Whole : goal.returns-in-Whole
returns-in-Whole c = (λ no. absurd (false≢true no), λ prefix. absurd (whole_ends c.args.bytes.now _ c.in-Whole.ensures prefix.1))

pub returns-in-Breaks : goal.returns-in-Breaks
returns-in-Breaks c = (λ no. absurd (false≢true no), λ prefix. absurd (broken_ends c.args.bytes.now _ c.in-Breaks.ensures.1 prefix.1))
