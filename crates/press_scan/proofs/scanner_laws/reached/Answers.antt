use Rattle.press_scan.proofs.ReachedLaws.{feeds_reach, end_reaches}
use Rattle.press_scan.proofs.scanner_laws.reached.Goals as goal

pub returns-clause-feeds : goal.returns-clause-feeds
returns-clause-feeds c = feeds_reach

pub returns-clause-ends : goal.returns-clause-ends
returns-clause-ends c = end_reaches
