use Rattle.std.proofs.Common.{rules}
use Rattle.indexmap.proofs.CallerLemmas.{filter-RetainsPairs}
use Rattle.press_queue.specs.Status.{is_running}
use Rattle.press_queue.proofs.entries.keep_running.Goals as goal

pub returns : goal.returns
returns c = filter-RetainsPairs _ (λ e. is_running e.1.status) _ (λ k v b w g call. search rules) _ _ c.retain.ensures.filtered
