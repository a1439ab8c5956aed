-- A lemma for each row; the commands to one entry have one.
use Rattle.std.proofs.Common.{true, false}
use Rattle.press_queue.specs.declared.command.EntryCommand.TheVariants as commands
use Rattle.press_queue.proofs.RowLemmas as lemmas
use Rattle.press_queue.proofs.queue_law.each_row_keeps_the_queue.Goals as goal

pub returns : goal.returns
returns c = record {
  new = lemmas.empty_queue-is;
  submit = lemmas.submit-keeps;
  command = lemmas.commanded-keeps;
  hold = lemmas.commanded-keeps commands.Hold;
  resume = lemmas.commanded-keeps commands.Resume;
  suspend = lemmas.commanded-keeps commands.Suspend;
  abort = lemmas.commanded-keeps commands.Abort;
  remove = lemmas.commanded-keeps commands.Remove;
  set_priority = λ number priority. lemmas.commanded-keeps (commands.SetPriority priority) number;
  set_position = λ number position. lemmas.commanded-keeps (commands.SetPosition position) number;
  hold_queue = λ queue. lemmas.flags-keep true queue.closed queue;
  resume_queue = λ queue. lemmas.flags-keep false queue.closed queue;
  open_queue = λ queue. lemmas.flags-keep queue.held false queue;
  close_queue = λ queue. lemmas.flags-keep queue.held true queue;
  flush = lemmas.flush-keeps;
  begin = lemmas.begin-keeps;
  finish = lemmas.finish_entry-keeps;
}
