use Rattle.std.proofs.Common.{◌∙◌, ◌++◌, List, ℕ, ap}
use Rattle.press_engine.specs.Engine.{machine_of}
use Rattle.press_explain.specs.Explained.{exit_remark}
use Rattle.press_explain.proofs.CarryLemmas.{exit_said, ok_so}
use Rattle.press_explain.proofs.explainer.explain_exit.Goals as goal

pub returns : goal.returns
returns c = record {
  explains = ok_so c.append_line.result
      (λ said. exit_said c.args.at (machine_of c.args.engine.now) (machine_of c.carry_out.new.engine) c.in_ok-done.done c.view.result c.view-2.result
      c.args.text.now.items c.append_line.new.text.items c.in_ok-done.ensures.carries c.view.ensures c.view-2.ensures.view c.view-2.ensures.stack
      (said ∙ ap (λ (replies : List ℕ). c.args.text.now.items ++ exit_remark c.args.at c.view.result c.view-2.result c.in_ok-done.done.change replies) c.bytes.ensures))
      c.append_line.ensures;
}
