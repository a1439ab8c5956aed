use Rattle.std.proofs.Common.{◌∙◌, ◌++◌, ◌∷◌, [], List, ℕ, ap}
use Rattle.press_asm.specs.Written.{written_line}
use Rattle.press_cmd.specs.View.{token}
use Rattle.press_engine.specs.Engine.{machine_of}
use Rattle.press_explain.specs.Remarks.{named, remark}
use Rattle.press_explain.proofs.CarryLemmas.{next_said}
use Rattle.press_explain.proofs.explainer.explain_next.Goals as goal

pub returns-clause-explains : goal.returns-clause-explains
returns-clause-explains c =
    next_said c.args.at c.args.scanner.now c.next.follows.lender-at-none (token c.in-Some.command) (machine_of c.args.engine.now) (machine_of c.carry_out.new.engine)
    c.in_ok-done.done c.view.result c.view-2.result c.append_named.new.text.items c.write_line.new.out.items c.args.text.now.items c.append_remark.new.text.items c.extend_from_slice.new.self.items
    (rw (c.in_ok-command.was, c.in-Some.is) at c.next.follows.holds-at-none)
    c.in_ok-done.ensures.carries
    c.view.ensures
    c.view-2.ensures.view
    c.view-2.ensures.stack
    (c.in_ok-append_named.ensures ∙ ap (λ (all : List ℕ). all ++ named (token c.in-Some.command)) c.new-name.ensures.items)
    (c.in_ok-write_line.ensures.ok ∙ ap (λ (all : List ℕ). all ++ (written_line (token c.in-Some.command) ++ 10 ∷ [])) c.new-line.ensures.items)
    (c.in_ok-append_remark.ensures
    ∙ (λ i. c.args.text.now.items ++ remark c.args.at (c.deref.ensures.value i) c.view.result c.view-2.result c.in_ok-done.done.change (c.bytes.ensures i)))
    (c.in_ok-extend_from_slice.ensures.items ∙ ap (λ (all : List ℕ). c.append_remark.new.text.items ++ all) c.deref-2.ensures.value)
