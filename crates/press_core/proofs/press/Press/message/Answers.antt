-- A message of a type happens as it was answered.
use Rattle.std.proofs.Common.{sym, ap, ◌∙◌, option_map}
use Rattle.serde_json.specs.View.{view}
use Rattle.press_core.specs.Shown.{shown_heading, shown_headed}
use Rattle.press_core.proofs.EventLemmas.{message_happens}
use Rattle.press_core.proofs.press.Press.message.Goals as goal

pub returns-in-Ok : goal.returns-in-Ok
returns-in-Ok c =
    message_happens c.args.text.now c.args.images.now c.args.self.now c.respond.new.self (view c.in-Some.message) (shown_heading c.in-Ok.heading) c.in-Ok.message_type c.respond.result
    (sym c.in_ok-message.ensures ∙ ap (option_map view) c.in-Some.is) (sym c.heading_of.ensures ∙ ap shown_headed c.in-Ok.is)
    c.respond.ensures.responds c.respond.ensures.err c.respond.ensures.printable
