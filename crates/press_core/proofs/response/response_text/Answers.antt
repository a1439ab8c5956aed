use Rattle.press_core.proofs.FloatLemmas.{text_written}
use Rattle.press_core.specs.Shown.{additions_of, shown_heading}
use Rattle.press_core.proofs.response.response_text.Goals as goal

pub returns : goal.returns
returns c =
    text_written c.to_vec.result _ (shown_heading c.args.heading) c.args.code (additions_of c.args.additions.items) c.to_vec.ensures.text c.in_ok-response.ensures c.requires
