use Rattle.std.proofs.Common.{◌∙◌, sym, ap}
use Rattle.press_page.specs.Environment.{asked_page_size}
use Rattle.press_table.specs.declared.effect.EjectCause.TheVariants as causes
use Rattle.press_table.specs.declared.effect.PageChange.TheVariants as page_changes
use Rattle.press_table.specs.Closing.{close_if_marked}
use Rattle.press_table.proofs.ChangeLemmas.{size_asked, changes_asked}
use Rattle.press_table.proofs.state.State.select_page_size.Goals as goal

pub returns : goal.returns
returns c =
    c.close_if_marked.ensures
    ∙ ap (λ next. close_if_marked (causes.Change (page_changes.Size next.page_setup.size)) c.args.self.now) c.set_page_size.ensures.set
    ∙ changes_asked (λ size. causes.Change (page_changes.Size size)) _ _ c.args.self.now
    (size_asked (asked_page_size c.args.value.tenthousandths) c.args.self.now.environment (sym c.set_page_size.ensures.closes ∙ c.if-not-set_page_size.false))
