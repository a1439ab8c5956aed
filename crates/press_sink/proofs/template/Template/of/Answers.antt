use Rattle.press_sink.proofs.template.Template.of.Goals as goal

pub returns-in-Some-clause-exact : goal.returns-in-Some-clause-exact
returns-in-Some-clause-exact c = λ none. absurd (none _ c.in-Some.ensures)
