use Rattle.std.proofs.Common.{◌∙◌, ◌++◌, ◌∷◌, [], ap, rules}
use Rattle.press_cmd.specs.View.{token}
use Rattle.press_cmd.proofs.Sound.{sound}
use Rattle.press_cmd.specs.RecordsOnce.{the-commands}
use Rattle.press_cmd.proofs.RecordLemmas.{spelled-more, sound-more, pushed-records, OnOk-map, OnErr-map}
use Rattle.press_cmd.proofs.records.Records.push.Goals as goal

pub invariant_of-self-inside : goal.invariant_of-self-inside
invariant_of-self-inside c = (
  pushed-records c.append_record.result (token c.args.command.now) c.self.inside.records (sound c.args.command.now)
      c.append_record.ensures.ok c.append_record.ensures.err,
  tt,
)

pub returns-clause-pushed : goal.returns-clause-pushed
returns-clause-pushed c =
    let records = c.self.inside.records in
    let command = token c.args.command.now in
    OnOk-map c.append_record.result _ _
    (λ appended.
    search (the-commands, rules, spelled-more records command appended, sound-more records.commands command records.sound (sound c.args.command.now))
    ∙ ap (λ front. front ++ (command ∷ [])) c.self.view_is)
    c.append_record.ensures.ok

pub returns-clause-unchanged : goal.returns-clause-unchanged
returns-clause-unchanged c =
    let records = c.self.inside.records in
    OnErr-map c.append_record.result _ _
    (λ same. search (the-commands, rules, same ∙ records.spelled, records.sound) ∙ c.self.view_is)
    c.append_record.ensures.err
