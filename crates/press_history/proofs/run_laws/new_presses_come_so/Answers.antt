-- An execution from a new world is a run, of which the laws speak.
use Rattle.press_history.specs.Runs.{IsRun}
use Rattle.press_history.proofs.run_laws.new_presses_come_so.Goals as goal

pub returns : goal.returns
returns c = λ engines happenings last are leads.
    let run : IsRun happenings last = record { engines = engines; are = are; leads = leads } in
    record {
      given = λ number. c.sheets_are_given.ensures.under happenings last number run;
      delivers = λ number. c.entries_deliver_while_they_run.ensures happenings last number run;
      on_engines = c.entries_are_bounded.ensures.on_engines happenings last run;
      count = c.entries_are_bounded.ensures.count happenings last run;
      queue = c.entries_are_bounded.ensures.queue happenings last run;
    }
