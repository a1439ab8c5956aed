-- PJL lines (PJL Technical Reference Manual, the PJL commands).
use Rattle.std.specs.Prelude.{ℕ, ◌==◌, List, length, if◌then◌else◌}
use Rattle.press_pjl.specs.Lines.{Done, after_line}
use Rattle.press_pjl.specs.declared.effect.Facts.{Facts}
use Rattle.press_pjl.specs.declared.effect.PjlEffect.{PjlEffect}
use Rattle.press_pjl.specs.declared.environment.PjlEnv.{PjlEnv}
use Rattle.press_table.specs.declared.effect.PageChange.TheVariants as page_changes
use Rattle.press_table.specs.declared.state.State.{State}
use Rattle.press_table.specs.Closing.{reset_by}
use Rattle.press_table.specs.Outcome.{Effect, Changes, GivesReply}

-- what a line is told of the press
abbrev pub facts_of : State → Facts
facts_of state = record { total = state.sheets; since_job = state.since_job }

-- a line without a reply: one that sets the current values acts as the universal exit, and by the new values
abbrev pub spoken : PjlEnv → PjlEffect → State → Effect
spoken language effect state =
    if effect.resets then reset_by (page_changes.Language language effect.job) state
    else Changes (record state { language = language })

-- What a line does.
abbrev pub said : Done → State → Effect
said (language, effect) state =
    if length effect.reply == 0 then spoken language effect state
    else GivesReply effect.reply (record state { language = language })

abbrev pub job_language : (line : List ℕ) → State → Effect
job_language line state = said (after_line line (facts_of state) state.language) state
