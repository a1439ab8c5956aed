-- What each line does (PJL Technical Reference Manual, the PJL commands; what is accepted, and that a line that sets the
-- current values acts as a universal exit, are this profile's).
use Rattle.std.specs.Prelude.{ℕ, ◌==◌, ◌&&◌, Bool, true, false, nat_eq, if◌then◌else◌, List, [], ◌∷◌, length, Option, Some, None}
use Rattle.std.specs.Prelude.{unwrap_or, option_map, bytes_eq, codes}
use Rattle.std.specs.List.{starts_with}
use Rattle.press_cmd.specs.Token.{pjl_mark}
use Rattle.press_cmd.specs.Language.{begins_white, raised, trimmed, line_text, command_word, command_rest, name_of, assigned_value}
use Rattle.press_page.specs.Environment.{factory}
use Rattle.press_page.specs.declared.defaults.Defaults.{Defaults}
use Rattle.press_pjl.specs.Names.{of_name, switch_name}
use Rattle.press_pjl.specs.Variables.{assigned, value_text}
use Rattle.press_pjl.specs.Replies.{reply_of, unknown, echo_of, fact_named, fact_text}
use Rattle.press_pjl.specs.declared.command.Command.{Command}
use Rattle.press_pjl.specs.declared.command.Command.TheVariants as commands
use Rattle.press_pjl.specs.declared.effect.Facts.{Facts}
use Rattle.press_pjl.specs.declared.effect.PjlEffect.{PjlEffect}
use Rattle.press_pjl.specs.declared.environment.PjlEnv.{PjlEnv}

-- The command words of lines that have effect. COMMENT has none, and ENTER sets the mode of the stream alone.
abbrev pub command_name : Command → List ℕ
command_name commands.Job = codes "JOB"
command_name commands.EndOfJob = codes "EOJ"
command_name commands.Reset = codes "RESET"
command_name commands.Initialize = codes "INITIALIZE"
command_name commands.Set = codes "SET"
command_name commands.Default = codes "DEFAULT"
command_name commands.Inquire = codes "INQUIRE"
command_name commands.InquireDefault = codes "DINQUIRE"
command_name commands.Echo = codes "ECHO"
command_name commands.Info = codes "INFO"
command_name commands.Status = codes "USTATUS"
command_name commands.StatusOff = codes "USTATUSOFF"

abbrev pub all_commands : List Command
all_commands =
    commands.Job ∷ commands.EndOfJob ∷ commands.Reset ∷ commands.Initialize ∷ commands.Set ∷ commands.Default
    ∷ commands.Inquire ∷ commands.InquireDefault ∷ commands.Echo ∷ commands.Info ∷ commands.Status
    ∷ commands.StatusOff ∷ []

-- The command of a line, if it has one: behind `@PJL` stands white space and then its word.
abbrev pub command_of : (line : List ℕ) → Option Command
command_of line =
    if starts_with nat_eq line pjl_mark && begins_white (line_text line)
    then of_name command_name all_commands (command_word line)
    else None

-- What a line does: the environment after it, and its effect.
abbrev pub Done : Type 0
Done = PjlEnv × PjlEffect

abbrev pub effect : (resets job : Bool) → (reply : List ℕ) → PjlEffect
effect resets job reply = record { resets = resets; job = job; reply = reply }

-- the environment after power on: factory values, and no replies after sheets
abbrev pub power_on_language : PjlEnv
power_on_language = record { default = factory; current = factory; page_status = false }

-- nothing
abbrev pub nothing : PjlEnv → Done
nothing env = (env, effect false false [])

-- the current values are these, and the line acts as a universal exit
abbrev pub sets_current : Defaults → PjlEnv → Done
sets_current values env = (record env { current = values }, effect true false [])

-- a job starts
abbrev pub starts_job : PjlEnv → Done
starts_job env = (record env { current = env.default }, effect true true [])

-- both are the factory values
abbrev pub initializes : PjlEnv → Done
initializes env = (record env { default = factory; current = factory }, effect true false [])

-- the default values are these
abbrev pub sets_default : Defaults → PjlEnv → Done
sets_default values env = (record env { default = values }, effect false false [])

-- replies after each sheet are on or off
abbrev pub switches : Bool → PjlEnv → Done
switches on env = (record env { page_status = on }, effect false false [])

-- a reply, which is empty where there is none
abbrev pub replies : List ℕ → PjlEnv → Done
replies reply env = (env, effect false false reply)

-- what follows where a line asks for something that is known
abbrev pub where_known : {A : Type 0} → Option A → (A → PjlEnv → Done) → PjlEnv → Done
where_known None does env = nothing env
where_known (Some asked) does env = does asked env

-- the name behind the command word of a query
abbrev pub asked_name : (line : List ℕ) → List ℕ
asked_name line = trimmed (command_rest line)

-- what follows where behind the command word only white space stands
abbrev pub where_alone : (line : List ℕ) → (PjlEnv → Done) → PjlEnv → Done
where_alone line does env = if length (asked_name line) == 0 then does env else nothing env

-- The reply to a query of a name, by its value if it has one; without a name there is none.
abbrev pub answer_of : Command → (name : List ℕ) (value : Option (List ℕ)) → List ℕ
answer_of command name value =
    if length name == 0 then [] else reply_of (command_name command) name (unwrap_or value unknown)

-- to INQUIRE and DINQUIRE: the value of a variable
abbrev pub inquired : Command → (line : List ℕ) → Defaults → List ℕ
inquired command line values = answer_of command (asked_name line) (value_text (asked_name line) values)

-- to INFO: what is known of the press
abbrev pub informed : (line : List ℕ) → Facts → List ℕ
informed line facts =
    answer_of commands.Info (asked_name line) (option_map (fact_text facts) (fact_named (asked_name line)))

-- what USTATUS switches on or off: PAGE alone
abbrev pub asked_switch : (line : List ℕ) → Option Bool
asked_switch line =
    if bytes_eq (raised (name_of line)) (codes "PAGE")
    then of_name switch_name (false ∷ true ∷ []) (assigned_value line)
    else None

-- The table of lines: what each command does.
abbrev pub language_row : Command → (line : List ℕ) → Facts → PjlEnv → Done
language_row commands.Job line facts env = starts_job env
language_row commands.EndOfJob line facts env = sets_current env.default env
language_row commands.Reset line facts env = sets_current env.default env
language_row commands.Initialize line facts env = where_alone line initializes env
language_row commands.Set line facts env =
    where_known (assigned (name_of line) (assigned_value line) env.current) sets_current env
language_row commands.Default line facts env =
    where_known (assigned (name_of line) (assigned_value line) env.default) sets_default env
language_row commands.Inquire line facts env = replies (inquired commands.Inquire line env.current) env
language_row commands.InquireDefault line facts env = replies (inquired commands.InquireDefault line env.default) env
language_row commands.Echo line facts env = replies (echo_of (command_rest line)) env
language_row commands.Info line facts env = replies (informed line facts) env
language_row commands.Status line facts env = where_known (asked_switch line) switches env
language_row commands.StatusOff line facts env = where_alone line (switches false) env

-- A line: what its command does; without a command it has no effect.
abbrev pub row_of : Option Command → (line : List ℕ) → Facts → PjlEnv → Done
row_of None line facts env = nothing env
row_of (Some command) line facts env = language_row command line facts env

abbrev pub after_line : (line : List ℕ) → Facts → PjlEnv → Done
after_line line facts env = row_of (command_of line) line facts env
