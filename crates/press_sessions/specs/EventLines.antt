-- Lines of events: what each asks of a press.
use Rattle.std.specs.Prelude.{ℕ, ◌==◌, Bool, List, [], ◌∷◌, length, map, Option, None, Some, option_map, option_and_then, codes, if◌then◌else◌}
use Rattle.std.specs.List.{list_any}
use Rattle.std.specs.Str.{bytes_eq}
use Rattle.press_core.specs.declared.operator.OperatorCommand.{OperatorCommand}
use Rattle.press_core.specs.declared.operator.OperatorCommand.TheVariants as operators
use Rattle.press_sessions.specs.declared.event_lines.LineEvent.{LineEvent}
use Rattle.press_sessions.specs.declared.event_lines.LineEvent.TheVariants as events
use Rattle.press_sessions.specs.declared.event_lines.LineKind.{LineKind}
use Rattle.press_sessions.specs.declared.event_lines.LineKind.TheVariants.{Message, Turn, Pause, Continue, Abort}
use Rattle.press_words.specs.Lines.{words_of, number_in}

-- What a line asks: a message by the names of its file and of the files of its images, a turn of an
-- engine, or a command of an operator.
pub data EventLine : Type 0 where
  MessageLine : (file : List ℕ) → (images : List (List ℕ)) → EventLine
  TurnLine : (engine most : ℕ) → EventLine
  OperatorLine : OperatorCommand → EventLine

-- the kind of the lines that begin with a word
abbrev pub kind_named : List ℕ → Option LineKind
kind_named word =
    if bytes_eq word (codes "message") then Some Message
    else if bytes_eq word (codes "turn") then Some Turn
    else if bytes_eq word (codes "pause") then Some Pause
    else if bytes_eq word (codes "continue") then Some Continue
    else if bytes_eq word (codes "abort") then Some Abort
    else None

-- what a line of a kind asks, by the words behind the first
abbrev pub asked_by : LineKind → List (List ℕ) → Option EventLine
asked_by Message (file ∷ images) = Some (MessageLine file images)
asked_by Turn (number ∷ []) = option_map (TurnLine 0) (number_in number)
asked_by Turn (number ∷ engine ∷ []) = option_and_then (λ which. option_map (TurnLine which) (number_in number)) (number_in engine)
asked_by Pause [] = Some (OperatorLine operators.Pause)
asked_by Continue [] = Some (OperatorLine operators.Continue)
asked_by Abort [] = Some (OperatorLine operators.AbortRunning)
asked_by kind words = None

-- a word of no bytes
abbrev pub is_empty : List ℕ → Bool
is_empty word = length word == 0

abbrev pub named_in : List (List ℕ) → Option EventLine
named_in [] = None
named_in (first ∷ others) = option_and_then (λ kind. asked_by kind others) (kind_named first)

-- What words ask, if they are those of an event: no word is empty, since one space stands between two.
abbrev pub event_in : List (List ℕ) → Option EventLine
event_in words = if list_any is_empty words then None else named_in words

-- What a line asks, if it is one of an event.
abbrev pub event_of_line : List ℕ → Option EventLine
event_of_line line = event_in (words_of line)

-- what the code's event of a line asks
abbrev pub line_seen : LineEvent → EventLine
line_seen (events.Message file images) = MessageLine file.now (map (λ name. name.now) images.now)
line_seen (events.Turn engine most) = TurnLine engine most
line_seen (events.Operator command) = OperatorLine command
