-- Lines of the debugger: what each asks of it.
use Rattle.std.specs.Prelude.{ℕ, ◌+◌, List, take, drop, position, Option, None, Some, option_map, codes, if◌then◌else◌}
use Rattle.std.specs.Str.{bytes_eq}
use Rattle.press_asm.specs.Kinds.{kind_in}
use Rattle.press_forms.specs.declared.debugger_lines.DebuggerLine.{DebuggerLine}
use Rattle.press_forms.specs.declared.debugger_lines.DebuggerLine.TheVariants.{Step, Over, Go, Break, Clear, Recent}
use Rattle.press_words.specs.Lines.{is_space, number_word}

-- what a line of one word asks
abbrev pub asked_alone : (word : List ℕ) → Option DebuggerLine
asked_alone word =
    if bytes_eq word (codes "step") then Some Step
    else if bytes_eq word (codes "over") then Some Over
    else if bytes_eq word (codes "recent") then Some Recent
    else None

-- what a line asks by its first word and the rest
abbrev pub asked_with : (word rest : List ℕ) → Option DebuggerLine
asked_with word rest =
    if bytes_eq word (codes "go") then option_map Go (number_word rest)
    else if bytes_eq word (codes "break") then option_map Break (kind_in rest)
    else if bytes_eq word (codes "clear") then option_map Clear (number_word rest)
    else None

abbrev pub asked_at : Option ℕ → (line : List ℕ) → Option DebuggerLine
asked_at None line = asked_alone line
asked_at (Some place) line = asked_with (take place line) (drop (place + 1) line)

-- What a line asks, if it asks anything: its first word ends before the first space, and the rest stands behind it.
abbrev pub asked_of : List ℕ → Option DebuggerLine
asked_of line = asked_at (position is_space line) line
