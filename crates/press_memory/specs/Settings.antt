-- The printer's own settings: the words of `--default`, in one text.
use Rattle.std.specs.Prelude.{◌≡◌, ◌⊎◌, ℕ, List, [], ◌∷◌, true, false}
use Rattle.std.specs.List.{list_all}
use Rattle.press_pjl.specs.Variables.{is_assignment}
use Rattle.press_words.specs.Defaults.{prefix_of}
use Rattle.press_words.specs.Lines.{words_of}
use Rattle.press_memory.specs.Faults.{no_memory, bad_settings}

-- the words of settings: those between single spaces, and none of no bytes
abbrev pub settings_in : List ℕ → List (List ℕ)
settings_in [] = []
settings_in (byte ∷ bytes) = words_of (byte ∷ bytes)

-- By settings each of which is `NAME=VALUE` of the job language this holds, of what they put in front of a stream; or one is none, or memory
-- ran out, and nothing is written.
abbrev pub BySettings : (settings : List ℕ) (Has : (prefix : List ℕ) (fault : ℕ) (written : List ℕ) → Type 0) (fault : ℕ) (written : List ℕ) → Type 0
BySettings settings Has fault written =
    ((list_all is_assignment (settings_in settings) ≡ true) × Has (prefix_of (settings_in settings)) fault written)
    ⊎ ((list_all is_assignment (settings_in settings) ≡ false) × (fault ≡ bad_settings) × (written ≡ []))
    ⊎ ((fault ≡ no_memory) × (written ≡ []))
