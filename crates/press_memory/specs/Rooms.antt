-- Outputs whose bytes go into the caller's room.
use Rattle.std.specs.Prelude.{ℕ, List, [], ◌∷◌, ◌++◌, Option, Some, None, refl}
use Rattle.std.specs.Coded.{Coded, code_by, coded×, coded_ℕ, coded_list, coded_option}
use Rattle.press_sink.specs.Kept.{output_of}
use Rattle.press_sink.specs.Outputs.{MadeOutput}
use Rattle.press_sink.specs.declared.list_outputs.ListedOutput.{ListedOutput}
use Rattle.press_memory.specs.Written.{held_bytes}

-- outputs are stored as the pairs of their names and of what they hold
abbrev pub output_code : Coded MadeOutput
output_code =
    code_by (List ℕ × Option (List ℕ)) (coded× (coded_list coded_ℕ) (coded_option (coded_list coded_ℕ)))
    (λ output. (output.name, output.holds))
    (λ parts. record { name = parts.0; holds = parts.1 })
    (λ _. refl)

-- the output that was made last, behind those before it
abbrev pub outputs_with : List MadeOutput → Option ListedOutput → List MadeOutput
outputs_with settled None = settled
outputs_with settled (Some last) = settled ++ output_of last ∷ []

-- what the output that was made last holds
abbrev pub held_last : Option ListedOutput → List ℕ
held_last None = []
held_last (Some last) = held_bytes (output_of last).holds
