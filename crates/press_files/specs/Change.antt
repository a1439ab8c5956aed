-- What something was before a call and is after it.
use Rattle.std.specs.Prelude.{ℕ, List, Option}
use Rattle.press_sink.specs.Outputs.{MadeOutput}
use Rattle.press_files.specs.Causes.{Failures}

pub record Change (A : Type 0) : Type 0 where
  pub before : A
  pub after : A

abbrev pub change : {A : Type 0} → (before after : A) → Change A
change before after = record { before = before; after = after }

-- What a call changes, each where it is known: what standard error took, what a reader has, what standard output took, and the outputs that
-- were made; and which of the devices failed.
pub record Changes : Type 1 where
  pub fails : Failures
  pub told : Change (Option (List ℕ))
  pub read : Change (Option (List ℕ))
  pub written : Change (Option (List ℕ))
  pub made : Change (Option (List MadeOutput))

abbrev pub around : (fails : Failures) (said says had left old new : Option (List ℕ)) (before after : Option (List MadeOutput)) → Changes
around fails said says had left old new before after = record {
  fails = fails;
  told = change said says;
  read = change had left;
  written = change old new;
  made = change before after;
}
