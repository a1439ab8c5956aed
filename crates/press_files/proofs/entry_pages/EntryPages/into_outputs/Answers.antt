use mathlib.Core.Logic.{∥∥₁_map}
use Rattle.press_files.proofs.EntryPagesLemmas.{pages-unmade}
use Rattle.press_files.proofs.entry_pages.EntryPages.into_outputs.Goals as goal

pub returns-clause-makes : goal.returns-clause-makes
returns-clause-makes g c = ∥∥₁_map c.args.self.keeps (λ keeps. keeps.makes)

pub returns-clause-unmade : goal.returns-clause-unmade
returns-clause-unmade g c = λ none. pages-unmade _ _ _ _ _ none (∥∥₁_map c.args.self.keeps (λ keeps. keeps.makes))
