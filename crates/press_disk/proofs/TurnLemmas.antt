-- What outputs keep from one part to the next.
use Rattle.std.proofs.Common.{◌≡◌, ◌∙◌, ap, sym}
use Rattle.press_disk.specs.declared.file_outputs.FileOutputs.{FileOutputs}

-- a part more was named and tried
pub tried-next : {S : Type 0} (begun now named tried : FileOutputs S) → now ≡ record begun { part = now.part; store = now.store } → named ≡ record now { part = named.part }
    → tried ≡ record named { store = tried.store } → tried ≡ record begun { part = tried.part; store = tried.store }
tried-next {S = S} begun now named tried first second third =
    third
    ∙ ap (λ (outputs : FileOutputs S). record outputs { store = tried.store }) second
    ∙ ap (λ (outputs : FileOutputs S). record outputs { part = named.part; store = tried.store }) first
    ∙ ap (λ part. record begun { part = part; store = tried.store }) (sym (ap (λ (outputs : FileOutputs S). outputs.part) third))
