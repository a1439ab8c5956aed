use Rattle.press_forms.proofs.PagingLemmas.{ReadBehind}
use Rattle.press_forms.proofs.paging.behind_steps.Given as goal

-- it stands behind as many items as steps were taken
abbrev pub invariant-loop-taken : goal.invariant-loop-taken
invariant-loop-taken g l =
    ReadBehind (g.R.ReadDevice.remaining l.fn.reader) (g.R.ReadDevice.remaining l.reader) l.taken l.stepper
