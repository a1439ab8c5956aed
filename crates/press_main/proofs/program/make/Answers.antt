use Rattle.std.proofs.Common.{ap, refl, inl}
use Rattle.press_main.proofs.ProgramLemmas.{is-no-side}
use Rattle.press_main.proofs.program.make.Goals as goal

pub returns-in-Listing-clause-makes : goal.returns-in-Listing-clause-makes
returns-in-Listing-clause-makes g c = λ source unlike.
    rw (c.in-Listing.is, ← c.deref.ensures.value) c.print_list.ensures.printed

pub returns-in-Sums-clause-makes : goal.returns-in-Sums-clause-makes
returns-in-Sums-clause-makes g c = λ source unlike.
    rw (c.in-Sums.is, ← c.deref-in-Sums.ensures.value) c.print_sums.ensures.printed

pub returns-in-Files-clause-makes : goal.returns-in-Files-clause-makes
returns-in-Files-clause-makes g c = λ source unlike.
    let none = is-no-side source _ _ (rw c.in-Files.is at unlike) in
    rw (c.in-Files.is, ← c.deref-in-Files.ensures.value) (inl (none, c.print_files.ensures.prints))

pub returns-in-Session-clause-makes : goal.returns-in-Session-clause-makes
returns-in-Session-clause-makes g c = λ source unlike. rw c.in-Session.is c.press_lines.ensures.ended

pub returns-in-Text-clause-makes : goal.returns-in-Text-clause-makes
returns-in-Text-clause-makes g c = λ source unlike. rw c.in-Text.is c.disasm_bytes.ensures.ended

pub returns-in-Explained-clause-makes : goal.returns-in-Explained-clause-makes
returns-in-Explained-clause-makes g c = λ source unlike. rw (c.in-Explained.is, ← c.deref-in-Explained.ensures.value) c.explain.ensures.explains

pub returns-in-Debugged-clause-makes : goal.returns-in-Debugged-clause-makes
returns-in-Debugged-clause-makes g c = λ source unlike. rw (c.in-Debugged.is, ← c.deref-in-Debugged.ensures.value) c.debug_file.ensures.debugs

pub returns-in-Traced-clause-makes : goal.returns-in-Traced-clause-makes
returns-in-Traced-clause-makes g c = λ source unlike. rw (c.in-Traced.is, ← c.deref-in-Traced.ensures.value) c.trace.ensures.traces

pub returns-in-Runs-clause-makes : goal.returns-in-Runs-clause-makes
returns-in-Runs-clause-makes g c = λ source unlike. rw (c.in-Runs.is, ← c.deref-in-Runs.ensures.value) c.trace-in-Runs.ensures.traces

pub returns-in-Page-clause-makes : goal.returns-in-Page-clause-makes
returns-in-Page-clause-makes g c = λ source unlike. rw (c.in-Page.is, ← c.deref-in-Page.ensures.value) c.page.ensures.pages

pub returns-in-Assembled-clause-makes : goal.returns-in-Assembled-clause-makes
returns-in-Assembled-clause-makes g c = λ source unlike. rw c.in-Assembled.is c.asm_file.ensures.ended

pub returns-in-Job-clause-makes : goal.returns-in-Job-clause-makes
returns-in-Job-clause-makes g c = λ source unlike. rw (c.in-Job.is, ← c.deref-in-Job.ensures.value) c.write_file.ensures.writes

pub returns-in-Tables-clause-makes : goal.returns-in-Tables-clause-makes
returns-in-Tables-clause-makes g c = λ source unlike.
    rw c.in-Tables.is
    (rw (← c.tables_text.ensures) c.write_text.ensures.writes, refl, ap g.P.Outputs.NamedOutputs.made c.write_text.ensures.outputs)
