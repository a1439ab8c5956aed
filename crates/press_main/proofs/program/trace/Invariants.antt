use Rattle.press_main.proofs.program.trace.Given as goal

-- which reader it is, and the bytes in front of it
abbrev pub ghosts-trace_behind-D-Loan : goal.ghosts-trace_behind-D-Loan
ghosts-trace_behind-D-Loan g a = record { name = a.reader.ghost_name }

abbrev pub ghosts-trace_behind-D-Fronted : goal.ghosts-trace_behind-D-Fronted
ghosts-trace_behind-D-Fronted g a = record { front = a.prefix.now }
