use Rattle.press_main.proofs.program.explain.Given as goal

-- which reader it is, and the bytes in front of it
abbrev pub ghosts-explain_behind-D-Loan : goal.ghosts-explain_behind-D-Loan
ghosts-explain_behind-D-Loan g a = record { name = a.reader.ghost_name }

abbrev pub ghosts-explain_behind-D-Fronted : goal.ghosts-explain_behind-D-Fronted
ghosts-explain_behind-D-Fronted g a = record { front = a.prefix.now }
