use Rattle.press_main.proofs.behind.debug_behind.Given as goal

-- which file it is, and the bytes in front of it
abbrev pub ghosts-debug_lent-D-Loan : goal.ghosts-debug_lent-D-Loan
ghosts-debug_lent-D-Loan g a = record { name = a.file.ghost_name }

abbrev pub ghosts-debug_lent-D-Fronted : goal.ghosts-debug_lent-D-Fronted
ghosts-debug_lent-D-Fronted g a = record { front = a.prefix.now }
