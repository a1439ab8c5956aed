use Rattle.press_main.proofs.program.page.Given as goal

-- which reader it is, and the bytes in front of it
abbrev pub ghosts-page_behind-D-Loan : goal.ghosts-page_behind-D-Loan
ghosts-page_behind-D-Loan g a = record { name = a.reader.ghost_name }

abbrev pub ghosts-page_behind-D-Fronted : goal.ghosts-page_behind-D-Fronted
ghosts-page_behind-D-Fronted g a = record { front = a.prefix.now }
