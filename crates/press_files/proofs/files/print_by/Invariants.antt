use Rattle.press_files.proofs.files.print_by.Given as goal

-- which writer it is, and whether bytes waited there
abbrev pub ghosts-print_answering-D-Loan : goal.ghosts-print_answering-D-Loan
ghosts-print_answering-D-Loan g a = record { name = a.out.ghost_name }

abbrev pub ghosts-print_answering-D-Waited : goal.ghosts-print_answering-D-Waited
ghosts-print_answering-D-Waited g a = record { waited = g.W.WriteDevice.waiting a.out.now }
