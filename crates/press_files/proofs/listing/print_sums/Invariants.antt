use Rattle.press_files.proofs.listing.print_sums.Given as goal

-- the writer, what it held before its listing, and whether sums are listed
abbrev pub ghosts-list_by-D-Loan : goal.ghosts-list_by-D-Loan
ghosts-list_by-D-Loan g a = record { name = a.out.ghost_name }

abbrev pub ghosts-list_by-D-Unlisted : goal.ghosts-list_by-D-Unlisted
ghosts-list_by-D-Unlisted g a = record { begun = g.P.Out.WriteDevice.contents a.out.now; sums = a.sums }
