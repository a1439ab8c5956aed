use Rattle.press_files.proofs.files.print_files.Given as goal

-- which outputs they are
abbrev pub ghosts-print_lent : goal.ghosts-print_lent
ghosts-print_lent g a = record { name = a.outputs.ghost_name }
