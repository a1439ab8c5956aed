use Rattle.press_sessions.proofs.sessions.press_lines.Given as goal

-- which outputs they are
abbrev pub ghosts-play_lent : goal.ghosts-play_lent
ghosts-play_lent g a = record { name = a.outputs.ghost_name }
