use Rattle.pgn_outlet.proofs.outlet.Outlet.cut.Given as goal

abbrev pub ghosts-cut_as : goal.ghosts-cut_as
ghosts-cut_as g a = record { size = a.size }
