use Rattle.portal_hall.proofs.hall.Hall.split.Given as goal

abbrev pub ghosts-split_room : goal.ghosts-split_room
ghosts-split_room g a = record { room = a.room }
