use Rattle.trip_graph.proofs.batch.pieces.level_piece.Given as goal

abbrev pub ghosts-count_level : goal.ghosts-count_level
ghosts-count_level a = record { name = a.blank.name; parts = a.blank.parts }
