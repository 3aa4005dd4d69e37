use Rattle.trip_graph.proofs.batch.pieces.empty_piece.Given as goal

abbrev pub ghosts-count_empty : goal.ghosts-count_empty
ghosts-count_empty a = record { name = a.blank.name; parts = a.blank.parts }
