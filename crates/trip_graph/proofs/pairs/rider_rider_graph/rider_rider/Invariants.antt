use Rattle.trip_graph.proofs.pairs.rider_rider_graph.rider_rider.Given as goal

abbrev pub ghosts-all_pairs : goal.ghosts-all_pairs
ghosts-all_pairs a = record { name = a.blank.name; parts = a.blank.parts }
