use Rattle.trip_graph.proofs.pairs.rider_vehicle_graph.rider_vehicle.Given as goal

abbrev pub ghosts-all_edges : goal.ghosts-all_edges
ghosts-all_edges a = record { name = a.blank.name; parts = a.blank.parts }
