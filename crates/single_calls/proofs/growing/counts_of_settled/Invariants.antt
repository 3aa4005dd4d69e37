use Rattle.single_calls.proofs.growing.counts_of_settled.Given as goal

abbrev pub ghosts-count_of_first : goal.ghosts-count_of_first
ghosts-count_of_first a = record { name = a.blank.name; parts = a.blank.parts }
