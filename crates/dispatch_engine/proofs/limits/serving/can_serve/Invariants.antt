use Rattle.dispatch_engine.proofs.limits.serving.can_serve.Given as goal

abbrev pub ghosts-search : goal.ghosts-search
ghosts-search a = record { name = a.blank.name; parts = a.blank.parts }
