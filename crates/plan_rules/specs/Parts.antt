use Rattle.plan_rules.specs.Graph.{Graph}
use Rattle.plan_rules.specs.declared.parts.Parts.{Parts}

-- the graph that these parts are of
abbrev pub graph_of : Parts → Graph
graph_of p =
    record { vehicles = p.vehicles; riders = p.riders; penalty = p.penalty; rows = p.rows.items; held = p.held.items }
