use Rattle.plan_rules.specs.Graph.{Graph}
use Rattle.assignment_search.specs.Index.{IsIndexOf}
use Rattle.assignment_search.specs.Cheapest.{AreCheapestOf}
use Rattle.assignment_search.specs.declared.lookups.Lookups.{Lookups}

-- an index of the graph's riders, and the cheapest rows of its vehicles
pub record AreLookupsOf (g : Graph) (lookups : Lookups) : Type 0 where
  pub index : IsIndexOf g lookups.index
  pub cheapest : AreCheapestOf g lookups.cheapest
