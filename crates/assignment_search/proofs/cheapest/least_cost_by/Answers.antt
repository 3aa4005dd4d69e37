use Rattle.std.proofs.Common.{◌≡◌, ◌∙◌, List, ℕ, w64, to_z, of_z, sym, subst}
use Rattle.assignment_search.proofs.Common.{usable_of, AreCheapest}
use Rattle.std.proofs.lemmas.Int.{to_z-of_z}
use Rattle.assignment_search.proofs.CheapestLemmas.{cheapest_is_least}
use Rattle.assignment_search.proofs.cheapest.least_cost_by.Goals as goal

pub returns-in-Some-clause-value : goal.returns-in-Some-clause-value
returns-in-Some-clause-value c =
    let g = c.args.graph.now in
    let listed : List ℕ = c.as_slice.result.now in
    let right : AreCheapest g listed = subst (AreCheapest g) (sym c.as_slice.ensures.value) (c.requires.cheapest c.if-cheapest.true) in
    let back : to_z w64 (of_z w64 c.cost_of_row.result) ≡ c.cost_of_row.result = to_z-of_z w64 c.cost_of_row.result
    (record { sfits = c.cost_of_row.type_inv }) in
    back ∙ c.cost_of_row.ensures.value
    ∙ cheapest_is_least g (usable_of c.args.allowed.now) listed c.args.vehicle c.in-Some.row right (c.in-Some.ensures.0) (c.in-Some.ensures.1)
