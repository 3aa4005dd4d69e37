use Rattle.std.proofs.Common.{◌≡◌, ◌<◌, ℕ, List, length, get_or, refl, sym, ap, subst, arith}
use Rattle.assignment_search.proofs.Common.{both_ways}
use Rattle.std.specs.BinaryHeap.{heap_items}
use Rattle.assignment_search.proofs.OpenLemmas.{some_open, open_number, lowest_is, top_inside}
use Rattle.assignment_search.proofs.growth.Growing.first.Goals as goal

pub place_of-requires : goal.place_of-requires
place_of-requires c =
    let leaves = c.args.self.now in
    let x = c.in-Some.field-0.now in
    let some = some_open leaves leaves.nodes.items leaves.values.items c.requires.leaves c.requires.leaf in
    let found = open_number leaves leaves.nodes.items leaves.values.items c.requires.leaves x
    (top_inside x (heap_items leaves.heap) some c.in-Some.ensures.lookup) in
    subst (λ (xs : List ℕ). (i : ℕ) × ((i < length xs) × (get_or xs i 0 ≡ x.0.number))) (sym c.as_slice.ensures.value) found

pub unreachable-requires : goal.unreachable-requires
unreachable-requires c =
    let leaves = c.args.self.now in
    let some = some_open leaves leaves.nodes.items leaves.values.items c.requires.leaves c.requires.leaf in
    both_ways _ refl (c.in-None.ensures.variant.1 (omega (arith, some, leaves.heap.data.ok)))

pub returns-clause-lowest : goal.returns-clause-lowest
returns-clause-lowest c =
    let leaves = c.args.self.now in
    let x = c.in-Some.field-0.now in
    let are = c.requires.leaves in
    let some = some_open leaves leaves.nodes.items leaves.values.items are c.requires.leaf in
    let within = c.place_of.ensures.within in
    let size = ap (λ (xs : List ℕ). length xs) c.as_slice.ensures.value in
    lowest_is leaves leaves.nodes.items leaves.values.items are c.place_of.result x (omega (arith, within, size, are.sized))
    (subst (λ (xs : List ℕ). get_or xs c.place_of.result 0 ≡ x.0.number) c.as_slice.ensures.value c.place_of.ensures.found)
    (top_inside x (heap_items leaves.heap) some c.in-Some.ensures.lookup)
    (c.in-Some.ensures.greatest are.ordered)
