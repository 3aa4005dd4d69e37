use Rattle.std.proofs.Common.{◌+◌, ◌∙◌, List, ℕ, take, sym, ap}
use Rattle.std.proofs.lemmas.Bool.{true≢false}
use Rattle.trip_graph.proofs.vehicle.RowGrowth.{read_at}
use Rattle.trip_graph.proofs.vehicle.candidate.has_sibling.Goals as goal

pub returns : goal.returns
returns c = λ no within same.
    let one = read_at c.args.rows.now c.args.row _ _ c.requires.row c.as_slice-riders.ensures.value in
    let other = read_at c.args.rows.now (c.args.row + 1) _ _ within c.as_slice-other.ensures.value in
    let yes = c.have_same_front.ensures.1 (ap (λ (v : List ℕ). take c.args.front v) one ∙ sym same ∙ ap (λ (v : List ℕ). take c.args.front v) (sym other)) in
    true≢false (sym yes ∙ no)
