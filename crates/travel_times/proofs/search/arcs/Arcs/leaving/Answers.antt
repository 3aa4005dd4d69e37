use Rattle.std.proofs.Common.{◌≡◌, ℕ, List, slice_index, refl, ap, ◌∙◌, arith}
use Rattle.travel_times.proofs.Common.{get_or_read}
use Rattle.road_network.specs.Storage.{start_at}
use Rattle.travel_times.proofs.search.arcs.Arcs.leaving.Goals as goal

pub slice_bounds-result-count : goal.slice_bounds-result-count
slice_bounds-result-count c =
    let ends : List ℕ = c.args.self.now.ends.items in
    let node = c.args.node in
    let start : c.start_of-start.result ≡ start_at ends node = c.start_of-start.ensures ∙ ap (λ es. start_at es node) c.deref.ensures.value in
    let end : c.index.result.now ≡ slice_index ends node = get_or_read ends node c.index.result.now c.requires c.index.ensures 0 in
    omega (arith, start, end, c.args.self.now.rising node c.requires)

pub returns : goal.returns
returns c =
    let ends : List ℕ = c.args.self.now.ends.items in
    let node = c.args.node in
    let start : c.start_of-start.result ≡ start_at ends node = c.start_of-start.ensures ∙ ap (λ es. start_at es node) c.deref.ensures.value in
    let end : c.index.result.now ≡ slice_index ends node = get_or_read ends node c.index.result.now c.requires c.index.ensures 0 in
    rw (start, end, c.deref-2.ensures.value) refl
