use Rattle.std.proofs.Common.{◌≡◌, ℕ, ◌<◌, false, refl}
use Rattle.travel_times.proofs.Common.{All-nil, length-replicate, never}
use Rattle.std.proofs.lemmas.List.Elements.{All-replicate}
use Rattle.travel_times.proofs.lemmas.search.SearchLemmas.{none_waits}
use Rattle.travel_times.proofs.labels.space.Space.new.Goals as goal

pub returns : goal.returns
returns c =
    let n = c.args.nodes in
    let none = All-replicate (λ (s : ℕ). s ≡ never) n never refl in
    rw (c.in_ok-no_ways.ensures, c.in_ok-none_waiting.ensures, c.in_ok-no_ways-2.ensures, c.new.ensures.items)
    (record {
      seconds_each = length-replicate {A = ℕ} n never;
      seconds_none = none;
      waiting_each = length-replicate n false;
      waiting_none = none_waits n;
      taken_within = All-nil (λ (node : ℕ). node < n);
      via_each = length-replicate {A = ℕ} n never;
      via_none = none;
    })
