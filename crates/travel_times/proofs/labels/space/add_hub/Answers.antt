use Rattle.std.proofs.Common.{◌≡◌, ℕ, ◌<◌, ◌++◌, [], List, All, length, get_or, take, drop, ◌∙◌, ap, arith, sym, subst}
use Rattle.travel_times.proofs.Common.{get_or_read, All-nil, All-from_get_or, never, Arc, IsArcAmong, AreNodeHops, IsPruned, HasSpread, HandsOver, Hub}
use Rattle.travel_times.proofs.labels.Adding.{adds_hub, handed, found_range, spread_among}
use Rattle.travel_times.proofs.labels.Building.{held}
use Rattle.travel_times.proofs.labels.space.add_hub.Goals as goal

pub spread-requires-clause-none : goal.spread-requires-clause-none
spread-requires-clause-none c = rw c.deref_mut.ensures.value c.requires.clean.via_none

pub hand_over-requires-clause-within : goal.hand_over-requires-clause-within
hand_over-requires-clause-within c =
    let s = c.args.space.now in
    let seconds_each : length c.search.new.seconds ≡ c.args.space.now.seconds.len = omega (
      arith,
      c.search.auto.seconds,
      ap length c.deref_mut-2.ensures.value,
      s.seconds.ok.0,
    ) in
    let n_is : length c.search.new.seconds ≡ length c.args.hops.now = omega (arith, seconds_each, s.seconds.ok.0, c.requires.clean.seconds_each) in
    rw (c.deref-2.ensures.value, c.deref_mut-4.ensures.value, held s.seconds.len c.search.new.seconds s.seconds.items seconds_each)
    (c.in_ok-search.ensures.taken (rw n_is c.requires.clean.taken_within))

pub clear-requires-clause-among : goal.clear-requires-clause-among
clear-requires-clause-among c =
    let s = c.args.space.now in
    let via_each : length c.spread.new.via ≡ c.args.space.now.via.len = omega (arith, c.spread.auto.via, ap length c.deref_mut.ensures.value, s.via.ok.0) in
    rw (c.deref_mut-5.ensures.value, held s.via.len c.spread.new.via s.via.items via_each)
    (spread_among c.as_slice-hubs.result.now c.spread.new.via c.spread.ensures)

pub returns-clause-clean : goal.returns-clause-clean
returns-clause-clean c =
    let s = c.args.space.now in
    let n = length c.args.hops.now in
    let clean = c.requires.clean in
    let via_each : length c.spread.new.via ≡ c.args.space.now.via.len = omega (arith, c.spread.auto.via, ap length c.deref_mut.ensures.value, s.via.ok.0) in
    let via : c.deref.result.now ≡ c.spread.new.via = c.deref.ensures.value ∙ held s.via.len c.spread.new.via s.via.items via_each in
    let seconds_each : length c.search.new.seconds ≡ c.args.space.now.seconds.len = omega (
      arith,
      c.search.auto.seconds,
      ap length c.deref_mut-2.ensures.value,
      s.seconds.ok.0,
    ) in
    let seconds : c.deref_mut-4.result.now ≡ c.search.new.seconds = c.deref_mut-4.ensures.value ∙
    held s.seconds.len c.search.new.seconds s.seconds.items seconds_each in
    let via' : c.deref-3.result.now ≡ c.spread.new.via = c.deref-3.ensures.value ∙ held s.via.len c.spread.new.via s.via.items via_each in
    let hands : HandsOver c.args.start c.spread.new.via c.search.new.taken.items (length c.search.new.taken.items) c.search.new.seconds c.args.labels.now
    c.hand_over.new.seconds c.hand_over.new.labels = rw (via', c.deref-2.ensures.value, seconds) at c.in_ok-hand_over.ensures in
    let pruned : IsPruned c.requires.hops.0 (length c.args.hops.now) c.args.start c.args.labels.now c.spread.new.via c.search.new.seconds =
    rw via at (c.in_ok-search.ensures.found c.requires.hops.0 c.requires.hops.1 c.requires.hops.2) in
    let seconds_each' : length c.hand_over.new.seconds ≡ c.args.space.now.seconds.len = hands.seconds_length ∙ seconds_each in
    let waiting_each : length c.search.new.waiting ≡ c.args.space.now.waiting.len = omega (
      arith,
      c.search.auto.waiting,
      ap length c.deref_mut-3.ensures.value,
      s.waiting.ok.0,
    ) in
    let via_each' : length c.clear.new.via ≡ c.args.space.now.via.len = c.clear.auto.via ∙
    ap length (c.deref_mut-5.ensures.value ∙ held s.via.len c.spread.new.via s.via.items via_each) ∙ via_each in
    rw (
      held s.seconds.len c.hand_over.new.seconds (take s.seconds.len (c.search.new.seconds ++ drop (length c.search.new.seconds) s.seconds.items))
          seconds_each',
      held s.waiting.len c.search.new.waiting s.waiting.items waiting_each,
      held s.via.len c.clear.new.via (take s.via.len (c.spread.new.via ++ drop (length c.spread.new.via) s.via.items)) via_each',
    )
    (record {
      seconds_each = omega (arith, seconds_each', s.seconds.ok.0, clean.seconds_each);
      seconds_none = All-from_get_or (λ (x : ℕ). x ≡ never) c.hand_over.new.seconds 0 (λ node h.
          (handed n c.args.start c.spread.new.via c.search.new.taken.items c.search.new.seconds c.args.labels.now c.hand_over.new.seconds c.hand_over.new.labels
          pruned.each (found_range c.requires.hops.0 n c.args.start c.args.labels.now c.spread.new.via c.search.new.seconds pruned) c.in_ok-search.ensures.noted
          hands node (omega (arith, h, hands.seconds_length, pruned.each))).0);
      waiting_each = omega (arith, waiting_each, s.waiting.ok.0, clean.waiting_each);
      waiting_none = c.in_ok-search.ensures.none;
      taken_within = rw c.clear-2.ensures.items (All-nil (λ (node : ℕ). node < n));
      via_each = omega (arith, via_each', s.via.ok.0, clean.via_each);
      via_none = c.clear.ensures;
    })

pub returns-clause-added : goal.returns-clause-added
returns-clause-added c =
    let s = c.args.space.now in
    let n = length c.args.hops.now in
    let clean = c.requires.clean in
    let label : c.as_slice-hubs.result.now ≡ get_or c.args.own.now c.args.start [] = c.as_slice-hubs.ensures ∙
    get_or_read c.args.own.now c.args.start c.index-own-start.result (omega (arith, c.requires.own.0, c.requires.start)) c.index-own-start.is [] in
    let via_each : length c.spread.new.via ≡ c.args.space.now.via.len = omega (arith, c.spread.auto.via, ap length c.deref_mut.ensures.value, s.via.ok.0) in
    let via_n : length c.spread.new.via ≡ length c.args.hops.now = omega (arith, c.spread.auto.via, ap length c.deref_mut.ensures.value, clean.via_each) in
    let via : c.deref.result.now ≡ c.spread.new.via = c.deref.ensures.value ∙ held s.via.len c.spread.new.via s.via.items via_each in
    let seconds_each : length c.search.new.seconds ≡ c.args.space.now.seconds.len = omega (
      arith,
      c.search.auto.seconds,
      ap length c.deref_mut-2.ensures.value,
      s.seconds.ok.0,
    ) in
    let seconds : c.deref_mut-4.result.now ≡ c.search.new.seconds = c.deref_mut-4.ensures.value ∙
    held s.seconds.len c.search.new.seconds s.seconds.items seconds_each in
    let spread : HasSpread (get_or c.args.own.now c.args.start []) (length (get_or c.args.own.now c.args.start [])) c.spread.new.via =
    rw label at c.spread.ensures in
    let found : (arcs : List Arc) → All (IsArcAmong (length c.args.hops.now)) arcs → AreNodeHops arcs (length c.args.hops.now) c.args.hops.now →
    IsPruned arcs (length c.args.hops.now) c.args.start c.args.labels.now c.spread.new.via c.search.new.seconds = rw via at c.in_ok-search.ensures.found in
    let via' : c.deref-3.result.now ≡ c.spread.new.via = c.deref-3.ensures.value ∙ held s.via.len c.spread.new.via s.via.items via_each in
    let hands : HandsOver c.args.start c.spread.new.via c.search.new.taken.items (length c.search.new.taken.items) c.search.new.seconds c.args.labels.now
    c.hand_over.new.seconds c.hand_over.new.labels = rw (via', c.deref-2.ensures.value, seconds) at c.in_ok-hand_over.ensures in
    adds_hub c.args.hops.now c.args.own.now c.args.start c.args.labels.now c.hand_over.new.labels c.spread.new.via c.search.new.taken.items c.search.new.seconds
    c.hand_over.new.seconds c.requires.few c.requires.start via_n spread found c.in_ok-search.ensures.noted hands

pub hand_over-requires-clause-hubs : goal.hand_over-requires-clause-hubs
hand_over-requires-clause-hubs c =
    let s = c.args.space.now in
    let via_each : length c.spread.new.via ≡ c.args.space.now.via.len = omega (arith, c.spread.auto.via, ap length c.deref_mut.ensures.value, s.via.ok.0) in
    let via_n : length c.spread.new.via ≡ length c.args.hops.now = omega (
      arith,
      c.spread.auto.via,
      ap length c.deref_mut.ensures.value,
      c.requires.clean.via_each,
    ) in
    let via' : c.deref-3.result.now ≡ c.spread.new.via = c.deref-3.ensures.value ∙ held s.via.len c.spread.new.via s.via.items via_each in
    subst (λ (n : ℕ). All (λ (label : List Hub). All (λ (hub : Hub). hub.node < n) label) c.args.labels.now) (sym (ap length via' ∙ via_n)) c.requires.labels.1
