-- The searches of one node, put together.
use Rattle.std.proofs.Common.{rules, ◌≡◌, ◌≢◌, ℕ, ◌<◌, ◌≤◌, ◌⊎◌, List, [], length, get_or, slice_index, All, Contains, sym, ap, ◌∙◌, subst, inl, inr, arith}
use Rattle.travel_times.proofs.Common.{
  get_or_default,
  never,
  longest,
  Arc,
  Hop,
  IsArcAmong,
  Hub,
  AreNodeHops,
  IsLabelBelow,
  AreLabelsBelow,
  IsRankedHub,
  IsPruned,
  IsSpread,
  HasSpread,
  GainsHub,
  HandsOver,
  IsAmongHubs,
  AddsHub,
}
use Rattle.travel_times.proofs.labels.Times.{times_of, start_within}
use Rattle.travel_times.proofs.labels.Turned.{own_label}
use Rattle.travel_times.proofs.labels.Added.{hubs_added}

-- a label whose ranks rise has each node once, so what is spread is the label
spread_of_label : (n : ℕ) (rank : List ℕ) (IsHub : ℕ → ℕ → Type 0) (bound : ℕ) (label : List Hub) (via : List ℕ) → length via ≡ n →
    IsLabelBelow rank IsHub bound label → HasSpread label (length label) via → IsSpread n label via
spread_of_label n rank IsHub bound label via each below spread = record {
  each = each;
  sound = λ node h. elim (spread.sound node (omega (arith, h, each))) [
    | inl far ↦ inl far
    | inr at ↦ inr (
      at.0,
      at.2,
      get_or_default label at.0 (record { node = node; seconds = slice_index via node }) (record { node = 0; seconds = 0 }) at.2 ∙
          at.3,
    )
  ];
  complete = λ hub (k, inside, is).
      let apart : (j : ℕ) (e : Hub) → k < j → j < length label → (get_or label j e).node ≢ (get_or label k hub).node = λ j e lt h same.
      omega (arith, below.rising k j e lt h, ap (slice_index rank) (ap (λ (x : Hub). x.node) (get_or_default label k e hub inside) ∙ sym same)) in
      sym (ap (slice_index via) (ap (λ (x : Hub). x.node) is)) ∙ spread.complete k hub inside inside apart ∙ ap (λ (x : Hub). x.seconds) is;
}

-- what is spread stands at hubs alone
pub spread_among : (label : List Hub) (via : List ℕ) → HasSpread label (length label) via → (node : ℕ) → node < length via → IsAmongHubs label 0 via node
spread_among label via spread node h = elim (spread.sound node h) [
  | inl far ↦ inl far
  | inr (k, lt, inside, is) ↦ inr
      (k, omega arith, inside, ap (λ (x : Hub). x.node) is)
]

-- every node that was found was handed over
pub handed : (n start : ℕ) (via taken seconds : List ℕ) (labels : List (List Hub)) (after : List ℕ) (labels' : List (List Hub)) → length seconds ≡ n →
    ((node : ℕ) → node < n → (slice_index seconds node ≡ never) ⊎ (slice_index seconds node ≤ longest))
    → ((node : ℕ) → node < length seconds → slice_index seconds node < never → Contains taken node) →
    HandsOver start via taken (length taken) seconds labels after labels'
    → (node : ℕ) → node < n → (slice_index after node ≡ never) × GainsHub start via (slice_index seconds node) (get_or labels node []) (get_or labels' node [])
handed n start via taken seconds labels after labels' each range noted hands node h = search (rules, get_or_default)

pub found_range : (arcs : List Arc) (n start : ℕ) (labels : List (List Hub)) (via seconds : List ℕ) → IsPruned arcs n start labels via seconds → (node : ℕ) →
    node < n → (slice_index seconds node ≡ never) ⊎ (slice_index seconds node ≤ longest)
found_range arcs n start labels via seconds pruned node h = elim (pruned.sound node h) [ inl far ↦ inl far | inr found ↦ inr found.0 ]

pub adds_hub : (hops : List (List Hop)) (own : List (List Hub)) (start : ℕ) (before after : List (List Hub)) (via taken seconds seconds' : List ℕ) →
    length hops ≤ 100000 → start < length hops → length via ≡ length hops
    → HasSpread (get_or own start []) (length (get_or own start [])) via
    → ((arcs : List Arc) → All (IsArcAmong (length hops)) arcs → AreNodeHops arcs (length hops) hops → IsPruned arcs (length hops) start before via seconds)
    → ((node : ℕ) → node < length seconds → slice_index seconds node < never → Contains taken node) →
    HandsOver start via taken (length taken) seconds before seconds' after → AddsHub (length hops) hops own start before after
adds_hub hops own start before after via taken seconds seconds' few hs via_each spread found noted hands arcs others rank bound both apart le below labels =
    let n : ℕ = length hops in
    let pruned = found arcs both.among both.placed in
    let times = times_of arcs n both.among few in
    let mine = own_label arcs others n times.0 rank start bound own both.there both.back both.among both.others_among few times.1 hs le below in
    let spread' = spread_of_label n rank (IsRankedHub others rank start) bound (get_or own start []) via via_each (below.labelled start hs) spread in
    hubs_added both.among few times.1 hs labels mine spread' pruned apart after hands.labels_length
    (λ b hb. (handed n start via taken seconds before seconds' after pruned.each (found_range arcs n start before via seconds pruned) noted hands b hb).1)

-- hubs are nodes of the network
pub labels_within : (arcs : List Arc) (n : ℕ) (rank : List ℕ) (bound : ℕ) (labels : List (List Hub)) → All (IsArcAmong n) arcs →
    AreLabelsBelow arcs rank n bound labels → All (λ label. All (λ (hub : Hub). hub.node < n) label) labels
labels_within arcs n rank bound labels among below b d h =
    let hb : b < n = omega (arith, below.each, h) in
    subst (λ (label : List Hub). All (λ (hub : Hub). hub.node < n) label) (get_or_default labels b [] d h)
    (λ k e inside. let hub = ((below.labelled b hb).sound k e inside).0 in start_within arcs hub.time.walk n (get_or (get_or labels b []) k e).node b among
    hub.time.walks hb)
