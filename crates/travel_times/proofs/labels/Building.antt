-- One node after the other becomes a hub, in both directions.
use Rattle.std.proofs.Common.{
  ◌≡◌,
  ℕ,
  ◌+◌,
  ◌<◌,
  ◌≤◌,
  true,
  List,
  [],
  ◌++◌,
  length,
  take,
  drop,
  slice_index,
  replicate,
  map,
  All,
  refl,
  sym,
  ap,
  ◌∙◌,
  subst,
  arith,
}
use Rattle.travel_times.proofs.Common.{
  Arc,
  Hop,
  Roads,
  IsNetwork,
  IsArcAmong,
  Hub,
  turned,
  AreNodeHops,
  key_of,
  IsNodeOrder,
  AreLabelsBelow,
  AreHopsBothWays,
  AddsHub,
  AreMadeFrom,
  AreRanksOf,
  AreLabelled,
  get_or-replicate,
  length-replicate,
  take_at,
}
use Rattle.travel_times.proofs.labels.Turned.{turn_there, turn_back, among_directed}
use Rattle.travel_times.proofs.labels.Order.{ranking}

-- a vector whose elements were written through a slice
pub held : {X : Type 0} (size : ℕ) (new old : List X) → length new ≡ size → take size (new ++ drop (length new) old) ≡ new
held size new old each = take_at new (drop (length new) old) size each

-- nodes by rank differ
pub order_apart : (arcs : List Arc) (n : ℕ) (order : List ℕ) → IsNodeOrder arcs n order → (r s : ℕ) → r < s → s < length order →
    slice_index order r ≡ slice_index order s → ⊥
order_apart arcs n order of r s lt h same = omega (arith, of.rising r s lt h, ap (key_of arcs) same)

pub ahead_both_ways : (arcs : List Arc) (n : ℕ) (hops : List (List Hop)) → All (IsArcAmong n) arcs → AreNodeHops arcs n hops →
    AreHopsBothWays n arcs (map turned arcs) hops
ahead_both_ways arcs n hops among are = record {
  among = among;
  others_among = among_directed true arcs n among;
  there = turn_there arcs;
  back =
      turn_back arcs;
  placed = are;
}

pub back_both_ways : (arcs : List Arc) (n : ℕ) (hops : List (List Hop)) → All (IsArcAmong n) arcs → AreNodeHops (map turned arcs) n hops →
    AreHopsBothWays n (map turned arcs) arcs hops
back_both_ways arcs n hops among are = record {
  among = among_directed true arcs n among;
  others_among = among;
  there = turn_back arcs;
  back =
      turn_there arcs;
  placed = are;
}

-- the searches of the node at place i, in one direction
pub one_way : (arcs others : List Arc) (n i start bound : ℕ) (rank : List ℕ) (hops : List (List Hop)) (own before after : List (List Hub)) → length hops ≡ n →
    AreHopsBothWays n arcs others hops → ((a b : ℕ) → a < n → b < n → slice_index rank a ≡ slice_index rank b → a ≡ b)
    → slice_index rank start ≡ i → i ≤ bound → AreLabelsBelow others rank n bound own → AreLabelsBelow arcs rank n i before →
    AddsHub (length hops) hops own start before after → AreLabelsBelow arcs rank n (i + 1) after
one_way arcs others n i start bound rank hops own before after each both apart is le below so_far added =
    subst (λ (r : ℕ). AreLabelsBelow arcs rank n (r + 1) after) is
    ((subst (λ (m : ℕ). AddsHub m hops own start before after) each added) arcs others rank bound both apart (omega arith) below
    (subst (λ (r : ℕ). AreLabelsBelow arcs rank n r before) (sym is) so_far))

-- no label has a hub of a rank below 0
none_below : (arcs : List Arc) (rank : List ℕ) (n : ℕ) → AreLabelsBelow arcs rank n 0 (replicate n [])
none_below arcs rank n = record {
  each = length-replicate n [];
  labelled = λ b hb. rw (get_or-replicate {A = List Hub} n b [] [] hb)
      (record {
        rising = λ i j d lt h. absurd (omega (arith, h));
        sound = λ k d h. absurd (omega (arith, h));
        complete =
            λ hub is low. absurd (omega (arith, low));
      });
}

pub none_labelled : (arcs : List Arc) (rank : List ℕ) (n : ℕ) → AreLabelled arcs rank n 0 (replicate n []) (replicate n [])
none_labelled arcs rank n = record { reached = none_below (map turned arcs) rank n; reaching = none_below arcs rank n }

-- both searches of the node at place i
pub both_ways : (arcs : List Arc) (rank order : List ℕ) (ahead back : List (List Hop)) (i start : ℕ) (forward backward backward' : List (List Hub)) →
    AreMadeFrom arcs rank order ahead back → i < length order → start ≡ slice_index order i
    → AreLabelled arcs rank (length ahead) i forward backward → AddsHub (length ahead) ahead forward start backward backward' →
    AreLabelsBelow arcs rank (length ahead) (i + 1) backward'
both_ways arcs rank order ahead back i start forward backward backward' made inside is so_far added =
    one_way arcs (map turned arcs) (length ahead) i start i rank ahead forward backward backward' refl
    (ahead_both_ways arcs (length ahead) ahead made.among made.there) made.ranks.ranking.apart (ap (slice_index rank) is ∙ made.ranks.placed i inside)
    (omega arith) so_far.reached so_far.reaching added

pub labelled_more : (arcs : List Arc) (rank order : List ℕ) (ahead back : List (List Hop)) (i start : ℕ) (forward backward forward' backward' : List (List Hub))
    → AreMadeFrom arcs rank order ahead back → i < length order → start ≡ slice_index order i
    → AreLabelled arcs rank (length ahead) i forward backward → AddsHub (length ahead) ahead forward start backward backward' →
    AddsHub (length back) back backward' start forward forward' → AreLabelled arcs rank (length ahead) (i + 1) forward' backward'
labelled_more arcs rank order ahead back i start forward backward forward' backward' made inside is so_far added added' =
    let back_too = both_ways arcs rank order ahead back i start forward backward backward' made inside is so_far added in
    record {
      reached = one_way (map turned arcs) arcs (length ahead) i start (i + 1) rank back backward' forward forward' made.turned_round.each
          (back_both_ways arcs (length ahead) back made.among made.turned_round) made.ranks.ranking.apart
          (ap (slice_index rank) is ∙ made.ranks.placed i inside) (omega arith) back_too so_far.reached added';
      reaching = back_too;
    }

-- the ranks, from what the calls before the searches say
pub ranks_are : (roads : Roads) (order rank : List ℕ) → IsNetwork roads → IsNodeOrder roads.arcs (length roads.nodes) order →
    (length rank ≡ length roads.nodes) × ((r : ℕ) → r < length order → slice_index rank (slice_index order r) ≡ r) →
    AreRanksOf roads.arcs (length roads.nodes) order rank
ranks_are roads order rank network of (each, placed) = record {
  ranking = ranking roads.arcs (length roads.nodes) order rank network.few_nodes network.few_arcs
      of each placed;
  placed = placed;
}

-- every rank is below the number of nodes
pub rank_below : (arcs : List Arc) (n : ℕ) (order rank : List ℕ) → IsNodeOrder arcs n order →
    ((r : ℕ) → r < length order → slice_index rank (slice_index order r) ≡ r) → (v : ℕ) → v < n → slice_index rank v < length order
rank_below arcs n order rank of placed v h =
    let at = of.all v h in
    omega (arith, at.1, sym (ap (slice_index rank) at.2) ∙ placed at.0 at.1)

pub made_from : (arcs : List Arc) (order rank : List ℕ) (ahead back : List (List Hop)) (n : ℕ) → All (IsArcAmong n) arcs → AreNodeHops arcs n ahead →
    AreNodeHops (map turned arcs) n back → AreRanksOf arcs n order rank → AreMadeFrom arcs rank order ahead back
made_from arcs order rank ahead back n among of_ahead of_back ranks =
    let is : n ≡ length ahead = sym of_ahead.each in
    record { among = rw is at among; there = rw is at of_ahead; turned_round = rw is at of_back; ranks = rw is at ranks }
