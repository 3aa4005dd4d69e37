-- When every node had its searches, the labels are those of the network.
use Rattle.std.proofs.Common.{◌≡◌, ℕ, ◌<◌, ◌≤◌, true, List, [], length, get_or, slice_index, map, All, sym, ◌∙◌, subst, arith}
use Rattle.travel_times.proofs.Common.{
  get_or_default,
  Arc,
  IsLeastTime,
  Roads,
  IsNetwork,
  IsArcAmong,
  Hub,
  IsForwardHub,
  IsBackwardHub,
  IsLabel,
  AreLabelsOf,
  turned,
  IsNodeOrder,
  IsRanking,
  AreRanksOf,
  AreLabelled,
  IsRankedHub,
  IsLabelBelow,
  AreLabelsBelow,
  IsRising,
  RiseByRank,
}
use Rattle.travel_times.proofs.lemmas.search.WalkLemmas.{goal_within}
use Rattle.travel_times.proofs.labels.Times.{times_of, start_within, time_is}
use Rattle.travel_times.proofs.labels.Building.{rank_below}
use Rattle.travel_times.proofs.labels.Turned.{among_directed, turn_there, turn_back, IsLeastTime-turned}

-- a list of hubs by numbers that rank them is one by rank
is_label : (arcs : List Arc) (n : ℕ) (rank : List ℕ) (bound : ℕ) (IsHub IsRanked : ℕ → ℕ → Type 0) (label : List Hub) → IsRanking arcs n rank →
    ((v : ℕ) → v < n → slice_index rank v < bound)
    → ((v s : ℕ) → IsRanked v s → v < n) → ((v s : ℕ) → IsRanked v s → IsHub v s) → ((v s : ℕ) → IsHub v s → IsRanked v s) →
    IsLabelBelow rank IsRanked bound label → IsLabel arcs IsHub label
is_label arcs n rank bound IsHub IsRanked label ranking past inside to from below = record {
  by_rank = λ i j d lt h.
      let one = below.sound i d (omega arith) in
      (ranking.lower (get_or label i d).node (get_or label j d).node (inside _ _ one.0) (inside _ _ (below.sound j d h).0)).1 (below.rising i j d lt h);
  hubs = λ hub. (
    (λ (k, h, is). to hub.node hub.seconds ((rw is at (below.sound k hub h)).0)),
    (λ of. let ranked = from hub.node hub.seconds of in below.complete hub ranked (past hub.node (inside hub.node hub.seconds ranked))),
  );
}

module _ {arcs : List Arc} {n : ℕ} {rank : List ℕ} (among : All (IsArcAmong n) arcs) (ranking : IsRanking arcs n rank) where
  inside : (b h s : ℕ) → b < n → IsLeastTime arcs h b s → h < n
  inside b h s hb least = start_within arcs least.walk n h b among least.walks hb

  backward_to : (b h s : ℕ) → b < n → IsRankedHub arcs rank b h s → IsBackwardHub arcs b h s
  backward_to b h s hb hub = record {
    time = hub.time;
    first = λ w before after low from to. hub.first w before after ((ranking.lower w h (inside b w after hb to) (inside b h s hb hub.time)).0 low) from to;
  }

  backward_from : (b h s : ℕ) → b < n → IsBackwardHub arcs b h s → IsRankedHub arcs rank b h s
  backward_from b h s hb hub = record {
    time = hub.time;
    first = λ w before after low from to. hub.first w before after ((ranking.lower w h (inside b w after hb to) (inside b h s hb hub.time)).1 low) from to;
  }

  turned_there : (v w t : ℕ) → IsLeastTime arcs v w t → IsLeastTime (map turned arcs) w v t
  turned_there v w t least = IsLeastTime-turned arcs (map turned arcs) v w t (turn_there arcs) (turn_back arcs) least

  turned_back : (v w t : ℕ) → IsLeastTime (map turned arcs) v w t → IsLeastTime arcs w v t
  turned_back v w t least = IsLeastTime-turned (map turned arcs) arcs v w t (turn_back arcs) (turn_there arcs) least

  goal_inside : (a h s : ℕ) → a < n → IsLeastTime arcs a h s → h < n
  goal_inside a h s ha least = goal_within arcs least.walk n a h among least.walks ha

  forward_to : (a h s : ℕ) → a < n → IsRankedHub (map turned arcs) rank a h s → IsForwardHub arcs a h s
  forward_to a h s ha hub = record {
    time = turned_back h a s hub.time;
    first = λ w before after low from to e.
        hub.first w after before ((ranking.lower w h (goal_inside a w before ha from) (goal_inside a h s ha (turned_back h a s hub.time))).0 low)
        (turned_there w h after to) (turned_there a w before from) (omega (arith, e));
  }

  forward_from : (a h s : ℕ) → a < n → IsForwardHub arcs a h s → IsRankedHub (map turned arcs) rank a h s
  forward_from a h s ha hub = record {
    time = turned_there a h s hub.time;
    first = λ w before after low from to e.
        hub.first w after before ((ranking.lower w h (goal_inside a w after ha (turned_back w a after to)) (goal_inside a h s ha hub.time)).1 low)
        (turned_back w a after to) (turned_back h w before from) (omega (arith, e));
  }

pub labels_of_network : (roads : Roads) (rank : List ℕ) (bound : ℕ) (forward backward : List (List Hub)) → IsNetwork roads →
    IsRanking roads.arcs (length roads.nodes) rank → ((v : ℕ) → v < length roads.nodes → slice_index rank v < bound)
    → AreLabelsBelow (map turned roads.arcs) rank (length roads.nodes) bound forward → AreLabelsBelow roads.arcs rank (length roads.nodes) bound backward →
    AreLabelsOf roads (record { forward = forward; backward = backward })
labels_of_network roads rank bound forward backward network ranking past ahead back =
    let arcs : List Arc = roads.arcs in
    let n : ℕ = length roads.nodes in
    record {
      network = network;
      forward_each = ahead.each;
      backward_each = back.each;
      forward = λ a ha. is_label arcs n rank bound (IsForwardHub arcs a) (IsRankedHub (map turned arcs) rank a) (get_or forward a []) ranking past
          (λ v s hub. goal_inside network.arcs ranking a v s ha (turned_back network.arcs ranking v a s hub.time))
          (λ v s. forward_to network.arcs ranking a v s ha) (λ v s. forward_from network.arcs ranking a v s ha) (ahead.labelled a ha);
      backward = λ b hb. is_label arcs n rank bound (IsBackwardHub arcs b) (IsRankedHub arcs rank b) (get_or backward b []) ranking past
          (λ v s hub. inside network.arcs ranking b v s hb hub.time) (λ v s. backward_to network.arcs ranking b v s hb)
          (λ v s. backward_from network.arcs ranking b v s hb) (back.labelled b hb);
    }

-- labels so far rise by rank
pub labels_rise : (arcs : List Arc) (n : ℕ) (rank : List ℕ) (bound : ℕ) (labels : List (List Hub)) → All (IsArcAmong n) arcs → n ≤ 100000 → length rank ≡ n →
    AreLabelsBelow arcs rank n bound labels → All (IsRising rank) labels
labels_rise arcs n rank bound labels among few each below b d inside =
    let hb : b < n = omega (arith, below.each, inside) in
    let lab = below.labelled b hb in
    subst (λ (label : List Hub). IsRising rank label) (get_or_default labels b [] d inside) (record {
      within = λ k e h.
          let ranked = (lab.sound k e h).0 in
          let hub : Hub = get_or (get_or labels b []) k e in
          let hv : hub.node < n = start_within arcs ranked.time.walk n hub.node b among ranked.time.walks hb in
          let is = time_is among few (times_of arcs n among few).1 hub.node b hub.seconds hv hb ranked.time in
          (omega (arith, hv, each), omega (arith, is.0, is.1));
      rising = lab.rising;
    })

-- when all nodes are labelled
pub labels_made : (roads : Roads) (order rank : List ℕ) (forward backward : List (List Hub)) → IsNetwork roads →
    IsNodeOrder roads.arcs (length roads.nodes) order → AreRanksOf roads.arcs (length roads.nodes) order rank →
    AreLabelled roads.arcs rank (length roads.nodes) (length order) forward backward → AreLabelsOf roads (record { forward = forward; backward = backward })
labels_made roads order rank forward backward network of ranks all = labels_of_network roads rank (length order) forward backward network ranks.ranking
    (rank_below roads.arcs (length roads.nodes) order rank of ranks.placed) all.reached all.reaching

pub labels_rise_by_rank : (roads : Roads) (order rank : List ℕ) (forward backward : List (List Hub)) → IsNetwork roads →
    AreRanksOf roads.arcs (length roads.nodes) order rank → AreLabelled roads.arcs rank (length roads.nodes) (length order) forward backward →
    RiseByRank rank forward backward
labels_rise_by_rank roads order rank forward backward network ranks all =
    let n : ℕ = length roads.nodes in
    let each = ranks.ranking.each in
    record {
      backward_each = all.reaching.each ∙ sym all.reached.each;
      apart = rw each ranks.ranking.apart;
      forward_rising = labels_rise (map turned roads.arcs) n rank (length order) forward (among_directed true roads.arcs n network.arcs) network.few_nodes each
          all.reached;
      backward_rising = labels_rise roads.arcs n rank (length order) backward network.arcs network.few_nodes each all.reaching;
    }
